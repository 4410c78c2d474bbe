use Rattle.std.proofs.Common.{ap, sym, refl, ◌∙◌, Some, None}
use Rattle.mq_rules.specs.Moments.{newest}
use Rattle.mq_rules.specs.Under.{seen}
use Rattle.mq_evidence.specs.Stretches.{stretches}
use Rattle.mq_evidence.proofs.CounterLaws.{S07-found, E7R-found}
use Rattle.mq_evidence.proofs.trail.SessionTrail.find_at_once.Goals as goal

pub returns-in-E1O : goal.returns-in-E1O
returns-in-E1O c = rw c.in-E1O.is (λ tested fate past other is trail. ap (λ x. Some x) (c.of_overtaking.ensures tested.role c.args.at (Some fate) past trail.waiting_are.pubacks_are))

pub returns-in-E2O : goal.returns-in-E2O
returns-in-E2O c = rw c.in-E2O.is (λ tested fate past other is trail. ap (λ x. Some x) (c.of_overtaking-in-E2O.ensures tested.role c.args.at (Some fate) past trail.waiting_are.pubrecs_are))

pub returns-in-E3O : goal.returns-in-E3O
returns-in-E3O c = rw c.in-E3O.is (λ tested fate past other is trail. ap (λ x. Some x) (c.of_overtaking-in-E3O.ensures tested.role c.args.at (Some fate) past trail.waiting_are.pubrels_are))

pub returns-in-S07 : goal.returns-in-S07
returns-in-S07 c = rw c.in-S07.is (λ tested fate past other is trail.
    let k = newest (seen c.args.at c.args.note.now) past in
    ap (λ x. Some x) (c.quota.ensures tested.role k (stretches tested.role (Some fate) past) (sym is) trail.counters_are trail.handshake_is refl ∙ sym (S07-found tested.role (Some fate) None k)))

pub returns-in-E7R : goal.returns-in-E7R
returns-in-E7R c = rw c.in-E7R.is (λ tested fate past other is trail.
    ap (λ x. Some x) (c.pings.ensures tested.role past trail.counters_are ∙ sym (E7R-found tested.role (Some fate) None (newest (seen c.args.at c.args.note.now) past))))
