use Rattle.std.proofs.Common.{◌≡◌, ◌&&◌, ◌||◌, ◌∷◌, true, false, nat_eq, ap, subst, sym, ◌∙◌}
use Rattle.indexmap.specs.IndexMap.{get, get_by_text}
use Rattle.mq_rules.specs.declared.rule.Rule.TheVariants.{B06, B07}
use Rattle.mq_rules.specs.Rules.{same_rule}
use Rattle.mq_rules.specs.FaultKeys.{FaultMap}
use Rattle.mq_rules.proofs.Exports.{on_err}
use Rattle.mq_rules.specs.Under.{seen, turns_with}
use Rattle.mq_rules.specs.Growing.{Gains, GainsWithin}
use Rattle.mq_fates.specs.Judgements.{judged_by}
use Rattle.mq_subscriptions.specs.Deletings.{TakesIn}
use Rattle.mq_subscriptions.specs.Weights.{deletions_weigh}
use Rattle.mq_subscriptions.proofs.DeletionLaws.{deletions-next}
use Rattle.mq_subscriptions.proofs.DeletingLaws.{deletion-gains, deletion-within}
use Rattle.mq_subscriptions.proofs.deletions.Deletions.take_noted.Goals as goal

pub returns-clause-agrees : goal.returns-clause-agrees
returns-clause-agrees c = λ tested past under q.
    let s = c.args.self.now in
    let n = c.take_bound.new.self in
    let e = seen c.args.at c.args.note.now in
    let bound = c.in_ok-take_bound.ensures.bound in (
      bound ∙ q.0,
      λ out. let was : s.bound ≡ false = sym bound ∙ out in ap deletions_weigh (c.in_ok-take_bound.ensures.left was) ∙ q.1 was,
      λ judged.
          let was : s.bound ≡ true = sym bound ∙ judged in
          deletions-next tested c.args.fate e past under.follows.on_connections.0 (get_by_text s.states) (get_by_text n.states) (get nat_eq s.waiting) (get nat_eq n.waiting) (get nat_eq s.removing) (get nat_eq n.removing) s.unclear n.unclear
          (subst (λ at. TakesIn c.args.fate at c.args.note.now (get_by_text s.states) (get_by_text n.states) (get nat_eq s.waiting) (get nat_eq n.waiting) (get nat_eq s.removing) (get nat_eq n.removing) s.unclear n.unclear) under.follows.placed.0 (c.in_ok-take_bound.ensures.taken was))
          (q.2 was),
    )

pub returns-clause-grows : goal.returns-clause-grows
returns-clause-grows c = λ tested past under q.
    let s = c.args.self.now in
    let e = seen c.args.at c.args.note.now in
    subst (λ (m : FaultMap). Gains (λ k r. (same_rule r B06 || same_rule r B07) && turns_with tested c.args.fate e past k r) tested (e ∷ past) c.args.decided c.args.faults.now m)
    (sym (c.in_ok-judge_by-2.ensures.ok ∙ ap (judged_by c.finds_invented-invented.result B07 c.args.at c.args.decided) c.in_ok-judge_by.ensures.ok))
    (deletion-gains tested c.args.fate (get_by_text s.states) (get nat_eq s.waiting) (get nat_eq s.removing) s.unclear c.args.decided e past c.args.faults.now s.bound c.finds_denied-denied.result c.finds_invented-invented.result under q.2 q.0
    c.finds_denied-denied.ensures c.finds_invented-invented.ensures)

pub returns-in_err-judge_by-2-clause-memory : goal.returns-in_err-judge_by-2-clause-memory
returns-in_err-judge_by-2-clause-memory c =
    on_err c.from_residual-in_err-judge_by-2.result _ (λ tested past under q.
    let s = c.args.self.now in
    let e = seen c.args.at c.args.note.now in
    subst (λ (m : FaultMap). GainsWithin (λ k r. (same_rule r B06 || same_rule r B07) && turns_with tested c.args.fate e past k r) tested (e ∷ past) c.args.decided c.args.faults.now m)
    (sym (c.in_err-judge_by-2.ensures.unchanged ∙ c.in_ok-judge_by.ensures.ok))
    (deletion-within tested c.args.fate (get_by_text s.states) (get nat_eq s.waiting) (get nat_eq s.removing) s.unclear c.args.decided e past c.args.faults.now s.bound c.finds_denied-denied.result under q.2 q.0 c.finds_denied-denied.ensures))
