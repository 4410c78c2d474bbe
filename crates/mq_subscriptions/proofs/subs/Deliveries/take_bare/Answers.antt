use Rattle.std.proofs.Common.{◌≡◌, ◌||◌, ◌∷◌, nat_eq, refl, subst}
use Rattle.indexmap.specs.IndexMap.{get}
use Rattle.mq_rules.specs.declared.rule.Rule.TheVariants.{B01, B02}
use Rattle.mq_rules.specs.Notes.{note_of_bare}
use Rattle.mq_rules.specs.Rules.{same_rule, binds}
use Rattle.mq_rules.specs.Under.{seen}
use Rattle.mq_rules.proofs.Exports.{on_err}
use Rattle.mq_subscriptions.specs.Standings.{IsStanding}
use Rattle.mq_fates.proofs.Exports.{knows, known-gains}
use Rattle.mq_subscriptions.proofs.subs.Deliveries.take_bare.Goals as goal

pub returns-in_default-clause-agrees : goal.returns-in_default-clause-agrees
returns-in_default-clause-agrees c = λ tested taken past follows known q.
    let s = c.args.self.now in
    let e = seen c.args.at (note_of_bare c.args.bare) in
    let k = knows tested s.fate taken e past follows known q.1.same_fate in
    subst (λ o. (s.bound ≡ binds B01 tested) × IsStanding s.fate s.filters.settled s.filters.waiting s.sharing (get nat_eq s.topics) tested o (e ∷ past)) k.after
    (c.passes.ensures tested s.fate e.place.position e past (c.in_default.ensures.none refl tested) k.under
    (subst (λ o. (s.bound ≡ binds B01 tested) × IsStanding s.fate s.filters.settled s.filters.waiting s.sharing (get nat_eq s.topics) tested o past) k.before q)).stays

pub returns-in_default-clause-grows : goal.returns-in_default-clause-grows
returns-in_default-clause-grows c = λ tested taken past follows known q.
    let s = c.args.self.now in
    let e = seen c.args.at (note_of_bare c.args.bare) in
    let k = knows tested s.fate taken e past follows known q.1.same_fate in
    known-gains tested s.fate taken (λ r. same_rule r B01 || same_rule r B02) e past c.args.faults.now c.args.faults.now k
    ((c.passes.ensures tested s.fate e.place.position e past (c.in_default.ensures.none refl tested) k.under
    (subst (λ o. (s.bound ≡ binds B01 tested) × IsStanding s.fate s.filters.settled s.filters.waiting s.sharing (get nat_eq s.topics) tested o past) k.before q)).shows c.args.faults.now)

pub returns-clause-agrees : goal.returns-clause-agrees
returns-clause-agrees c = λ tested taken past follows known q. c.in_ok-deliver.ensures.agrees (note_of_bare c.args.bare) tested taken past c.in-Some.ensures.some follows known q

pub returns-clause-grows : goal.returns-clause-grows
returns-clause-grows c = λ tested taken past follows known q. c.in_ok-deliver.ensures.grows (note_of_bare c.args.bare) tested taken past c.in-Some.ensures.some follows known q

pub returns-in_err-deliver-clause-memory : goal.returns-in_err-deliver-clause-memory
returns-in_err-deliver-clause-memory c =
    on_err c.from_residual.result _ (λ tested taken past follows known q. c.in_err-deliver.ensures.memory (note_of_bare c.args.bare) tested taken past c.in-Some.ensures.some follows known q)
