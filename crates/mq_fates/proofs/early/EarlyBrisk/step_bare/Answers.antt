use Rattle.std.proofs.Common.{◌∙◌, ◌∷◌, ◌+◌, ◌&&◌, length, sym, subst}
use Rattle.mq_rules.specs.Notes.{note_of_bare}
use Rattle.mq_rules.specs.Histories.{is_left_by}
use Rattle.mq_rules.specs.Under.{seen, turns_with}
use Rattle.mq_rules.specs.Growing.{Gains, GainsWithin}
use Rattle.mq_rules.proofs.Exports.{bare-closed, both_true, gains_same, on_err, within_same}
use Rattle.mq_fates.specs.Holding.{is_nothing, turns_session}
use Rattle.mq_fates.proofs.AtOnceLaws.{at-once}
use Rattle.mq_fates.proofs.early.EarlyBrisk.step_bare.Goals as goal

pub returns-in_ok-fated-in-Some-clause-agrees : goal.returns-in_ok-fated-in-Some-clause-agrees
returns-in_ok-fated-in-Some-clause-agrees g c = λ tested taken past follows takes h.
    let s = c.args.self.now in
    let e = seen c.args.at (note_of_bare c.args.bare) in
    let quick = both_true (is_left_by s.history (note_of_bare c.args.bare)) (is_nothing s.held.items) (sym c.is_left_by.ensures ∙ c.if-not-is_left_by.false) in
    let o = at-once (g.W.Fated.agrees s.watcher tested) (g.W.Fated.agrees c.fated.new.self tested) g.W.Fated.judges s.role s.fate s.history s.held.items tested c.in-Some.fate e past h follows
    quick.0 c.in-Some.is quick.1 (bare-closed c.args.bare) in
    o.after (c.in_ok-fated-in-Some.ensures.agrees tested past o.under o.before)

pub returns-in_ok-fated-in-Some-clause-grows : goal.returns-in_ok-fated-in-Some-clause-grows
returns-in_ok-fated-in-Some-clause-grows g c = λ tested taken past follows takes h.
    let s = c.args.self.now in
    let e = seen c.args.at (note_of_bare c.args.bare) in
    let quick = both_true (is_left_by s.history (note_of_bare c.args.bare)) (is_nothing s.held.items) (sym c.is_left_by.ensures ∙ c.if-not-is_left_by.false) in
    let o = at-once (g.W.Fated.agrees s.watcher tested) (g.W.Fated.agrees c.fated.new.self tested) g.W.Fated.judges s.role s.fate s.history s.held.items tested c.in-Some.fate e past h follows
    quick.0 c.in-Some.is quick.1 (bare-closed c.args.bare) in
    gains_same (λ k r. g.W.Fated.judges r && turns_with tested c.in-Some.fate e past k r) (λ k r. g.W.Fated.judges r && turns_session tested e past k r) tested (e ∷ past) (length past + 1) c.args.faults.now c.fated.new.faults o.same
    (subst (λ n. Gains (λ k r. g.W.Fated.judges r && turns_with tested c.in-Some.fate e past k r) tested (e ∷ past) n c.args.faults.now c.fated.new.faults) follows.placed.0 (c.in_ok-fated-in-Some.ensures.grows tested past o.under o.before))

pub returns-in_err-fated-in-Some-clause-memory : goal.returns-in_err-fated-in-Some-clause-memory
returns-in_err-fated-in-Some-clause-memory g c =
    on_err c.from_residual.result _ (λ tested taken past follows takes h.
    let s = c.args.self.now in
    let e = seen c.args.at (note_of_bare c.args.bare) in
    let quick = both_true (is_left_by s.history (note_of_bare c.args.bare)) (is_nothing s.held.items) (sym c.is_left_by.ensures ∙ c.if-not-is_left_by.false) in
    let o = at-once (g.W.Fated.agrees s.watcher tested) (g.W.Fated.agrees c.fated.new.self tested) g.W.Fated.judges s.role s.fate s.history s.held.items tested c.in-Some.fate e past h follows
    quick.0 c.in-Some.is quick.1 (bare-closed c.args.bare) in
    within_same (λ k r. g.W.Fated.judges r && turns_with tested c.in-Some.fate e past k r) (λ k r. g.W.Fated.judges r && turns_session tested e past k r) tested (e ∷ past) (length past + 1) c.args.faults.now c.fated.new.faults o.same
    (subst (λ n. GainsWithin (λ k r. g.W.Fated.judges r && turns_with tested c.in-Some.fate e past k r) tested (e ∷ past) n c.args.faults.now c.fated.new.faults) follows.placed.0 (c.in_err-fated-in-Some.ensures.memory tested past o.under o.before)))
