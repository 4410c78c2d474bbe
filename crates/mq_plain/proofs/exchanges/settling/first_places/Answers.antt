use Rattle.std.proofs.Common.{rules, ◌≡◌, cond, [], ◌∷◌, ◌++◌, sym, ap, ◌∙◌, length}
use Rattle.mq_rules.specs.Moments.{note}
use Rattle.mq_plain.specs.Unanswered.{is_first_in}
use Rattle.mq_plain.proofs.ShowingLaws.{shown-step, length-before}
use Rattle.mq_plain.proofs.exchanges.settling.first_places.Goals.{then-is_first+in_ok-push, else-is_first}
use Rattle.mq_plain.proofs.exchanges.settling.first_places.Goals as goal

pub loop-i-preserved : goal.loop-i-preserved
loop-i-preserved g c = λ placed.
    let x = g.X.Exchange.exchange in
    let slots = c.args.slots.now in
    let seen = c.args.before.now in
    let i = c.loop-i.i in
    let e = c.index-before-i.result in
    let old = c.loop-i.places.items in
    let grown : c.if-is_first.places.items ≡ cond c.is_first.result (old ++ e.place ∷ []) old
    = elim c.if-is_first.branch [ then-is_first+in_ok-push w ↦ search rules | else-is_first w ↦ search rules ] in
    shown-step (λ m. is_first_in x slots (length m.past) (note m)) seen i e c.is_first.result old c.if-is_first.places.items placed c.loop-i-test.true c.index-before-i.is
    (c.is_first.ensures ∙ ap (λ n. is_first_in x slots n e.note) (sym (length-before seen i c.loop-i-test.true))) grown (c.loop-i.invariant placed)
