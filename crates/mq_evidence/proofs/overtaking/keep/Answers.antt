use Rattle.std.proofs.Common.{rules, ◌≡◌, ◌-◌, [], ◌∷◌, ◌++◌, length, ap, ◌∙◌}
use Rattle.std.specs.List.{slice_get}
use Rattle.mq_evidence.specs.Overtaking.{is_above}
use Rattle.mq_evidence.proofs.OvertakingLaws.{kept-old, kept-new, rising-new}
use Rattle.mq_evidence.proofs.overtaking.keep.Goals as goal

pub returns-then-not-is_last-clause-first : goal.returns-then-not-is_last-clause-first
returns-then-not-is_last-clause-first c = λ n.
    kept-old c.args.resends.now.items c.is_last.result c.args.position c.args.opened n (c.is_last.ensures ∙ ap (λ xs. is_above (slice_get xs (length xs - 1)) c.args.opened) c.as_slice.ensures.value) c.if-not-is_last.true

pub returns-clause-rising : goal.returns-clause-rising
returns-clause-rising c = λ up.
    let pushed : c.push.new.self.items ≡ c.args.resends.now.items ++ record { position = c.args.position; opened = c.args.opened } ∷ [] = search rules in
    rising-new c.args.resends.now.items c.push.new.self.items c.is_last.result c.args.position c.args.opened (c.is_last.ensures ∙ ap (λ xs. is_above (slice_get xs (length xs - 1)) c.args.opened) c.as_slice.ensures.value) c.if-not-is_last.false
    pushed up

pub returns-clause-first : goal.returns-clause-first
returns-clause-first c = λ n.
    let pushed : c.push.new.self.items ≡ c.args.resends.now.items ++ record { position = c.args.position; opened = c.args.opened } ∷ [] = search rules in
    kept-new c.args.resends.now.items c.push.new.self.items c.args.position c.args.opened n pushed
