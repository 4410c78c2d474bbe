use Rattle.std.proofs.Common.{rules, ◌≡◌, ◌&&◌, nat_lt, [], ◌∷◌, ◌++◌, sym, ap, ◌∙◌, true, false, length}
use Rattle.std.specs.Prelude.{reverse}
use Rattle.std.proofs.lemmas.List.{reverse-append, length-reverse}
use Rattle.mq_rules.specs.Notes.{is_open}
use Rattle.mq_rules.specs.Moments.{note, some}
use Rattle.mq_rules.specs.Connections.{connection}
use Rattle.mq_plain.specs.Unanswered.{is_first_in}
use Rattle.mq_plain.proofs.ConnectionLaws.{none_at_open}
use Rattle.mq_plain.proofs.exchanges.ordering.is_any_before.Goals as goal

pub returns-then-is_open : goal.returns-then-is_open
returns-then-is_open g c =
    let x = g.X.Exchange.exchange in
    let e = c.in-Some.event.now in
    let rest = c.in-Some.rest.now in
    let parts : c.loop-event.earlier.now ≡ rest ++ e ∷ [] = search rules in
    let front : reverse c.loop-event.earlier.now ≡ e ∷ reverse rest = ap reverse parts ∙ reverse-append rest (e ∷ []) in
    let opens : is_open e.note ≡ true = search rules in
    let fails : (nat_lt (length rest) c.args.first && is_first_in x c.args.slots.now (length rest) e.note) ≡ false = sym c.is_first_before.ensures ∙ c.if-is_first_before.false in
    let here : (nat_lt (length (reverse rest)) c.args.first && is_first_in x c.args.slots.now (length (reverse rest)) e.note) ≡ false
    = ap (λ n. nat_lt n c.args.first && is_first_in x c.args.slots.now n e.note) (length-reverse rest) ∙ fails in
    sym (ap (λ es. some (λ m. nat_lt (length m.past) c.args.first && is_first_in x c.args.slots.now (length m.past) (note m)) (connection es)) front
    ∙ none_at_open (λ m. nat_lt (length m.past) c.args.first && is_first_in x c.args.slots.now (length m.past) (note m)) e (reverse rest) here opens)
    ∙ c.loop-event.invariant
