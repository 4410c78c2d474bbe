use Rattle.std.proofs.Common.{rules, ◌≡◌, ◌+◌, [], ◌∷◌, ◌++◌, cond, sym, ap, ◌∙◌, true}
use Rattle.std.specs.Prelude.{reverse}
use Rattle.std.proofs.lemmas.List.{reverse-append}
use Rattle.mq_rules.specs.Notes.{is_open}
use Rattle.mq_rules.specs.Moments.{note, count}
use Rattle.mq_rules.specs.Connections.{connection}
use Rattle.mq_plain.proofs.ConnectionLaws.{counted_at_open}
use Rattle.mq_plain.proofs.exchanges.pings.count_on_connection.Goals as goal

pub returns-then-is_open : goal.returns-then-is_open
returns-then-is_open g c =
    let test = g.T.NoteTest.test c.args.test.now in
    let e = c.in-Some.event.now in
    let rest = c.in-Some.rest.now in
    let counted = c.loop-event.counted in
    let one = c.from-counted.result in
    let parts : c.loop-event.earlier.now ≡ rest ++ e ∷ [] = search rules in
    let front : reverse c.loop-event.earlier.now ≡ e ∷ reverse rest = ap reverse parts ∙ reverse-append rest (e ∷ []) in
    let opens : is_open e.note ≡ true = search rules in
    let here : one ≡ cond (test e.note) 1 0 = search rules in
    counted_at_open (λ m. test (note m)) e (reverse rest) counted one here opens
    ∙ sym (ap (λ es. counted + count (λ m. test (note m)) (connection es)) front)
    ∙ c.loop-event.invariant.left
