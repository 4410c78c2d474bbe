use Rattle.std.proofs.Common.{rules, ◌≡◌, [], ◌∷◌, ◌++◌, sym, ap, ◌∙◌, true, false}
use Rattle.std.specs.Prelude.{reverse}
use Rattle.std.proofs.lemmas.List.{reverse-append}
use Rattle.mq_rules.specs.Notes.{is_open}
use Rattle.mq_rules.specs.Moments.{note, since}
use Rattle.mq_rules.specs.Connections.{connection}
use Rattle.mq_plain.proofs.LookbackLaws.{since-connection, over_at_open}
use Rattle.mq_plain.proofs.connection.since_on_connection.Goals as goal

pub returns-then-is_open : goal.returns-then-is_open
returns-then-is_open g c =
    let e = c.in-Some.event.now in
    let rest = c.in-Some.rest.now in
    let starts = g.S.NoteTest.test c.args.starts.now in
    let ends = g.E.NoteTest.test c.args.ends.now in
    let parts : c.loop-event.earlier.now ≡ rest ++ e ∷ [] = search rules in
    let front : reverse c.loop-event.earlier.now ≡ e ∷ reverse rest = ap reverse parts ∙ reverse-append rest (e ∷ []) in
    let begun : starts e.note ≡ false = search rules in
    let ended : ends e.note ≡ false = search rules in
    let opens : is_open e.note ≡ true = search rules in
    sym (ap (λ es. since (λ m. starts (note m)) (λ m. ends (note m)) (connection es)) front ∙ since-connection starts ends e (reverse rest)
    ∙ over_at_open (starts e.note) (ends e.note) (is_open e.note) (since (λ m. starts (note m)) (λ m. ends (note m)) (connection (reverse rest))) begun ended opens)
    ∙ c.loop-event.invariant
