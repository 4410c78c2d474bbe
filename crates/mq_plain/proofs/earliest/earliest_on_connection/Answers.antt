use Rattle.std.proofs.Common.{rules, ◌≡◌, ◌||◌, cond, [], ◌∷◌, ◌++◌, Option, Some, None, sym, ap, ◌∙◌}
use Rattle.std.specs.Prelude.{reverse}
use Rattle.std.proofs.lemmas.List.{reverse-append}
use Rattle.std.specs.Option.{option_or}
use Rattle.mq_rules.specs.Notes.{is_open}
use Rattle.mq_rules.specs.Moments.{Moment, newest, note, earliest_since}
use Rattle.mq_rules.specs.Connections.{connection}
use Rattle.mq_plain.specs.Finding.{moment_of, moment_in}
use Rattle.mq_plain.proofs.EarliestLaws.{earliest-connection, found-on, found-over, map-option_or}
use Rattle.mq_plain.proofs.earliest.earliest_on_connection.Goals as goal

pub returns-then-stops_at : goal.returns-then-stops_at
returns-then-stops_at g c =
    let e = c.in-Some.event.now in
    let rest = c.in-Some.rest.now in
    let starts = g.S.NoteTest.test c.args.starts.now in
    let ends = g.E.NoteTest.test c.args.ends.now in
    let here = cond {A = Option Moment} (starts e.note) (Some (newest e (reverse rest))) None in
    let parts : c.loop-event.earlier.now ≡ rest ++ e ∷ [] = search rules in
    let front : reverse c.loop-event.earlier.now ≡ e ∷ reverse rest = ap reverse parts ∙ reverse-append rest (e ∷ []) in
    let found : c.or-found.result ≡ option_or c.start_at.result c.loop-event.found = search rules in
    found-over (earliest_since (λ m. starts (note m)) (λ m. ends (note m)) (connection (reverse c.loop-event.earlier.now)))
    (earliest_since (λ m. starts (note m)) (λ m. ends (note m)) (connection (reverse rest)))
    (earliest_since (λ m. starts (note m)) (λ m. ends (note m)) (connection (reverse c.args.before.now)))
    here (moment_in c.loop-event.found) (moment_in c.or-found.result) (ends e.note || is_open e.note)
    (ap (λ es. earliest_since (λ m. starts (note m)) (λ m. ends (note m)) (connection es)) front ∙ earliest-connection starts ends e (reverse rest))
    (ap (λ b. ends e.note || b) (sym c.is_open.ensures) ∙ sym c.stops_at.ensures ∙ c.if-stops_at.true)
    (ap moment_in found ∙ map-option_or moment_of c.start_at.result c.loop-event.found ∙ ap (λ o. option_or o (moment_in c.loop-event.found)) c.start_at.ensures)
    c.loop-event.invariant

pub loop-event-preserved : goal.loop-event-preserved
loop-event-preserved g c =
    let e = c.in-Some.event.now in
    let rest = c.in-Some.rest.now in
    let starts = g.S.NoteTest.test c.args.starts.now in
    let ends = g.E.NoteTest.test c.args.ends.now in
    let here = cond {A = Option Moment} (starts e.note) (Some (newest e (reverse rest))) None in
    let parts : c.loop-event.earlier.now ≡ rest ++ e ∷ [] = search rules in
    let front : reverse c.loop-event.earlier.now ≡ e ∷ reverse rest = ap reverse parts ∙ reverse-append rest (e ∷ []) in
    let found : c.or-found.result ≡ option_or c.start_at.result c.loop-event.found = search rules in
    found-on (earliest_since (λ m. starts (note m)) (λ m. ends (note m)) (connection (reverse c.loop-event.earlier.now)))
    (earliest_since (λ m. starts (note m)) (λ m. ends (note m)) (connection (reverse rest)))
    (earliest_since (λ m. starts (note m)) (λ m. ends (note m)) (connection (reverse c.args.before.now)))
    here (moment_in c.loop-event.found) (moment_in c.or-found.result) (ends e.note || is_open e.note)
    (ap (λ es. earliest_since (λ m. starts (note m)) (λ m. ends (note m)) (connection es)) front ∙ earliest-connection starts ends e (reverse rest))
    (ap (λ b. ends e.note || b) (sym c.is_open.ensures) ∙ sym c.stops_at.ensures ∙ c.if-stops_at.false)
    (ap moment_in found ∙ map-option_or moment_of c.start_at.result c.loop-event.found ∙ ap (λ o. option_or o (moment_in c.loop-event.found)) c.start_at.ensures)
    c.loop-event.invariant
