use Rattle.std.proofs.Common.{rules, ◌≡◌, ◌&&◌, ◌||◌, cond, [], ◌∷◌, ◌++◌, Option, Some, None, sym, ap, ◌∙◌}
use Rattle.std.specs.Prelude.{reverse}
use Rattle.std.proofs.lemmas.List.{reverse-append}
use Rattle.std.specs.Option.{option_or}
use Rattle.mq_rules.specs.Notes.{is_open}
use Rattle.mq_rules.specs.Moments.{Moment, newest, note, earliest_since}
use Rattle.mq_rules.specs.Connections.{session, any_accepted, has_session, any_accepted, begins}
use Rattle.mq_plain.specs.Finding.{moment_of, moment_in}
use Rattle.mq_plain.proofs.EarliestLaws.{earliest-session, found-on, map-option_or}
use Rattle.mq_plain.proofs.LookbackLaws.{any_back}
use Rattle.mq_plain.proofs.earliest.earliest_in_session.Goals as goal

pub loop-event-preserved : goal.loop-event-preserved
loop-event-preserved g c =
    let e = c.in-Some.event.now in
    let rest = c.in-Some.rest.now in
    let role = c.args.role in
    let fate = c.loop-event.fate in
    let starts = g.S.NoteTest.test c.args.starts.now in
    let ends = g.E.NoteTest.test c.args.ends.now in
    let is_in = has_session role fate e (reverse rest) in
    let here = cond {A = Option Moment} (is_in && starts e.note) (Some (newest e (reverse rest))) None in
    let parts : c.loop-event.earlier.now ≡ rest ++ e ∷ [] = search rules in
    let front : reverse c.loop-event.earlier.now ≡ e ∷ reverse rest = ap reverse parts ∙ reverse-append rest (e ∷ []) in
    let known : c.loop-event.any ≡ any_accepted role fate (e ∷ reverse rest) = c.loop-event.invariant.known ∙ ap (any_accepted role fate) front in
    let found : c.or-found.result ≡ option_or c.start_at.result c.loop-event.found = search rules in
    record {
      rest = found-on (earliest_since (λ m. starts (note m)) (λ m. ends (note m)) (session role fate (reverse c.loop-event.earlier.now)))
          (earliest_since (λ m. starts (note m)) (λ m. ends (note m)) (session role c.fate_before-fate.result (reverse rest)))
          (earliest_since (λ m. starts (note m)) (λ m. ends (note m)) (session role c.args.fate (reverse c.args.before.now)))
          here
          (moment_in c.loop-event.found)
          (moment_in c.or-found.result)
          ((is_in && ends e.note) || (is_open e.note && begins fate))
          (ap (λ es. earliest_since (λ m. starts (note m)) (λ m. ends (note m)) (session role fate es)) front ∙ earliest-session starts ends role fate e (reverse rest)
          ∙ ap (λ f. option_or (cond ((is_in && ends e.note) || (is_open e.note && begins fate)) None (earliest_since (λ m. starts (note m)) (λ m. ends (note m)) (session role f (reverse rest)))) here) (sym c.fate_before-fate.ensures))
          (ap (λ b. b || (is_open e.note && begins fate)) (ap (λ b. b && ends e.note) (sym (c.is_in_known_session-is_in.ensures known))) ∙ ap (λ b. (c.is_in_known_session-is_in.result && ends e.note) || b) (sym c.begins_at.ensures) ∙ sym c.stops_at.ensures ∙ c.if-stops_at.false)
          (ap moment_in found ∙ map-option_or moment_of c.start_at.result c.loop-event.found
          ∙ ap (λ o. option_or o (moment_in c.loop-event.found)) (c.start_at.ensures ∙ ap (λ b. cond {A = Option Moment} (b && starts e.note) (Some (newest e (reverse rest))) None) (c.is_in_known_session-is_in.ensures known)))
          c.loop-event.invariant.rest;
      known = any_back role fate c.fate_before-fate.result c.loop-event.any c.any_before-any.result e (reverse rest) known c.any_before-any.ensures c.fate_before-fate.ensures;
    }
