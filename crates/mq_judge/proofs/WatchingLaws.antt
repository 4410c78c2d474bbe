-- What is kept of the events so far, from one event to the next.
use Rattle.std.proofs.Common.{◌≡◌, true, false, ℕ, ◌+◌, ◌<◌, List, [], ◌∷◌, length, map, Option, Some, None, Result, Ok, Err, refl, sym, ap, ◌∙◌, subst, arith}
use Rattle.std.specs.Prelude.{OnOk}
use Rattle.std.specs.Option.{option_or}
use Rattle.std.proofs.lemmas.List.{length-map}
use Rattle.std.specs.FinMap.{entries, get-empty}
use Rattle.mq_log.specs.declared.place.Place3.{Place3}
use Rattle.mq_log.specs.Events.{Placed, events}
use Rattle.mq_log.specs.Reception.{AreEvents}
use Rattle.mq_rules.specs.declared.role.Tested.{Tested}
use Rattle.mq_rules.specs.declared.role.Role.TheVariants.{Client}
use Rattle.mq_rules.specs.declared.rule.Rule.{Rule}
use Rattle.mq_rules.specs.declared.note.Seen.{Seen}
use Rattle.mq_rules.specs.declared.note.Note.{Note}
use Rattle.mq_rules.specs.Notes.{note_of, seen, seen_in}
use Rattle.mq_rules.specs.Moments.{moment, IsPlaced}
use Rattle.mq_rules.specs.Connections.{AreOnConnections}
use Rattle.mq_rules.specs.Steps.{turns}
use Rattle.mq_rules.specs.FaultKeys.{FaultMap, fault_at, key_cmp, decided_elsewhere}
use Rattle.mq_rules.specs.Rules.{none_further}
use Rattle.mq_rules.specs.Faults.{fault_in}
use Rattle.mq_rules.specs.Growing.{added, Gains, GainsWithin}
use Rattle.mq_rules.specs.Under.{IsInTurn, seen as seen_at}
use Rattle.mq_rules.proofs.Exports.{fault_in-dropped, fault_in-start, fault_in-step, on_connections, orderly, turned_for}
use Rattle.mq_judge.specs.declared.watching.Watching.{Watching}
use Rattle.mq_watchers.specs.Kinds.{is_counting}
use Rattle.mq_judge.specs.Watching.{IsFound, IsWatching, IsTallying, MayCome, TakesIn, LeavesOut}

-- no events have no faults
pub none-found : (tested : Tested) (faults : FaultMap) → faults ≡ Rattle.std.specs.FinMap.empty → (k : ℕ) (rule : Rule) → fault_at faults k rule ≡ fault_in tested [] k rule
none-found tested faults e k rule = ap (λ m. fault_at m k rule) e ∙ get-empty key_cmp (record { position = k; rule = rule }) ∙ sym (fault_in-start tested k rule)

-- the events of a log that isn't refused may come, one after another
pub may-come : (tested : Tested) (p : Placed) (earlier : List Placed) → AreEvents (p ∷ earlier) → MayCome tested (seen p) (map seen earlier)
unfolding seen_in
may-come tested p earlier are =
    let same : seen_in are.log ≡ seen p ∷ map seen earlier = ap (map seen) (sym are.are) in
    record {
      follows = record {
        placed = subst IsPlaced same (orderly are.limit are.log are.unrefused).placed;
        in_turn = subst (IsInTurn tested.role) same (turned_for tested.role are.limit are.log are.unrefused);
        on_connections = subst AreOnConnections same (on_connections are.limit are.log are.unrefused);
      };
      on_connection = (subst AreOnConnections same (on_connections are.limit are.log are.unrefused)).0;
    }

-- the faults with one event more
pub found-next : (tested : Tested) (e : Seen) (past : List Seen) (old new : FaultMap) → Gains (turns tested e past) tested (e ∷ past) (length past + 1) old new
    → ((k : ℕ) (rule : Rule) → fault_at old k rule ≡ fault_in tested past k rule) → (k : ℕ) (rule : Rule) → fault_at new k rule ≡ fault_in tested (e ∷ past) k rule
found-next tested e past old new g found k rule =
    g.each k rule
    ∙ ap (λ o. option_or o (added (turns tested e past) tested (e ∷ past) (length past + 1) k rule)) (found k rule)
    ∙ sym (fault_in-step tested e past k rule)

-- the faults without those that the event showed
pub found-before : (tested : Tested) (e : Seen) (past : List Seen) (old new dropped : FaultMap) → MayCome tested e past → GainsWithin (turns tested e past) tested (e ∷ past) (length past + 1) old new
    → entries dropped ≡ decided_elsewhere e.place.position (entries new) → ((k : ℕ) (rule : Rule) → fault_at old k rule ≡ fault_in tested past k rule)
    → (k : ℕ) (rule : Rule) → fault_at dropped k rule ≡ fault_in tested past k rule
found-before tested e past old new dropped may within is found =
    let at : e.place.position ≡ length past + 1 = may.follows.placed.0 in
    fault_in-dropped (turns tested e past) tested e past (length past + 1) old new dropped (omega arith) found within (is ∙ ap (λ n. decided_elsewhere n (entries new)) at)

-- the watchers have taken in the next event that the sink received
pub watched-next : (tested : Tested) (p : Placed) (earlier : List Placed) (old new : Watching) (n : Note) → n ≡ note_of p.event → AreEvents (p ∷ earlier)
    → (old.tested ≡ tested) × IsWatching old (map seen earlier) → new.tested ≡ old.tested
    → TakesIn old new p.place n
    → (new.tested ≡ tested) × IsWatching new (map seen (p ∷ earlier))
watched-next tested p earlier old new n is are was same step =
    let e : seen_at p.place n ≡ seen p = ap (seen_at p.place) is in
    let may : MayCome old.tested (seen_at p.place n) (map seen earlier) = subst (λ (s : Seen). MayCome old.tested s (map seen earlier)) (sym e) (may-come old.tested p earlier are) in
    (same ∙ was.0, subst (λ (s : Seen). IsWatching new (s ∷ map seen earlier)) e (step (map seen earlier) may was.1))

-- there was no memory for it, and the faults are those of the events before it
pub found-still : (tested : Tested) (p : Placed) (earlier : List Placed) (old new : Watching) (n : Note) → n ≡ note_of p.event → AreEvents (p ∷ earlier)
    → (old.tested ≡ tested) × IsWatching old (map seen earlier) → new.tested ≡ old.tested
    → LeavesOut old new p.place n
    → (new.tested ≡ tested) × IsFound new (map seen earlier)
found-still tested p earlier old new n is are was same step =
    let e : seen_at p.place n ≡ seen p = ap (seen_at p.place) is in
    let may : MayCome old.tested (seen_at p.place n) (map seen earlier) = subst (λ (s : Seen). MayCome old.tested s (map seen earlier)) (sym e) (may-come old.tested p earlier are) in
    (same ∙ was.0, step (map seen earlier) may was.1)

-- the place of the next event
pub next-place : (p : Placed) (earlier : List Placed) → AreEvents (p ∷ earlier) → p.place.position ≡ length earlier + 1
next-place p earlier are = (may-come (record { role = Client; releases = false; further = none_further }) p earlier are).follows.placed.0 ∙ ap (λ n. n + 1) (length-map earlier seen)

-- where places aren't counted, there is nothing to count
pub still-uncounted : (old new : Watching) (received : List Placed) → is_counting old.watchers ≡ false → is_counting new.watchers ≡ is_counting old.watchers → IsTallying new received
still-uncounted old new received off same = λ on. absurd (let bad : true ≡ false = sym on ∙ same ∙ off in cc)

-- it is known of the watching whatever is counted on a packet's bytes
pub watched-anew : (old new : Watching) (past : List Seen) → new.watchers ≡ old.watchers → new.tested ≡ old.tested → new.faults ≡ old.faults → new.events ≡ old.events → new.unjudged ≡ old.unjudged → IsWatching old past → IsWatching new past
watched-anew old new past w t f e u was = record {
  agree = rw (w, t) was.agree;
  found = record { each = λ k rule. rw (f, t) (was.found.each k rule); count = e ∙ was.found.count };
  gathered = λ on. rw (u, t) (was.gathered (ap is_counting (sym w) ∙ on));
}

-- of a call that ended well
pub on_ok : {A E : Type 0} (r : Result A E) (P Q : Type 0) → (P → Q) → OnOk r P → OnOk r Q
on_ok (Ok a) P Q f p = f p
on_ok (Err e) P Q f p = p
