-- A watcher that is driven over the events of a log.
use Rattle.std.proofs.Common.{◌≡◌, ◌∷◌, ◌∙◌, List, Option, map, ap, sym, subst}
use Rattle.mq_log.specs.declared.place.Place3.{Place3}
use Rattle.mq_log.specs.Events.{Placed}
use Rattle.mq_log.specs.Reception.{AreEvents}
use Rattle.mq_rules.specs.declared.role.Tested.{Tested}
use Rattle.mq_rules.specs.declared.fate.Fate.{Fate}
use Rattle.mq_rules.specs.declared.note.Note.{Note}
use Rattle.mq_rules.specs.declared.note.Seen.{Seen}
use Rattle.mq_rules.specs.Notes.{seen, seen_in, note_of}
use Rattle.mq_rules.specs.Moments.{IsPlaced}
use Rattle.mq_rules.specs.Connections.{AreOnConnections, IsOnConnection, latest_fate}
use Rattle.mq_rules.specs.Under.{Follows, IsInTurn, seen as seen_at}
use Rattle.mq_rules.proofs.Exports.{on_connections, orderly, turned_for}
use Rattle.mq_trail.specs.Following.{HasFollowed, TakesIn}

-- an event of a log that isn't refused follows those before it
pub follows-earlier : (tested : Tested) (p : Placed) (earlier : List Placed) → AreEvents (p ∷ earlier) → Follows tested (seen p) (map seen earlier)
unfolding seen_in
follows-earlier tested p earlier are =
    let same : seen_in are.log ≡ seen p ∷ map seen earlier = ap (map seen) (sym are.are) in
    record {
      placed = subst IsPlaced same (orderly are.limit are.log are.unrefused).placed;
      in_turn = subst (IsInTurn tested.role) same (turned_for tested.role are.limit are.log are.unrefused);
      on_connections = subst AreOnConnections same (on_connections are.limit are.log are.unrefused);
    }

-- and what happens only on an open connection comes on one
pub on-connection : (p : Placed) (earlier : List Placed) → AreEvents (p ∷ earlier) → IsOnConnection (seen p) (map seen earlier)
unfolding seen_in
on-connection p earlier are =
    let same : seen_in are.log ≡ seen p ∷ map seen earlier = ap (map seen) (sym are.are) in
    (subst AreOnConnections same (on_connections are.limit are.log are.unrefused)).0

-- the watcher has taken in the next event, if it takes in any that comes on an open connection
pub followed-next : {W : Type 0} (agrees : W → Tested → Option Fate → List Seen → Type 0) (takes : Tested → Option Fate → Seen → List Seen → Type 0) (old new : W) (place : Place3) (n : Note)
    → ((tested : Tested) (taken : Option Fate) (e : Seen) (past : List Seen) → IsOnConnection e past → takes tested taken e past)
    → ((tested : Tested) (taken : Option Fate) (past : List Seen) → Follows tested (seen_at place n) past → takes tested taken (seen_at place n) past → agrees old tested taken past
    → agrees new tested (latest_fate tested.role (seen_at place n ∷ past)) (seen_at place n ∷ past))
    → TakesIn agrees old new place n
followed-next agrees takes old new place n any step = λ tested earlier p at exact are was.
    let past = map seen earlier in
    let e = seen_at place n in
    let fate = latest_fate tested.role past in
    let same : e ≡ seen p = ap (λ (n : Note). seen_at place n) exact ∙ ap (λ (place : Place3). seen_at place (note_of p.event)) (sym at) in
    let follows : Follows tested e past = subst (λ (x : Seen). Follows tested x past) (sym same) (follows-earlier tested p earlier are) in
    let on : IsOnConnection e past = subst (λ (x : Seen). IsOnConnection x past) (sym same) (on-connection p earlier are) in
    subst (λ (x : Seen). HasFollowed agrees tested new (x ∷ past)) same (step tested fate past follows (any tested fate e past on) was)
