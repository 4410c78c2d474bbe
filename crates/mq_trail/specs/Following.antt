-- A watcher that is driven over the events of a log.
use Rattle.std.specs.Prelude.{◌≡◌, ◌∷◌, false, List, map, Option, Result, Ok, Err, ℕ}
use Rattle.mq_log.specs.declared.place.Place3.{Place3}
use Rattle.mq_log.specs.Events.{Placed}
use Rattle.mq_log.specs.Reception.{AreEvents}
use Rattle.mq_log.specs.Refusals.{is_cut_short}
use Rattle.mq_log.specs.declared.refusal.Refusal.{Refusal}
use Rattle.mq_rules.specs.declared.role.Further.{Further}
use Rattle.mq_rules.specs.declared.role.Tested.{Tested}
use Rattle.mq_rules.specs.declared.fate.Fate.{Fate}
use Rattle.mq_rules.specs.declared.note.Note.{Note}
use Rattle.mq_rules.specs.declared.note.Seen.{Seen}
use Rattle.mq_rules.specs.Connections.{latest_fate}
use Rattle.mq_rules.specs.Notes.{seen, seen_in, note_of, tested_by}
use Rattle.mq_report.specs.Stopping.{IsJudged, IsRefusedAt, IsRefusedEnd, default_limit}

-- The watcher, whose law is given, has taken in these events of this end, the newest first.
abbrev pub HasFollowed : {W : Type 0} → (W → Tested → Option Fate → List Seen → Type 0) → Tested → W → List Seen → Type 0
HasFollowed agrees tested watcher past = agrees watcher tested (latest_fate tested.role past) past

-- The watcher has taken in the event too that has this place and this note, if that is the next one of a log that isn't refused.
abbrev pub TakesIn : {W : Type 0} → (W → Tested → Option Fate → List Seen → Type 0) → W → W → Place3 → Note → Type 0
TakesIn agrees old new place n = (tested : Tested) (earlier : List Placed) (p : Placed) → p.place ≡ place → n ≡ note_of p.event → AreEvents (p ∷ earlier)
    → HasFollowed agrees tested old (map seen earlier) → HasFollowed agrees tested new (map seen (p ∷ earlier))

-- What ending a log returns of which nothing is refused so far: the end that its header names, judged by these further statements too, if the log is whole; else why
-- its end is refused.
abbrev pub EndsAs : Further → List ℕ → Result Tested Refusal → Type 0
EndsAs further log (Ok named) = (is_cut_short log ≡ false) × (named ≡ tested_by further log)
EndsAs further log (Err refusal) = IsRefusedEnd log refusal

-- The result of driving a watcher over this log, and what the reader has left: the watcher, which has taken in all events of the log, with the end that the log's
-- header names, judged by these further statements too; or why the log is refused.
abbrev pub FollowsOver : {W : Type 0} → (W → Tested → Option Fate → List Seen → Type 0) → Further → Tested → List ℕ → Option (List ℕ) → Result (W × Tested) Refusal → Type 0
FollowsOver agrees further tested log left (Ok answer) = IsJudged log × (answer.1 ≡ tested_by further log) × HasFollowed agrees tested answer.0 (seen_in log)
FollowsOver agrees further tested log left (Err refusal) = IsRefusedAt default_limit log left refusal
