-- The stretches of a log that evidence looks back over, and what they are with one event more.
use Rattle.std.specs.Prelude.{ℕ, ◌≡◌, nat_lt, ◌||◌, Bool, true, false, cond, List, [], ◌∷◌, Option, Some, None, option_map}
use Rattle.std.specs.Option.{option_or}
use Rattle.mq_rules.specs.declared.role.Role.{Role}
use Rattle.mq_rules.specs.declared.fate.Fate.{Fate}
use Rattle.mq_rules.specs.declared.note.Note.{Note}
use Rattle.mq_rules.specs.declared.note.Seen.{Seen}
use Rattle.mq_rules.specs.Words.{is_some_and, is_id, only}
use Rattle.mq_rules.specs.Moments.{Moment, position, note, since, latest, earliest_since}
use Rattle.mq_rules.specs.Connections.{connection, session, with_first}
use Rattle.mq_evidence.specs.declared.turn.Turn.{Turn}
use Rattle.mq_evidence.specs.Evidence.{earlier_sessions, some_session}

-- What came in earlier sessions, what came in the current one, and what came on the latest connection.
pub record Stretches : Type 0 where
  pub earlier : List (List Moment)
  pub session : List Moment
  pub connection : List Moment

-- before any event
abbrev pub nothing_yet : Stretches
nothing_yet = record { earlier = []; session = []; connection = [] }

-- those of these events, where their latest connection is taken to have this fate
abbrev pub stretches : Role → Option Fate → List Seen → Stretches
stretches role f past = record { earlier = earlier_sessions role f past; session = session role f past; connection = connection past }

-- those before a moment of a connection that has this fate
abbrev pub stretches_before : Role → Fate → Moment → Stretches
stretches_before role f k = stretches role (Some f) k.past

-- a list of moments with one moment more, which may begin it anew, and which may belong to it or not
abbrev pub longer : Bool → Bool → Moment → List Moment → List Moment
longer over inside m ms = with_first inside m (cond over [] ms)

-- the stretches with one moment more
abbrev pub advanced : Turn → Moment → Stretches → Stretches
advanced t m s = record { earlier = cond t.begins (s.session ∷ s.earlier) s.earlier; session = longer t.begins t.inside m s.session; connection = longer t.opens true m s.connection }

-- The moment is that of an event with this note, which turns the stretches so.
pub record Comes (t : Turn) (n : Note) (m : Moment) : Type 0 where
  pub at : position m ≡ t.position
  pub same : note m ≡ n

-- ---- what is kept of a list of moments, by identifiers

-- the latest moment that passes the first test, if no later one passes the second
abbrev pub unended : (Moment → Bool) → (Moment → Bool) → List Moment → Option Moment
unended starts ends ms = only (since starts ends ms) (latest starts ms)

-- under the identifier this is found
abbrev pub has_id : (Note → Option ℕ) → ℕ → Moment → Bool
has_id found i m = is_id i (found (note m))

-- Under each identifier this is the position of the latest moment where it is found; of that, if what ends it isn't found later; of the earliest one since what ends it was
-- found; and whether it was found in an earlier session.
abbrev pub IsLatest : (ℕ → Option ℕ) → (Note → Option ℕ) → List Moment → Type 0
IsLatest at found ms = (i : ℕ) → at i ≡ option_map position (latest (has_id found i) ms)

abbrev pub IsUnended : (ℕ → Option ℕ) → (Note → Option ℕ) → (Note → Option ℕ) → List Moment → Type 0
IsUnended at found ends ms = (i : ℕ) → at i ≡ option_map position (unended (has_id found i) (has_id ends i) ms)

abbrev pub IsEarliest : (ℕ → Option ℕ) → (Note → Option ℕ) → (Note → Option ℕ) → List Moment → Type 0
IsEarliest at found ends ms = (i : ℕ) → at i ≡ option_map position (earliest_since (has_id found i) (has_id ends i) ms)

abbrev pub IsEarlier : (ℕ → Bool) → (Note → Option ℕ) → List (List Moment) → Type 0
IsEarlier has found es = (i : ℕ) → has i ≡ some_session (has_id found i) es

-- ---- one event more: what is kept under an identifier, where the event gains it or loses it, or neither

abbrev pub last_next : Bool → Bool → Bool → Bool → ℕ → Option ℕ → Option ℕ
last_next over inside gains loses at old = cond inside (cond gains (Some at) (cond loses None (cond over None old))) (cond over None old)

abbrev pub first_next : Bool → Bool → Bool → Bool → ℕ → Option ℕ → Option ℕ
first_next over inside gains loses at old = cond inside (option_or (cond loses None (cond over None old)) (cond gains (Some at) None)) (cond over None old)

-- the position of the earliest moment that passes a test
abbrev pub once_next : Bool → Bool → Bool → ℕ → Option ℕ → Option ℕ
once_next over inside passes at old = cond inside (option_or (cond over None old) (cond passes (Some at) None)) (cond over None old)

-- likewise of the latest one
abbrev pub again_next : Bool → Bool → Bool → ℕ → Option ℕ → Option ℕ
again_next over inside passes at old = last_next over inside passes false at old

-- whether an identifier was gained in an earlier session
abbrev pub earlier_next : Bool → Bool → Bool → Bool
earlier_next begins before old = cond begins (before || old) old

-- the later one of two positions
abbrev pub later_at : Option ℕ → Option ℕ → Option ℕ
later_at a b = cond (is_some_and (λ p. is_some_and (λ q. nat_lt q p) b) a) a (option_or b a)
