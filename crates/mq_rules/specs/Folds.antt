-- What a reader that goes over a session once keeps of it, from one moment to the next.
use Rattle.std.specs.Prelude.{◌≡◌, Bool, true, false, ◌&&◌, ◌||◌, not, cond, List, [], ◌∷◌, Option, Some, None}
use Rattle.mq_rules.specs.declared.role.Role.{Role}
use Rattle.mq_rules.specs.declared.fate.Fate.{Fate}
use Rattle.mq_rules.specs.declared.note.Note.{Note}
use Rattle.mq_rules.specs.declared.note.Seen.{Seen}
use Rattle.mq_rules.specs.Notes.{is_open, is_release, decides, needs_session}
use Rattle.mq_rules.specs.Moments.{Moment, note, since}
use Rattle.mq_rules.specs.Connections.{accepts, begins, session}

-- What is kept after these moments: z before the first one, and g updates it with one more moment.
abbrev pub folded : {A : Type 0} → (Moment → A → A) → A → List Moment → A
folded g z [] = z
folded g z (m ∷ ms) = g m (folded g z ms)

-- Only session packets change what is kept; a RELEASE doesn't.
pub record ByPackets {A : Type 0} (g : Moment → A → A) : Type 0 where
  pub idle : (m : Moment) (a : A) → needs_session (note m) ≡ false → g m a ≡ a
  pub no_release : (m : Moment) (a : A) → is_release (note m) ≡ true → g m a ≡ a

-- What is kept after a moment that is in the session; after any other moment it is unchanged.
abbrev pub where_in : {A : Type 0} → Bool → (A → A) → A → A
where_in true g old = g old
where_in false g old = old

-- What is kept after one more event, which updates it by g, if the latest connection had this fate before the event. An OPEN changes nothing. While the connection
-- is undecided, a CONNACK that accepts without resuming starts over with z; if it is accepted, the event updates by g; if it is void, nothing changes.
abbrev pub kept_by : {A : Type 0} → Role → Option Fate → Note → (A → A) → A → A → A
kept_by role None n g z old = cond (is_open n) old (cond (begins (decides role n)) z old)
kept_by role (Some f) n g z old = cond (is_open n) old (cond (accepts f) (g old) old)

-- ---- `since` in a session

-- The current session after these events, if the latest connection has this fate, has some moment that passes the first test, and no later one that passes
-- the second.
abbrev pub session_since : Role → (Moment → Bool) → (Moment → Bool) → Option Fate → List Seen → Bool
session_since role starts ends f log = since starts ends (session role f log)

-- the same for `since`: the moment is in the session or not, and passes these tests or not
abbrev pub gained : Bool → Bool → Bool → Bool → Bool
gained inside starts ends old = cond inside (starts || (not ends && old)) old

-- `since`, `some` and `latest`, each from one moment to the next
abbrev pub since_by : (Moment → Bool) → (Moment → Bool) → Moment → Bool → Bool
since_by starts ends m old = starts m || (not (ends m) && old)

abbrev pub some_by : (Moment → Bool) → Moment → Bool → Bool
some_by test m old = test m || old

abbrev pub latest_by : (Moment → Bool) → Moment → Option Moment → Option Moment
latest_by test m old = cond (test m) (Some m) old
