-- What the book of releases keeps.
use Rattle.std.specs.Prelude.{ℕ, ◌≡◌, Bool, false, ◌&&◌, ◌||◌, not, List, Option, Some, None, is_some}
use Rattle.mq_rules.specs.declared.role.Tested.{Tested}
use Rattle.mq_rules.specs.declared.role.Role.{Role}
use Rattle.mq_rules.specs.declared.fate.Fate.{Fate}
use Rattle.mq_rules.specs.declared.by_identifier.ByIdentifier.{ByIdentifier}
use Rattle.mq_rules.specs.declared.note.Note.{Note}
use Rattle.mq_rules.specs.declared.note.Seen.{Seen}
use Rattle.mq_rules.specs.Words.{is_some_and, is_id, only}
use Rattle.mq_rules.specs.Notes.{is_open, is_release, released_id, received_publish, received_exactly_once, sent_as, ended_in, unmatched_pubrec_in, success_pubcomp_in}
use Rattle.mq_rules.specs.Moments.{Moment, note, is_same, since, earliest_since}
use Rattle.mq_rules.specs.Connections.{accepts, is_void, begins, any_accepted, session}
use Rattle.mq_rules.specs.Folds.{gained}
use Rattle.mq_rules.specs.KeptOrder.{value_under}
use Rattle.mq_rules.specs.Releases.{brings, releases_message, ends}

-- the set has an identifier
abbrev pub has_id : {T : Type 0} → ByIdentifier T → ℕ → Bool
has_id set i = is_some (value_under set i)

-- a PUBLISH that may expire is received
abbrev pub expires : Note → Bool
expires n = is_some_and (λ p. p.has_message_expiry) (received_publish n)

-- a PUBREC of 0x10 is sent under the identifier
abbrev pub is_unmatched : ℕ → Moment → Bool
is_unmatched i m = is_id i (sent_as unmatched_pubrec_in (note m))

-- The first QoS 2 PUBLISH under the identifier whose exchange hasn't ended since needs a RELEASE: it can't expire, and no PUBREC of 0x10 was sent since.
abbrev pub needs_release : ℕ → List Moment → Bool
needs_release i ms = is_some_and (λ first. not (expires (note first) || not (since (is_same first) (is_unmatched i) ms))) (earliest_since (brings i) (ends i) ms)

-- the event is in a session, where some connection was accepted before it or not
abbrev pub is_inside : Fate → Note → Bool → Bool
is_inside f n any = accepts f || (is_release n && (is_void f && any))

-- the session starts over with this event
abbrev pub starts_over : Fate → Note → Bool
starts_over f n = is_open n && begins (Some f)

-- whether an identifier is kept after an event
abbrev pub kept_next : Bool → Bool → Option ℕ → Option ℕ → ℕ → Bool → Bool
kept_next over inside starts stops i old = gained inside (is_id i starts) (is_id i stops) (not over && old)

-- the identifier of a QoS 2 PUBLISH, which may expire or not, if it is the first under it and can't
abbrev pub lasting_of : Option ℕ → Bool → (ℕ → Bool) → Option ℕ
lasting_of brings expiring brought = only (not (is_some_and brought brings) && not expiring) brings

abbrev pub lasting : Note → (ℕ → Bool) → Option ℕ
lasting n brought = lasting_of (received_exactly_once n) (expires n) brought

-- whether a RELEASE is needed after an event: what is unmatched needs none any more, and what lasts needs one
abbrev pub due_by : Bool → Bool → Option ℕ → Option ℕ → Option ℕ → ℕ → Bool → Bool
due_by over inside unmatched lasts stops i old = kept_next false inside lasts stops i (kept_next over inside None unmatched i old)

abbrev pub due_next : Bool → Bool → Note → (ℕ → Bool) → ℕ → Bool → Bool
due_next over inside n brought i old = due_by over inside (sent_as unmatched_pubrec_in n) (lasting n brought) (sent_as ended_in n) i old

-- what breaks L1, L2 and L3, by what is kept
abbrev pub is_unreceived : Note → (ℕ → Bool) → Bool
is_unreceived n brought = is_some_and (λ i. not (brought i)) (released_id n)

abbrev pub is_repeated : Note → (ℕ → Bool) → Bool
is_repeated n released = is_some_and released (released_id n)

abbrev pub completes_unreleased : Fate → Option ℕ → (ℕ → Bool) → (ℕ → Bool) → Bool
completes_unreleased f completed released due = accepts f && is_some_and (λ i. not (released i) && due i) completed

abbrev pub is_unreleased : Fate → Note → (ℕ → Bool) → (ℕ → Bool) → Bool
is_unreleased f n released due = completes_unreleased f (sent_as success_pubcomp_in n) released due

-- These events lead to what is kept.
pub record IsReleasing (role : Role) (releases : Bool) (fate : Fate) (any : Bool) (brought released due : ℕ → Bool) (tested : Tested) (taken : Option Fate) (past : List Seen) : Type 0 where
  pub same_role : role ≡ tested.role
  pub same_releases : releases ≡ tested.releases
  pub same_fate : taken ≡ Some fate
  pub any_are : any ≡ any_accepted tested.role taken past
  pub brought_are : (i : ℕ) → brought i ≡ since (brings i) (ends i) (session tested.role taken past)
  pub released_are : (i : ℕ) → released i ≡ since (releases_message i) (ends i) (session tested.role taken past)
  pub due_are : (i : ℕ) → due i ≡ needs_release i (session tested.role taken past)
