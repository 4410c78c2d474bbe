-- Events whose packets have no properties, by what they do to QoS 2 messages that are received (MQTT 5.0, section 4.3.3).
use Rattle.std.specs.Prelude.{ℕ, ◌≡◌, ◌+◌, length, Bool, false, ◌&&◌, ◌||◌, List, ◌∷◌, Option, None}
use Rattle.mq_rules.specs.declared.role.Tested.{Tested}
use Rattle.mq_rules.specs.declared.fate.Fate.{Fate}
use Rattle.mq_rules.specs.declared.rule.Rule.{Rule}
use Rattle.mq_rules.specs.declared.rule.Rule.TheVariants.{L1, L2, L3}
use Rattle.mq_rules.specs.declared.note.Note.{Note}
use Rattle.mq_rules.specs.declared.note.Seen.{Seen}
use Rattle.mq_rules.specs.Notes.{is_open, is_release, released_id, received_exactly_once, sent_as, ended_in, unmatched_pubrec_in, success_pubcomp_in}
use Rattle.mq_rules.specs.Connections.{latest_fate, accepts}
use Rattle.mq_rules.specs.Rules.{same_rule}
use Rattle.mq_rules.specs.FaultKeys.{FaultMap}
use Rattle.mq_rules.specs.Under.{turns_known}
use Rattle.mq_rules.specs.Growing.{Gains, GainsWithin}
use Rattle.mq_exchanges.specs.declared.releases.Releases.{Releases}
use Rattle.mq_exchanges.specs.Releasing.{expires, has_id, kept_next, lasting_of, due_by, IsReleasing}

-- All that an event does to such messages: it brings one under the first identifier, which can't expire; sends a PUBREC of 0x10 under the second; ends the exchange of the
-- third, by a PUBCOMP or by a PUBREC of 0x80 or more; and sends a PUBCOMP of 0x00 under the last.
pub record Receives (n : Note) (brings unmatched ender completed : Option ℕ) : Type 0 where
  pub closed : is_open n ≡ false
  pub unreleased : is_release n ≡ false
  pub frees : released_id n ≡ None
  pub lasts : expires n ≡ false
  pub brought : received_exactly_once n ≡ brings
  pub lapses : sent_as unmatched_pubrec_in n ≡ unmatched
  pub ends : sent_as ended_in n ≡ ender
  pub completes : sent_as success_pubcomp_in n ≡ completed

-- What is kept after it. Only an accepted connection is in a session.
pub record IsReceived (brings unmatched ender : Option ℕ) (old new : Releases) : Type 0 where
  pub same_role : new.role ≡ old.role
  pub same_releases : new.releases ≡ old.releases
  pub same_fate : new.fate ≡ old.fate
  pub same_accepted : new.has_accepted ≡ old.has_accepted
  pub brought_are : (i : ℕ) → has_id new.brought i ≡ kept_next false (accepts old.fate) brings ender i (has_id old.brought i)
  pub released_are : (i : ℕ) → has_id new.released i ≡ kept_next false (accepts old.fate) None ender i (has_id old.released i)
  pub due_are : (i : ℕ) → has_id new.due i
      ≡ due_by false (accepts old.fate) unmatched (lasting_of brings false (has_id old.brought)) ender i (has_id old.due i)

-- the statements on releases
abbrev pub is_release_rule : Rule → Bool
is_release_rule r = (same_rule r L1 || same_rule r L2) || same_rule r L3

-- These events lead to the book.
abbrev pub IsLedTo : Releases → Tested → Option Fate → List Seen → Type 0
IsLedTo s tested taken past =
    IsReleasing s.role s.releases s.fate s.has_accepted (has_id s.brought) (has_id s.released) (has_id s.due) tested taken past

-- The law of a step with this event, after which the book is so and the faults are these.
pub record IsStep (e : Seen) (new : Releases) (tested : Tested) (past : List Seen) (before after : FaultMap) : Type 0 where
  pub agrees : IsLedTo new tested (latest_fate tested.role (e ∷ past)) (e ∷ past)
  pub grows : Gains (λ k r. is_release_rule r && turns_known tested e past k r) tested (e ∷ past) (length past + 1) before after

-- The same where memory ran out.
pub record IsWithin (e : Seen) (tested : Tested) (past : List Seen) (before after : FaultMap) : Type 0 where
  pub grows : GainsWithin (λ k r. is_release_rule r && turns_known tested e past k r) tested (e ∷ past) (length past + 1) before after
