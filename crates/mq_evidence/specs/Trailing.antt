-- What a second reading keeps to find the evidence of the statements on sessions.
use Rattle.std.specs.Prelude.{ℕ, ◌≡◌, ◌≤◌, Bool, true, false, ◌&&◌, not, cond, nat_eq, nat_lt, List, length, Option, Some, is_some, IfSome}
use Rattle.std.specs.List.{list_any}
use Rattle.std.specs.FinMap.{entries}
use Rattle.mq_rules.specs.declared.role.Tested.{Tested}
use Rattle.mq_rules.specs.declared.fate.Fate.{Fate}
use Rattle.mq_rules.specs.declared.rule.Rule.{Rule}
use Rattle.mq_rules.specs.declared.rule.Rule.TheVariants.{S01, S02, S03, S04, S05, B01, B02, S07, E7R, E1A, E2A, E3A, E4A, E5A, E6A, E1O, E2O, E3O, B03, B04, B05, B06, B07, B09, P01, P02, R01, R02, L1, L2, L3}
use Rattle.mq_rules.specs.declared.note.Seen.{Seen}
use Rattle.mq_rules.specs.declared.fault.Fault.{Fault}
use Rattle.mq_rules.specs.declared.faults.FaultKey.{FaultKey}
use Rattle.mq_rules.specs.FaultKeys.{FaultMap, fault_at, faults_at}
use Rattle.mq_rules.specs.Words.{is_some_and, only}
use Rattle.mq_rules.specs.Notes.{is_open}
use Rattle.mq_rules.specs.Rules.{same_rule}
use Rattle.mq_rules.specs.Moments.{note, moment}
use Rattle.mq_rules.specs.Connections.{any_accepted}
use Rattle.mq_rules.specs.declared.evidence.Evidence.{Evidence}
use Rattle.mq_evidence.specs.declared.trail.SessionTrail.{SessionTrail}
use Rattle.mq_evidence.specs.declared.explaining.Explaining.{Explaining}
use Rattle.mq_evidence.specs.declared.wanted.Need.{Need}
use Rattle.mq_evidence.specs.declared.wanted.Need.TheVariants.{Standing, Asked}
use Rattle.mq_evidence.specs.Findings.{found_at}
use Rattle.mq_evidence.specs.Stretches.{stretches}
use Rattle.mq_evidence.specs.Senders.{IsSenders}
use Rattle.mq_evidence.specs.Answering.{IsAnswering, IsWaiting}
use Rattle.mq_evidence.specs.Received.{IsReceived}
use Rattle.mq_evidence.specs.Overtaking.{IsOvertaking}
use Rattle.mq_evidence.specs.Subscriptions.{IsSubscriptions}
use Rattle.mq_evidence.specs.Matching.{IsMatching}
use Rattle.mq_evidence.specs.Begun.{IsBegun}
use Rattle.mq_evidence.specs.Handshakes.{IsHandshake}
use Rattle.mq_evidence.specs.Counters.{IsCounters}
use Rattle.mq_evidence.specs.Turning.{evidence_under}

-- These events, the newest first, lead to what is kept, where their latest connection is taken to have this fate.
pub record IsTrail (t : SessionTrail) (tested : Tested) (taken : Option Fate) (past : List Seen) : Type 0 where
  pub same_role : t.role ≡ tested.role
  pub any_are : t.session.has_accepted ≡ any_accepted tested.role taken past
  pub begun_is : IsBegun t.begun tested.role (stretches tested.role taken past)
  pub handshake_is : IsHandshake t.handshake tested.role (stretches tested.role taken past)
  pub counters_are : IsCounters t.counters tested.role past
  pub senders_are : IsSenders t.senders (stretches tested.role taken past)
  pub answering_are : IsAnswering t.answering (stretches tested.role taken past)
  pub waiting_are : IsWaiting t.waiting (stretches tested.role taken past)
  pub received_are : IsReceived t.received (stretches tested.role taken past)
  pub overtaking_is : IsOvertaking t.overtaking tested.role taken past
  pub subscriptions_are : IfSome t.subscriptions (λ x. IsSubscriptions x past (stretches tested.role taken past))
  pub matching_are : IfSome t.matching (λ x. IsMatching x (stretches tested.role taken past))

-- the statements whose evidence is found by what came in the session
abbrev pub is_found : Rule → Bool
is_found S01 = true
is_found S02 = true
is_found S03 = true
is_found S04 = true
is_found S05 = true
is_found S07 = true
is_found E7R = true
is_found E1A = true
is_found E2A = true
is_found E3A = true
is_found E4A = true
is_found E5A = true
is_found E6A = true
is_found E1O = true
is_found E2O = true
is_found E3O = true
is_found B01 = true
is_found B02 = true
is_found B03 = true
is_found B04 = true
is_found B05 = true
is_found B06 = true
is_found B07 = true
is_found B09 = true
is_found P01 = true
is_found P02 = true
is_found R01 = true
is_found R02 = true
is_found L1 = true
is_found L2 = true
is_found L3 = true
is_found _ = false

-- those of them whose evidence needs the Topic Filters that stand, or those that wait for their SUBACK
abbrev pub needs_standing : Rule → Bool
needs_standing B01 = true
needs_standing B02 = true
needs_standing _ = false

-- those whose evidence needs the Topic Filters that were asked for
abbrev pub needs_asked : Rule → Bool
needs_asked B09 = true
needs_asked P01 = true
needs_asked P02 = true
needs_asked R01 = true
needs_asked R02 = true
needs_asked _ = false

abbrev pub needs : Need → Rule → Bool
needs Standing rule = needs_standing rule
needs Asked rule = needs_asked rule

-- those whose evidence it finds: these only if it keeps the filters that they need
abbrev pub finds : SessionTrail → Rule → Bool
finds t rule = is_found rule && cond (needs_standing rule) (is_some t.subscriptions) (cond (needs_asked rule) (is_some t.matching) true)

-- such filters are needed for one of these faults
abbrev pub any_needs : Need → FaultMap → Bool
any_needs need wanted = list_any (λ f. needs need f.0.rule) (entries wanted)

-- at this event, the fault of a statement, which is one of those whose evidence is found
abbrev pub is_explained : (Rule → Bool) → ℕ → Rule → FaultKey × Fault → Bool
is_explained finds k rule f = nat_eq f.0.position k && (same_rule f.0.rule rule && finds rule)

-- what is added at an event to what was found: this evidence, for those of these faults that are there
abbrev pub explained_at : (Rule → Bool) → List (FaultKey × Fault) → ℕ → ℕ → Rule → Evidence → Option Evidence
explained_at finds faults at k rule evidence = only (list_any (is_explained finds k rule) (faults_at at faults)) (Some evidence)

-- the fault is at an event after this many events, and before this position
abbrev pub is_between : ℕ → ℕ → FaultKey × Fault → Bool
is_between count next f = nat_lt count f.0.position && nat_lt f.0.position next

-- after so many events none of these faults is before this position
abbrev pub IsNext : FaultMap → ℕ → ℕ → Type 0
IsNext wanted next count = list_any (is_between count next) (entries wanted) ≡ false

-- the event at position k is no OPEN: at an OPEN nothing is at fault
abbrev pub is_shut : List Seen → ℕ → Bool
is_shut past k = is_some_and (λ m. not (is_open (note m))) (moment past k)

-- What was found is the evidence of each of these faults that is at one of these events, where their latest connection is taken to have this fate.
abbrev pub IsExplained : FaultMap → (ℕ → Rule → Option Evidence) → Tested → Option Fate → List Seen → Type 0
IsExplained wanted found tested taken past = (k : ℕ) (rule : Rule) → k ≤ length past → is_found rule ≡ true → is_some (fault_at wanted k rule) ≡ true → is_shut past k ≡ true
    → found k rule ≡ Some (evidence_under tested taken past k rule)

-- These events lead to what is kept, which is enough for these faults, and to what was found.
pub record IsExplaining (x : Explaining) (tested : Tested) (taken : Option Fate) (past : List Seen) : Type 0 where
  pub trail_is : IsTrail x.trail tested taken past
  pub enough : is_some x.trail.subscriptions ≡ any_needs Standing x.wanted
  pub enough_asked : is_some x.trail.matching ≡ any_needs Asked x.wanted
  pub next_is : IsNext x.wanted x.next (length past)
  pub explained : IsExplained x.wanted (found_at x.findings) tested taken past
