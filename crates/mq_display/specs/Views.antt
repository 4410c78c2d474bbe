-- What is shown of the events of a log, one after another.
use Rattle.std.specs.Prelude.{◌≡◌, ◌≤◌, ◌+◌, nat_lt, cond, if◌then◌else◌, ℕ, Bool, true, false, List, [], ◌∷◌, ◌++◌, length, codes, ⊤, Option, Some, None}
use Rattle.std.specs.FinMap as map
use Rattle.mq_log.specs.Events.{Placed}
use Rattle.mq_rules.specs.declared.fault.Fault.{Fault}
use Rattle.mq_rules.specs.declared.faults.FaultKey.{FaultKey}
use Rattle.mq_rules.specs.declared.evidence.Evidence.{Evidence}
use Rattle.mq_report.specs.Reasons.{later_reasons}
use Rattle.mq_display.specs.declared.display.annotated.Annotated.{Annotated as AnnotatedView}
use Rattle.mq_display.specs.declared.display.view.View.{View}
use Rattle.mq_display.specs.declared.display.view.View.TheVariants.{Brief, Long, Annotated}
use Rattle.mq_rules.specs.FaultKeys.{faults_at}
use Rattle.mq_display.specs.Calendar.{time_words}
use Rattle.mq_report.specs.Report.{line}
use Rattle.mq_display.specs.Display.{Annotation, annotated, begins_gap, explained, fault_notes, is_timed, shown_line, short_lines_of, long_lines_of}

-- what a view of faults shows
abbrev pub annotation_of : AnnotatedView → Annotation
annotation_of a = record { role = a.role; faults = map.entries a.faults.now; reasons = a.reasons.now; around = a.extent.around; long = a.extent.long }

-- the text of events, which are given the newest first
abbrev pub text_by : (timed : Bool) → View → List Placed → List ℕ
text_by timed Brief = short_lines_of timed
text_by timed Long = long_lines_of timed
text_by timed (Annotated a) = annotated timed (annotation_of a)

-- the reasons of those of these faults that are at this position or after it
abbrev pub reasons_from : ℕ → List (FaultKey × Fault) → List Evidence → List Evidence
reasons_from position [] reasons = reasons
reasons_from position (found ∷ faults) reasons = cond (nat_lt found.0.position position) (reasons_from position faults (later_reasons reasons)) reasons

-- the reasons after those of these faults
abbrev pub reasons_past : List (FaultKey × Fault) → List Evidence → List Evidence
reasons_past [] reasons = reasons
reasons_past (found ∷ faults) reasons = reasons_past faults (later_reasons reasons)

-- A view with faults has passed the reasons of those before this position.
abbrev pub HasPassed : ℕ → AnnotatedView → Type 0
HasPassed position a = a.left.now ≡ reasons_from position (map.entries a.faults.now) a.reasons.now

-- The view's state after these events: a view with faults knows whether the next event that is left out would begin a gap, and has passed the reasons of the
-- faults at these events.
abbrev pub IsStateAfter : List Placed → View → Type 0
IsStateAfter earlier Brief = ⊤
IsStateAfter earlier Long = ⊤
IsStateAfter earlier (Annotated a) = (a.begins_gap ≡ begins_gap a.extent.around (map.entries a.faults.now) earlier) × HasPassed (length earlier + 1) a

-- The log that a reader still has to give, if that is known, is timed. Nothing is foreseen of a log that isn't known.
abbrev pub is_timed_if_known : Option (List ℕ) → Bool
is_timed_if_known None = false
is_timed_if_known (Some log) = is_timed log

-- These first bytes of a log don't show that it was foreseen wrongly whether it is timed: they are too few, or it is as was foreseen.
abbrev pub IsForeseen : (foreseen : Bool) → List ℕ → Type 0
IsForeseen foreseen taken = 8 ≤ length taken → is_timed taken ≡ foreseen

-- ---- an event in a view with faults, whose reasons are the first ones that are left

-- the line of an event, and the lines of the faults at it
abbrev pub noted_here : (timed : Bool) → AnnotatedView → Placed → List ℕ
noted_here timed a placed = shown_line timed a.extent.long placed
    ++ fault_notes a.role (time_words timed placed.place.moment) (explained (faults_at placed.place.position (map.entries a.faults.now)) a.left.now)

-- an event that is shown, or left out
abbrev pub text_here : (shown timed : Bool) → AnnotatedView → Placed → List ℕ
text_here true timed a placed = noted_here timed a placed
text_here false timed a placed = if a.begins_gap then line (codes "..") else []

-- the reasons that are left after it
abbrev pub left_here : (shown : Bool) → AnnotatedView → (position : ℕ) → List Evidence
left_here true a position = reasons_past (faults_at position (map.entries a.faults.now)) a.left.now
left_here false a position = a.left.now
