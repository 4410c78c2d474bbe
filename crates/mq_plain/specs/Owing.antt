-- What a resumed session owes (MQTT 5.0, section 4.4).
use Rattle.std.specs.Prelude.{ℕ, Bool, ◌&&◌, ◌||◌, not, List, Option, Some}
use Rattle.mq_rules.specs.declared.role.Role.{Role}
use Rattle.mq_rules.specs.declared.fate.Fate.TheVariants.{Resumed}
use Rattle.mq_rules.specs.declared.note.Note.{Note}
use Rattle.mq_rules.specs.declared.note.Seen.{Seen}
use Rattle.mq_rules.specs.Words.{is_id, is_some_and}
use Rattle.mq_rules.specs.Notes.{opener_of, closer_of, delivery_of, sent_as, received_as, pubrel_in, accepting_pubrec_in}
use Rattle.mq_rules.specs.Identifiers.{is_passed_over, is_retained}
use Rattle.mq_plain.specs.declared.owing.Excuse.{Excuse}
use Rattle.mq_rules.specs.Moments.{Moment, note, is_same, since}

-- an event opens or closes the identifier; confirms it by a PUBREC below 0x80; sends a PUBLISH or a PUBREL under it
abbrev pub moves : ℕ → Note → Bool
moves i n = is_id i (opener_of n) || is_id i (closer_of n)

abbrev pub confirms : ℕ → Note → Bool
confirms i n = is_id i (received_as accepting_pubrec_in n)

abbrev pub sends_under : ℕ → Note → Bool
sends_under i n = is_id i (delivery_of n) || is_id i (sent_as pubrel_in n)

-- An opener is owed, given the identifiers that were sent again, and those that were moved, and confirmed, after it. If not all need be sent again (lenient),
-- only those are owed that were confirmed.
abbrev pub is_owed : Bool → (ℕ → Bool) → (ℕ → Bool) → (ℕ → Bool) → Option ℕ → Bool
is_owed lenient again moved confirmed opener = is_some_and (λ i. not (moved i) && (not (again i) && not (not (confirmed i) && lenient))) opener

-- an opener was passed over, if the latest connection of these events resumed its session
abbrev pub opener_over : Role → List Seen → Moment → Bool
opener_over role past k = is_some_and (λ i. is_passed_over role (Some Resumed) i past k) (opener_of (note k))

-- it is excused, if it wasn't confirmed
abbrev pub covers : Role → Excuse → List Seen → Moment → Bool
covers role excuse past k = (excuse.all || opener_over role past k) || (excuse.retained && is_retained k)

-- an opener k among these moments is owed: its identifier wasn't moved since; such openers are excused, if they weren't confirmed
abbrev pub owes : (Moment → Bool) → (ℕ → Bool) → List Moment → Moment → Bool
owes lenient again ms k = is_some_and (λ i. since (is_same k) (λ m. moves i (note m)) ms
    && (not (again i) && not (since (is_same k) (λ m. confirms i (note m)) ms && lenient k))) (opener_of (note k))
