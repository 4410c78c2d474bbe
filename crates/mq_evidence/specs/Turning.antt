-- How an event turns the stretches, by what is kept of the session.
use Rattle.std.specs.Prelude.{ℕ, Bool, ◌&&◌, ◌||◌, Option, Some, None, unwrap_or, option_map, List}
use Rattle.mq_rules.specs.declared.role.Tested.{Tested}
use Rattle.mq_rules.specs.declared.fate.Fate.{Fate}
use Rattle.mq_rules.specs.declared.rule.Rule.{Rule}
use Rattle.mq_rules.specs.declared.note.Note.{Note}
use Rattle.mq_rules.specs.declared.note.Seen.{Seen}
use Rattle.mq_rules.specs.Notes.{is_open, is_release}
use Rattle.mq_rules.specs.Moments.{moment}
use Rattle.mq_rules.specs.Connections.{number, accepts, is_void, begins, fate_under}
use Rattle.mq_rules.specs.declared.evidence.Evidence.{Evidence}
use Rattle.mq_rules.specs.Evidence.{nothing}
use Rattle.mq_evidence.specs.declared.turn.Turn.{Turn}
use Rattle.mq_evidence.specs.Evidence.{found, reason}

abbrev pub turn_of : ℕ → Fate → Note → Bool → Turn
turn_of position f n any = record {
  position = position;
  begins = is_open n && begins (Some f);
  inside = accepts f || (is_release n && (is_void f && any));
  opens = is_open n;
}

-- The evidence that a statement has at position k, by what came before k, if the latest connection is taken to have this fate. What only a REST shows has none yet.
unfoldable pub evidence_under : Tested → Option Fate → List Seen → ℕ → Rule → Evidence
evidence_under tested f log k rule = unwrap_or (option_map (λ m. found (reason tested.role rule) (fate_under tested.role f log (number m)) None m) (moment log k)) nothing
