-- What `packet --long` prints after the line on bytes that should be one packet.
use Rattle.std.specs.Prelude.{ℕ, nat_lt, Bool, true, false, List, [], ◌∷◌, ◌++◌, length, drop, codes, if◌then◌else◌, Result, Ok, Err}
use Rattle.mq_packet.specs.declared.frame.Cut.{Cut}
use Rattle.mq_packet.specs.declared.frame.Cut.TheVariants as cuts
use Rattle.mq_packet.specs.declared.fault.DecodeFault.{DecodeFault}
use Rattle.mq_packet.specs.declared.fault.DecodeFault.TheVariants as faults
use Rattle.mq_packet.specs.declared.rule.PacketRule.{PacketRule}
use Rattle.mq_packet.specs.Entries.{Entry, pingreq, pingresp}
use Rattle.mq_packet.specs.Frames.{cut_of}
use Rattle.mq_packet.specs.Decoding.{decoded}
use Rattle.mq_display.specs.Details.{broken_words, packet_words}
use Rattle.mq_display.specs.ItemText.{packet_rule_code, with_spaces}
use Rattle.mq_display.specs.OnePacket.{packet_report}
use Rattle.mq_report.specs.Report.{line}
use Rattle.mq_display.specs.Sentences.{packet_rule_sentence}

-- these words on a line of their own, each with a space before it, and one more before the first
abbrev pub inner_line : List (List ℕ) → List ℕ
inner_line words = line (32 ∷ with_spaces words)

-- a packet has fields: any but a PINGREQ and a PINGRESP (MQTT 5.0, sections 3.12 and 3.13)
abbrev pub has_fields : Entry → Bool
has_fields pingreq = false
has_fields pingresp = false
has_fields _ = true

-- a packet: the fields and the properties that `show --long` prints
abbrev pub field_lines : Entry → List ℕ
field_lines packet = if has_fields packet then inner_line (packet_words packet) else []

-- a packet that breaks a rule at this offset: its type and its bytes around the one that is wrong, and then what the statement says
abbrev pub fault_lines : List ℕ → PacketRule → ℕ → List ℕ
fault_lines bytes rule at = inner_line (broken_words bytes rule at) ++ inner_line (packet_rule_code rule ∷ packet_rule_sentence rule ∷ [])

-- one frame, by the result of reading its body
abbrev pub frame_lines : List ℕ → Result Entry DecodeFault → List ℕ
frame_lines bytes (Ok packet) = field_lines packet
frame_lines bytes (Err (faults.Broken fault)) = fault_lines bytes fault.rule fault.at
frame_lines bytes (Err (faults.OtherVersion version)) = []

-- any bytes, by the cut at their front: of what isn't exactly one frame no more is printed
abbrev pub lines_by : List ℕ → Cut → List ℕ
lines_by bytes cuts.Need = []
lines_by bytes cuts.Lost = []
lines_by bytes (cuts.Frame first start end) = if nat_lt end (length bytes) then [] else frame_lines bytes (decoded first (drop start bytes))

-- what is printed after the line
unfoldable pub packet_lines : List ℕ → List ℕ
packet_lines bytes = lines_by bytes (cut_of bytes)

-- the line, and that
abbrev pub long_packet_report : List ℕ → List ℕ
long_packet_report bytes = packet_report bytes ++ packet_lines bytes
