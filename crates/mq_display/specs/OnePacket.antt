-- Bytes that should be one packet, and the line that says what they are.
use Rattle.std.specs.Prelude.{ℕ, ◌-◌, nat_lt, Bool, true, false, if◌then◌else◌, List, [], ◌∷◌, length, drop, codes, decimal, Result, Ok, Err}
use Rattle.mq_packet.specs.declared.frame.Cut.{Cut}
use Rattle.mq_packet.specs.declared.frame.Cut.TheVariants as cuts
use Rattle.mq_packet.specs.declared.fault.DecodeFault.{DecodeFault}
use Rattle.mq_packet.specs.declared.fault.DecodeFault.TheVariants as faults
use Rattle.mq_packet.specs.Entries.{Entry}
use Rattle.mq_packet.specs.Frames.{BeginsWithFrame, cut_of}
use Rattle.mq_packet.specs.Decoding.{decoded}
use Rattle.mq_packet.specs.Spelled.{IsSpelled}
use Rattle.mq_display.specs.declared.finding.Finding.{Finding}
use Rattle.mq_display.specs.declared.finding.Finding.TheVariants.{NeedMore, LeftOver, Packet, Broken, Lost, OtherVersion}
use Rattle.mq_display.specs.Summaries.{packet_summary}
use Rattle.mq_display.specs.ItemText.{packet_text, broken_text, lost_text}
use Rattle.mq_log.specs.Refusing.{spaced}
use Rattle.mq_report.specs.Report.{line}

-- what one frame is that has this first byte and this size, by the result of reading its body
abbrev pub frame_finding : ℕ → ℕ → Result Entry DecodeFault → Finding
frame_finding first size (Ok entry) = Packet (packet_summary entry) size
frame_finding first size (Err (faults.Broken fault)) = Broken fault.rule fault.at
frame_finding first size (Err (faults.OtherVersion version)) = OtherVersion version

-- what the bytes are, by the cut at their front: bytes after a whole frame are reported first, whatever the frame holds
abbrev pub finding_by : List ℕ → Cut → Finding
finding_by bytes cuts.Need = NeedMore
finding_by bytes cuts.Lost = Lost
finding_by bytes (cuts.Frame first start end) = if nat_lt end (length bytes) then LeftOver (length bytes - end)
    else frame_finding first end (decoded first (drop start bytes))

-- what the bytes are
unfoldable pub finding : List ℕ → Finding
finding bytes = finding_by bytes (cut_of bytes)

-- its text
abbrev pub finding_text : Finding → List ℕ
finding_text NeedMore = codes "need more bytes"
finding_text (LeftOver count) = spaced (codes "left" ∷ codes "over" ∷ decimal count ∷ codes "bytes" ∷ [])
finding_text (Packet packet size) = packet_text packet size
finding_text (Broken rule at) = broken_text rule at
finding_text Lost = lost_text
finding_text (OtherVersion version) = spaced (codes "other" ∷ codes "version" ∷ decimal version ∷ [])

-- it is a packet
abbrev pub finds_packet : Finding → Bool
finds_packet (Packet packet size) = true
finds_packet _ = false

-- all that is written of the bytes
unfoldable pub packet_report : List ℕ → List ℕ
packet_report bytes = line (finding_text (finding bytes))

-- the bytes are exactly one frame, and it spells a packet
unfoldable pub is_one_packet : List ℕ → Bool
is_one_packet bytes = finds_packet (finding bytes)

-- The same, independent of cutting and reading: all the bytes are one frame, which spells a packet (MQTT 5.0, section 2.1).
pub record IsOnePacket (bytes : List ℕ) : Type 0 where
  pub first : ℕ
  pub start : ℕ
  pub packet : Entry
  pub frame : BeginsWithFrame bytes first start (length bytes)
  pub spelled : IsSpelled first frame.body packet
