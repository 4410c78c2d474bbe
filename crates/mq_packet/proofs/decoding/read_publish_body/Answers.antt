-- The place of a broken rule fits in four bytes.
use Rattle.std.proofs.Common.{◌≡◌, ℕ, ◌≤◌, ◌<◌, List, length, Result, Err, sym, ap, ◌∙◌, arith}
use Rattle.mq_wire.specs.Left.{Left}
use Rattle.mq_packet.specs.declared.read_fault.ReadFault.{ReadFault}
use Rattle.mq_packet.specs.Entries.{Entry}
use Rattle.mq_packet.specs.declared.fault.DecodeFault.{DecodeFault}
use Rattle.mq_packet.specs.FirstBytes.{flags_in}
use Rattle.mq_packet.specs.Formats.{Format, format_of, publish_format}
use Rattle.mq_packet.specs.Decoding.{broken, read}
use Rattle.mq_packet.specs.Reading.{decode_fault}
use Rattle.mq_packet.proofs.FirstByteLaws.{publish_format_of}
use Rattle.mq_packet.proofs.Places.{place_fits}
use Rattle.mq_packet.proofs.decoding.read_publish_body.Goals as goal

publish_only : (first : ℕ) → 48 ≤ first → first < 64 → (left : Left) → read (format_of first) left ≡ read (publish_format (flags_in first)) left
publish_only first from to left = ap (λ (f : Format). read f left) (publish_format_of first from to)

pub fault_of-requires : goal.fault_of-requires
fault_of-requires c = λ at rule is.
    let cursor : Left = c.starting_at-cursor.result in
    let failed : ReadFault → Result Entry DecodeFault = λ stop. Err (decode_fault stop) in
    let stops : read (format_of c.args.first) cursor ≡ Err (broken at rule) = publish_only c.args.first c.requires.from c.requires.to cursor ∙ ap (λ (flags : ℕ). read (publish_format flags) cursor) (sym c.flags.ensures) ∙ c.in-Err.ensures ∙ ap failed is in
    let first : cursor.at ≡ c.header_len.result = ap (λ (left : Left). left.at) c.starting_at-cursor.ensures in
    let rest : cursor.rest ≡ c.args.body.now = ap (λ (left : Left). left.rest) c.starting_at-cursor.ensures in
    place_fits c.args.first at cursor rule stops (omega (arith, first, c.header_len.ensures.bound)) (omega (arith, ap (λ (l : List ℕ). length l) rest, c.requires.bound))
