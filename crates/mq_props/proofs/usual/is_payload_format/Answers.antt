use Rattle.std.proofs.Common.{sym, ◌∙◌}
use Rattle.mq_props.proofs.UsualLaws.{took_some, has_byte}
use Rattle.mq_props.proofs.usual.is_payload_format.Goals as goal

pub returns : goal.returns
returns c = λ there.
    let read = took_some (λ n. n) c.u8.result c.args.cursor.now c.u8.new.self _ c.u8.ensures (sym c.is_ok.ensures.value ∙ there) in
    has_byte c.args.cursor.now c.u8.new.self read.0 read.1
