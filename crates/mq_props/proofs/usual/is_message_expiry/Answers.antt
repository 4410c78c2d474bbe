use Rattle.std.proofs.Common.{sym, ◌∙◌}
use Rattle.mq_props.proofs.UsualLaws.{took_some, has_four_bytes}
use Rattle.mq_props.proofs.usual.is_message_expiry.Goals as goal

pub returns : goal.returns
returns c = λ there.
    let read = took_some (λ n. n) c.u32.result c.args.cursor.now c.u32.new.self _ c.u32.ensures.exact (sym c.is_ok.ensures.value ∙ there) in
    has_four_bytes c.args.cursor.now c.u32.new.self read.0 read.1
