use Rattle.std.proofs.Common.{sym, ◌∙◌}
use Rattle.mq_props.proofs.UsualLaws.{took_some, has_binary}
use Rattle.mq_props.proofs.usual.is_correlation_data.Goals as goal

pub returns : goal.returns
returns c = λ there.
    let read = took_some (λ bytes. bytes.now) c.binary.result c.args.cursor.now c.binary.new.self _ c.binary.ensures.exact (sym c.is_ok.ensures.value ∙ there) in
    has_binary c.args.cursor.now c.binary.new.self read.0 read.1
