use Rattle.std.proofs.Common.{sym, ◌∙◌}
use Rattle.mq_props.proofs.UsualLaws.{text_some, has_topic}
use Rattle.mq_props.proofs.usual.is_response_topic.Goals as goal

pub returns : goal.returns
returns c = λ there.
    let read = text_some (λ text. text.now) c.plain_text.result c.args.cursor.now c.plain_text.new.self c.plain_text.ensures.text c.plain_text.ensures.plain (sym c.is_some.ensures ∙ there) in
    has_topic c.args.cursor.now c.plain_text.new.self read.0 read.1 read.2
