use Rattle.std.proofs.Common.{sym, ◌∙◌}
use Rattle.mq_props.proofs.UsualLaws.{text_some, has_texts}
use Rattle.mq_props.proofs.usual.is_user_property.Goals as goal

pub returns-then-is_some : goal.returns-then-is_some
returns-then-is_some c = λ there.
    let name = text_some (λ text. text.now) c.plain_text.result c.args.cursor.now c.plain_text.new.self c.plain_text.ensures.text c.plain_text.ensures.plain (sym c.is_some.ensures ∙ c.if-is_some.true) in
    let value = text_some (λ text. text.now) c.plain_text-then-is_some.result c.plain_text.new.self c.plain_text-then-is_some.new.self c.plain_text-then-is_some.ensures.text c.plain_text-then-is_some.ensures.plain (sym c.is_some-then-is_some.ensures ∙ there) in
    has_texts c.args.cursor.now c.plain_text.new.self c.plain_text-then-is_some.new.self name.0 value.0 name.1 value.1
