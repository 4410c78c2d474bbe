use Rattle.std.proofs.Common.{sym, ◌∙◌}
use Rattle.mq_props.proofs.UsualLaws.{follows_alias}
use Rattle.mq_props.proofs.usual.topic_alias_after.Goals as goal

pub returns : goal.returns
returns c =
    follows_alias c.args.facts c.with_topic_alias.result c.args.cursor.now c.u16.new.self c.in-Ok.number c.in-Ok.ensures.exact c.if-number-eq0.false
    (λ before knows. sym (c.has.ensures before knows.sees) ∙ c.if-has.false)
    (λ before knows. c.with_topic_alias.ensures before knows (sym (c.has.ensures before knows.sees) ∙ c.if-has.false))
