use Rattle.std.proofs.Common.{sym, ◌∙◌}
use Rattle.mq_props.specs.Views.{item_view}
use Rattle.mq_props.proofs.FactLaws.{alias_other, alias_seen, alias_new}
use Rattle.mq_props.proofs.facts.Facts.topic_alias_with.Goals as goal

pub returns-then-item-ne-TOPIC_ALIAS : goal.returns-then-item-ne-TOPIC_ALIAS
returns-then-item-ne-TOPIC_ALIAS c = λ ps knows. knows.alias ∙ sym (alias_other ps (item_view c.args.item.now) c.if-item-ne-TOPIC_ALIAS.true)

pub returns-then-has : goal.returns-then-has
returns-then-has c = λ ps knows. knows.alias ∙ sym (alias_seen ps (item_view c.args.item.now) (sym (c.has.ensures ps knows.sees) ∙ c.if-has.true))

pub returns : goal.returns
returns c = λ ps knows. c.two_bytes.ensures ∙ sym (alias_new ps (item_view c.args.item.now) (sym (c.has.ensures ps knows.sees) ∙ c.if-has.false) c.if-item-ne-TOPIC_ALIAS.false)
