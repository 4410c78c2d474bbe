use Rattle.std.proofs.Common.{Some, sym, ap, ◌∙◌}
use Rattle.std.specs.FinMap as map
use Rattle.mq_topic.proofs.AliasLaws.{get-entries_of}
use Rattle.mq_topic.proofs.aliases.AliasTable.get.Goals as goal

pub returns-in-Some : goal.returns-in-Some
returns-in-Some c = ap Some c.as_str.ensures ∙ c.in-Some.ensures.value ∙ sym (get-entries_of _ c.args.alias) ∙ ap (λ m. map.get m c.args.alias) c.self.view_is

pub returns-in-None : goal.returns-in-None
returns-in-None c = c.in-None.ensures.value ∙ sym (get-entries_of _ c.args.alias) ∙ ap (λ m. map.get m c.args.alias) c.self.view_is
