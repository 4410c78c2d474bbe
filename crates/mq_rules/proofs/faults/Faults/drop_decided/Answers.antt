use Rattle.std.proofs.Common.{rules, ◌==◌, not, sym, ap, ◌∙◌}
use Rattle.std.proofs.lemmas.Map.Made.{filter_same_pairs}
use Rattle.std.specs.FinMap as map
use Rattle.mq_rules.specs.FaultKeys.{decided_elsewhere}
use Rattle.mq_rules.proofs.FaultKeyLaws.{entries-of}
use Rattle.mq_rules.proofs.faults.Faults.drop_decided.Goals as goal

pub returns : goal.returns
returns c =
    entries-of _ c.retain.ensures.ordered
    ∙ filter_same_pairs _ (λ found. not (found.1.decided == c.args.position)) _ (λ k v b w f t. search rules) _ _ c.retain.ensures.filtered
    ∙ ap (decided_elsewhere c.args.position) (sym (entries-of _ c.retain.ensures.was_ordered) ∙ ap map.entries c.self.view_is)
