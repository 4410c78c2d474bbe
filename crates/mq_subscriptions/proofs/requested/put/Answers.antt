use Rattle.std.proofs.Common.{cond, Some, ap, ◌∙◌}
use Rattle.std.specs.Str.{bytes_eq}
use Rattle.std.specs.String.{string_bytes}
use Rattle.std.proofs.lemmas.Map.Text.{hash_map_updates_text}
use Rattle.indexmap.specs.IndexMap.{get_by_text}
use Rattle.mq_subscriptions.proofs.RequestedLaws.{eq-turn}
use Rattle.mq_subscriptions.proofs.requested.put.Goals as goal

pub returns : goal.returns
returns c = λ f.
    hash_map_updates_text (string_bytes c.in_ok-key.key) c.args.states.now c.insert.new.self (Some c.args.state) c.in_ok-insert.ensures.updates f
    ∙ ap (λ k. cond (bytes_eq k f) (Some c.args.state) (get_by_text c.args.states.now f)) c.in_ok-key.ensures
    ∙ ap (λ b. cond b (Some c.args.state) (get_by_text c.args.states.now f)) (eq-turn c.args.filter.now f)
