use Rattle.std.proofs.Common.{cond, Some, ap, ◌∙◌}
use Rattle.std.specs.Str.{bytes_eq}
use Rattle.std.specs.String.{string_bytes}
use Rattle.std.proofs.lemmas.Map.Text.{hash_map_updates_text}
use Rattle.indexmap.specs.IndexMap.{get_by_text}
use Rattle.mq_evidence.proofs.SubscribedLaws.{raised-count, raised-positive}
use Rattle.mq_evidence.proofs.subscribed.raise.Goals as goal

pub returns-clause-counts : goal.returns-clause-counts
returns-clause-counts c = λ f.
    raised-count (get_by_text c.args.counts.now) c.args.filter.now f (get_by_text c.insert.new.self f) c.count_of.result c.in-Some.count
    (hash_map_updates_text (string_bytes c.in_ok-key.key) c.args.counts.now c.insert.new.self (Some c.in-Some.count) c.in_ok-insert.ensures.updates f
    ∙ ap (λ k. cond (bytes_eq k f) (Some c.in-Some.count) (get_by_text c.args.counts.now f)) c.in_ok-key.ensures) c.count_of.ensures c.in-Some.ensures.1

pub returns-clause-positive : goal.returns-clause-positive
returns-clause-positive c = λ positive f.
    raised-positive (get_by_text c.args.counts.now) c.args.filter.now f (get_by_text c.insert.new.self f) c.count_of.result c.in-Some.count
    (hash_map_updates_text (string_bytes c.in_ok-key.key) c.args.counts.now c.insert.new.self (Some c.in-Some.count) c.in_ok-insert.ensures.updates f
    ∙ ap (λ k. cond (bytes_eq k f) (Some c.in-Some.count) (get_by_text c.args.counts.now f)) c.in_ok-key.ensures) c.in-Some.ensures.1 (positive f)
