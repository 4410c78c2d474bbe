use Rattle.std.proofs.Common.{◌≡◌, ◌-◌, None, Some, sym}
use Rattle.std.specs.Str.{bytes_eq}
use Rattle.std.specs.String.{string_bytes}
use Rattle.std.proofs.lemmas.Map.Made.{lookup_key_passes}
use Rattle.std.proofs.lemmas.Map.Text.{hash_map_updates_text}
use Rattle.std.proofs.lemmas.Slice.Eq.{bytes_eq-Decides}
use Rattle.indexmap.specs.IndexMap.{get_by_text}
use Rattle.mq_evidence.proofs.SubscribedLaws.{dropped-count, dropped-positive, lowered, lowered-count, lowered-positive}
use Rattle.mq_evidence.proofs.subscribed.lower.Goals as goal

pub returns-then-count-le1-clause-counts : goal.returns-then-count-le1-clause-counts
returns-then-count-le1-clause-counts c = λ f.
    dropped-count (get_by_text c.args.counts.now) c.args.filter.now f (get_by_text c.swap_remove_entry.new.self f) c.in-Some.count
    (hash_map_updates_text c.args.filter.now c.args.counts.now c.swap_remove_entry.new.self None c.swap_remove_entry.ensures.updates f) c.in-Some.ensures.value c.if-count-le1.true

pub returns-then-count-le1-clause-positive : goal.returns-then-count-le1-clause-positive
returns-then-count-le1-clause-positive c = λ positive f.
    dropped-positive (get_by_text c.args.counts.now) c.args.filter.now f (get_by_text c.swap_remove_entry.new.self f)
    (hash_map_updates_text c.args.filter.now c.args.counts.now c.swap_remove_entry.new.self None c.swap_remove_entry.ensures.updates f) (positive f)

pub returns-clause-counts : goal.returns-clause-counts
returns-clause-counts c = λ f.
    let same : c.args.filter.now ≡ string_bytes c.in-Some.key = (bytes_eq-Decides c.args.filter.now (string_bytes c.in-Some.key)).0 (lookup_key_passes (λ k. bytes_eq c.args.filter.now (string_bytes k)) c.args.counts.now.entries c.in-Some.key (sym c.in-Some.ensures.key)) in
    lowered-count (get_by_text c.args.counts.now) c.args.filter.now f (get_by_text c.insert.new.self f) c.in-Some.count
    (lowered (get_by_text c.args.counts.now) c.args.filter.now f (get_by_text c.swap_remove_entry.new.self f) (get_by_text c.insert.new.self f) (string_bytes c.in-Some.key) (c.in-Some.count - 1)
    (hash_map_updates_text c.args.filter.now c.args.counts.now c.swap_remove_entry.new.self None c.swap_remove_entry.ensures.updates f)
    (hash_map_updates_text (string_bytes c.in-Some.key) c.swap_remove_entry.new.self c.insert.new.self (Some (c.in-Some.count - 1)) c.in_ok-insert.ensures.updates f) same) c.in-Some.ensures.value

pub returns-clause-positive : goal.returns-clause-positive
returns-clause-positive c = λ positive f.
    let same : c.args.filter.now ≡ string_bytes c.in-Some.key = (bytes_eq-Decides c.args.filter.now (string_bytes c.in-Some.key)).0 (lookup_key_passes (λ k. bytes_eq c.args.filter.now (string_bytes k)) c.args.counts.now.entries c.in-Some.key (sym c.in-Some.ensures.key)) in
    lowered-positive (get_by_text c.args.counts.now) c.args.filter.now f (get_by_text c.insert.new.self f) c.in-Some.count
    (lowered (get_by_text c.args.counts.now) c.args.filter.now f (get_by_text c.swap_remove_entry.new.self f) (get_by_text c.insert.new.self f) (string_bytes c.in-Some.key) (c.in-Some.count - 1)
    (hash_map_updates_text c.args.filter.now c.args.counts.now c.swap_remove_entry.new.self None c.swap_remove_entry.ensures.updates f)
    (hash_map_updates_text (string_bytes c.in-Some.key) c.swap_remove_entry.new.self c.insert.new.self (Some (c.in-Some.count - 1)) c.in_ok-insert.ensures.updates f) same)
    c.if-count-le1.false (positive f)
