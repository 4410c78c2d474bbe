use Rattle.std.proofs.Common.{◌≡◌, ℕ, List, nat_eq, subst, sym, ap, ◌∙◌}
use Rattle.std.specs.List.{IsDistinct, list_any}
use Rattle.std.proofs.lemmas.Map.Made.{is_some-lookup}
use Rattle.indexmap.specs.IndexMap.{keys}
use Rattle.mq_fates.proofs.sizes.map_size.Goals as goal

pub returns-clause-bounded : goal.returns-clause-bounded
returns-clause-bounded g c = λ test passes.
    let same : c.as_slice.result.now ≡ keys c.args.map.now = c.as_slice.ensures ∙ c.keys.ensures.rest in
    c.count_distinct.ensures.bounded (subst (λ (xs : List ℕ). IsDistinct nat_eq xs) (sym same) c.keys.ensures.unique) test
    (λ i here. passes i (is_some-lookup (nat_eq i) c.args.map.now.entries ∙ ap (λ (xs : List ℕ). list_any (nat_eq i) xs) (sym same) ∙ here))
