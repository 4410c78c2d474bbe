-- A tree map from aliases to names is the finite map of its entries.
use Rattle.std.proofs.Common.{◌≡◌, ℕ, cond, List, [], ◌∷◌, Some, refl, sym, ap, ◌∙◌}
use Rattle.std.specs.Ordering.{nat_cmp, eq_by_cmp}
use Rattle.std.specs.Cmp.{nat_cmp_total, eq_by_cmp_equiv}
use Rattle.std.specs.Map.{lookup}
use Rattle.std.specs.BTreeMap.{is_at}
use Rattle.std.specs.FinMap.{get, insert, from_entries, find, get-from_entries, get-insert, same_map, nat_cmp-IsAntisymmetric}

find-lookup : (q : ℕ) (es : List (ℕ × List ℕ)) → find nat_cmp q es ≡ lookup (is_at (nat_cmp q)) es
find-lookup q [] = refl
find-lookup q (e ∷ es) = ap (cond (is_at (nat_cmp q) e.0) (Some e.1)) (find-lookup q es)

-- what the finite map of these entries has for an alias
pub get-entries_of : (es : List (ℕ × List ℕ)) (q : ℕ) → get (from_entries {R = nat_cmp} es) q ≡ lookup (is_at (nat_cmp q)) es
get-entries_of es q = get-from_entries nat_cmp_total es q ∙ find-lookup q es

-- entries that differ at one alias make maps that differ there
pub one_set : (es fs : List (ℕ × List ℕ)) (alias : ℕ) (name : List ℕ)
    → ((q : ℕ) → lookup (is_at (nat_cmp q)) fs ≡ cond (is_at (nat_cmp alias) q) (Some name) (lookup (is_at (nat_cmp q)) es))
    → from_entries {R = nat_cmp} fs ≡ insert (from_entries es) alias name
one_set es fs alias name h = same_map nat_cmp_total nat_cmp-IsAntisymmetric _ _ (λ q.
    get-entries_of fs q ∙ h q ∙ ap (λ b. cond b (Some name) (lookup (is_at (nat_cmp q)) es)) ((eq_by_cmp_equiv nat_cmp_total).symm alias q)
    ∙ sym (get-insert nat_cmp_total (from_entries es) alias name q ∙ ap (cond (eq_by_cmp nat_cmp q alias) (Some name)) (get-entries_of es q)))
