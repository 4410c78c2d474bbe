-- Where a pair is decided, in a log that grows.
use Rattle.std.proofs.Common.{◌≡◌, ℕ, ◌+◌, ◌≤◌, nat_le, Bool, true, false, cond, List, [], ◌∷◌, ◌++◌, length, Option, Some, None, is_some, refl, ap, sym, ◌∙◌, arith, length-append}
use Rattle.std.specs.Prelude.{option_map}
use Rattle.std.proofs.lemmas.Bool.{leb-true, le-leb}
use Rattle.std.specs.Option.{option_or}
use Rattle.mq_rules.specs.declared.role.Tested.{Tested}
use Rattle.mq_rules.specs.declared.rule.Rule.{Rule}
use Rattle.mq_rules.specs.declared.note.Seen.{Seen}
use Rattle.mq_rules.specs.Moments.{moment}
use Rattle.mq_rules.specs.Statements.{fails}
use Rattle.mq_rules.specs.Faults.{decided, reported, fault_in}
use Rattle.mq_rules.proofs.Exports.{decided-fails, decided-within, fails-kept, not_true}

-- and has a fault exactly there
pub fault_in-fails : (tested : Tested) (log : List Seen) (k : ℕ) (rule : Rule) → is_some (fault_in tested log k rule) ≡ fails tested log k rule
unfolding fault_in
fault_in-fails tested log k rule = go (fails tested log k rule) (decided tested log k rule) (decided-fails tested log k rule)
  where
    go : (b : Bool) (o : Option ℕ) → is_some o ≡ b → is_some (cond b (option_map (reported tested.role (moment log k) rule) o) None) ≡ b
    go true (Some n) h = refl
    go true None h = h
    go false o h = refl

-- ---- the shortest beginning

-- what fails in a beginning fails in all longer ones
pub fails-later : (tested : Tested) (later past : List Seen) (k : ℕ) (rule : Rule) → fails tested past k rule ≡ true → fails tested (later ++ past) k rule ≡ true
fails-later tested [] past k rule h = h
fails-later tested (e ∷ later) past k rule h = fails-kept tested (later ++ past) e k rule (fails-later tested later past k rule h)

-- a pair that is decided at a position fails in exactly the beginnings of the log that reach that position
pub decided-reached : (tested : Tested) (later past : List Seen) (n k : ℕ) (rule : Rule) → decided tested (later ++ past) k rule ≡ Some n → fails tested past k rule ≡ nat_le n (length past)
decided-reached tested [] past n k rule h = sym (decided-fails tested past k rule) ∙ ap is_some h ∙ sym (le-leb n (length past) (decided-within tested past n k rule h).1)
decided-reached tested (e ∷ later) past n k rule h = go (decided tested (later ++ past) k rule) refl (fails tested (e ∷ (later ++ past)) k rule) h (decided-reached tested later past n k rule)
  where
    before : is_some (decided tested (later ++ past) k rule) ≡ false → fails tested past k rule ≡ false
    before none = not_true (fails tested past k rule) (λ t.
        let p : fails tested (later ++ past) k rule ≡ true = fails-later tested later past k rule t in
        let q = decided-fails tested (later ++ past) k rule in
        absurd (cc))

    go : (o : Option ℕ) → decided tested (later ++ past) k rule ≡ o → (b : Bool) → option_or o (cond b (Some (length (later ++ past) + 1)) None) ≡ Some n
        → (decided tested (later ++ past) k rule ≡ Some n → fails tested past k rule ≡ nat_le n (length past)) → fails tested past k rule ≡ nat_le n (length past)
    go (Some x) is b h rest = rest (is ∙ h)
    go None is true h rest =
        let at : length (later ++ past) + 1 ≡ n = cc in
        let sum : length (later ++ past) ≡ length later + length past = length-append later past in
        before (ap is_some is) ∙ sym (not_true (nat_le n (length past)) (λ t. let le : n ≤ length past = leb-true n (length past) t in omega arith))
    go None is false h rest = absurd (cc)
