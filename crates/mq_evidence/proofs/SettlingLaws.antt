-- Filters that stand, with one filter more.
use Rattle.std.proofs.Common.{◌≡◌, ℕ, Bool, ◌&&◌, ◌||◌, nat_le, List, [], ◌∷◌, ap, ◌∙◌}
use Rattle.std.specs.List.{list_any}
use Rattle.mq_rules.proofs.Exports.{or_false}
use Rattle.mq_filters.specs.Standings.{allows}
use Rattle.mq_evidence.specs.declared.settled.Settled.{Settled}
use Rattle.mq_evidence.specs.Settling.{Question, allowing, not_before, passes, holds}

-- a filter is added with its ceiling, and with its position
pub stands-too : (old new : Settled) (at : ℕ) (f : List ℕ) (c : ℕ)
    → ((among : List ℕ → Bool) (qos : ℕ) → list_any (allows among qos) new.ceilings ≡ (list_any (allows among qos) old.ceilings || list_any (allows among qos) (record { filter = f; ceiling = c } ∷ [])))
    → ((among : List ℕ → Bool) (first : ℕ) → list_any (allows among first) new.last ≡ (list_any (allows among first) old.last || list_any (allows among first) (record { filter = f; ceiling = at } ∷ [])))
    → (q : Question) → holds q new ≡ (holds q old || passes q at (record { filter = f; ceiling = c }))
stands-too old new at f c raised later (allowing among qos) = raised among qos ∙ ap (λ b. list_any (allows among qos) old.ceilings || b) (or_false (among f && nat_le qos c))
stands-too old new at f c raised later (not_before among first) = later among first ∙ ap (λ b. list_any (allows among first) old.last || b) (or_false (among f && nat_le first at))
