-- What is left of filters that no Reason Code comes for.
use Rattle.std.proofs.Common.{◌≡◌, List, [], ◌∷◌, refl, ap}
use Rattle.mq_rules.specs.Subscriptions.{Standing}
use Rattle.mq_subscriptions.specs.Standings.{with_codes}

-- filters without codes stay as they are
pub codes_none : (ss : List Standing) → with_codes ss [] ≡ ss
codes_none [] = refl
codes_none (s ∷ ss) = ap (λ rest. s ∷ rest) (codes_none ss)
