use Rattle.std.proofs.Common.{ℕ, List, [], ◌∷◌, ◌++◌, ap}
use Rattle.std.specs.List.{flat_map}
use Rattle.mq_display.specs.Details.{escaped}
use Rattle.mq_display.proofs.OutgoingLaws.{puts_three}
use Rattle.mq_display.proofs.display.details.quoting.put_quoted.Goals as goal

pub returns : goal.returns
returns g c =
    puts_three g.W.Write.contents _ _ _ _ _ _ _ _ c.put.ensures c.put_escaped.ensures c.put-2.ensures
    (ap (λ (bytes : List ℕ). 34 ∷ (flat_map escaped bytes ++ (34 ∷ []))) c.as_bytes.ensures.value)
