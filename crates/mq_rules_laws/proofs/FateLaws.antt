-- Fates stay in longer logs.
use Rattle.std.proofs.Common.{◌≡◌, ℕ, ◌<◌, ◌≤◌, ◌==◌, cond, List, [], ◌∷◌, ◌++◌, Some, None, refl, ap, ◌∙◌, arith}
use Rattle.std.specs.Option.{option_or}
use Rattle.mq_rules.specs.declared.role.Role.{Role}
use Rattle.mq_rules.specs.declared.fate.Fate.{Fate}
use Rattle.mq_rules.specs.declared.note.Seen.{Seen}
use Rattle.mq_rules.specs.Moments.{newest}
use Rattle.mq_rules.specs.Connections.{begun, fate, gives_fate}
use Rattle.mq_rules.proofs.Exports.{begun-least, fate-elsewhere, fate-next}

pub fate-kept : (role : Role) (c : ℕ) (f : Fate) (e : Seen) (past : List Seen) → fate role c past ≡ Some f → fate role c (e ∷ past) ≡ Some f
fate-kept role c f e past h = fate-next role c e past ∙ ap (λ o. option_or o (cond (begun (e ∷ past) == c) (gives_fate role (newest e past)) None)) h

-- a fate, once decided, is the same in every longer log
pub fate-stays : (role : Role) (c : ℕ) (f : Fate) (later past : List Seen) → fate role c past ≡ Some f → fate role c (later ++ past) ≡ Some f
fate-stays role c f [] past h = h
fate-stays role c f (e ∷ later) past h = fate-kept role c f e (later ++ past) (fate-stays role c f later past h)

pub begun-later : (later past : List Seen) → begun past ≤ begun (later ++ past)
begun-later [] past = omega arith
begun-later (e ∷ later) past = let least = begun-least e (later ++ past) in let before = begun-later later past in omega arith

-- so is that of a connection that another has followed
pub fate-followed : (role : Role) (c : ℕ) (later past : List Seen) → c < begun past → fate role c (later ++ past) ≡ fate role c past
fate-followed role c [] past h = refl
fate-followed role c (e ∷ later) past h =
    let least = begun-later (e ∷ later) past in
    fate-elsewhere role c e (later ++ past) (omega arith) ∙ fate-followed role c later past h
