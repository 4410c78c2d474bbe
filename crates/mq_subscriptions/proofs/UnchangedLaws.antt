-- What waits doesn't change with an event that says nothing of filters.
use Rattle.std.proofs.Common.{◌≡◌, ℕ, ◌+◌, Bool, true, false, cond, ◌&&◌, ◌||◌, not, Option, Some, None, refl, arith}
use Rattle.std.specs.Prelude.{is_some, option_map}
use Rattle.mq_rules.specs.declared.fate.Fate.{Fate}
use Rattle.mq_rules.specs.Connections.{accepts}
use Rattle.mq_rules.specs.Words.{is_some_and}
use Rattle.mq_rules.specs.Notes.{Subscription, Grant}
use Rattle.mq_subscriptions.specs.Standings.{Waits, asked, is_answered, weighed}

pub waits_on : (f : Fate) (b : Bool) (g : Option Grant) (s : Option Subscription) (t : Waits → Bool) (among : (Waits → Bool) → Bool) → (b || (is_some g || is_some s)) ≡ false
    → among t ≡ cond b false ((accepts f && is_some_and t (option_map asked s)) || among (λ w. not (is_answered g w) && t w))
waits_on f true g s t among h = absurd (cc)
waits_on f false (Some g) s t among h = absurd (cc)
waits_on f false None (Some s) t among h = absurd (cc)
waits_on f false None None t among h = go (accepts f)
  where
    go : (b : Bool) → among t ≡ ((b && false) || among t)
    go true = refl
    go false = refl

pub weighs_on : (f : Fate) (b : Bool) (g : Option Grant) (s : Option Subscription) (weigh : Waits → ℕ) (among : (Waits → ℕ) → ℕ) → (b || (is_some g || is_some s)) ≡ false
    → among weigh ≡ cond b 0 (cond (accepts f) (weighed weigh (option_map asked s)) 0 + among (λ w. cond (is_answered g w) 0 (weigh w)))
weighs_on f true g s weigh among h = absurd (cc)
weighs_on f false (Some g) s weigh among h = absurd (cc)
weighs_on f false None (Some s) weigh among h = absurd (cc)
weighs_on f false None None weigh among h = go (accepts f)
  where
    go : (b : Bool) → among weigh ≡ (cond b 0 0 + among weigh)
    go true = grind (arith)
    go false = grind (arith)
