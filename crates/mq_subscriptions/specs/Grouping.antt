-- The statements on subscriptions.
use Rattle.std.specs.Prelude.{◌≡◌, Bool, true, false, ◌&&◌, ◌||◌, not, refl}
use Rattle.mq_rules.specs.declared.rule.Rule.{Rule}
use Rattle.mq_rules.specs.declared.role.Role.{Role}
use Rattle.mq_rules.specs.declared.rule.Rule.TheVariants.{W01, B01, B02, B03, B04, B05, B06, B07, B08, B09, P01, P02, R01, R02}
use Rattle.mq_rules.specs.Rules.{same_rule}
use Rattle.mq_rules.specs.Occasions.{occasion}
use Rattle.mq_fates.specs.Placings.{is_on_sessions, implied}

-- ---- subscriptions, as they are watched

-- by those that match what is delivered
abbrev pub of_matching : Rule → Bool
of_matching r = same_rule r B08 || (same_rule r B09 || (same_rule r P01 || (same_rule r P02 || (same_rule r R01 || same_rule r R02))))

abbrev pub of_subscriptions : Rule → Bool
of_subscriptions r = (same_rule r B01 || same_rule r B02) || (same_rule r B03 || (same_rule r B04 || (same_rule r B05 || ((same_rule r B06 || same_rule r B07) || of_matching r))))

-- ---- where they are put to the test

subscriptions_placed : (role : Role) (r : Rule) → (of_subscriptions r && not (is_on_sessions (occasion role r))) ≡ false
subscriptions_placed role W01 = refl
subscriptions_placed role _ = refl

pub on_subscriptions : (role : Role) (r : Rule) → of_subscriptions r ≡ true → is_on_sessions (occasion role r) ≡ true
on_subscriptions role r = implied (of_subscriptions r) (is_on_sessions (occasion role r)) (subscriptions_placed role r)

matching_placed : (role : Role) (r : Rule) → (of_matching r && not (is_on_sessions (occasion role r))) ≡ false
matching_placed role W01 = refl
matching_placed role _ = refl

pub on_matching : (role : Role) (r : Rule) → of_matching r ≡ true → is_on_sessions (occasion role r) ≡ true
on_matching role r = implied (of_matching r) (is_on_sessions (occasion role r)) (matching_placed role r)
