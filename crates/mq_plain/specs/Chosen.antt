-- The statements that are judged here.
use Rattle.std.specs.Prelude.{Bool, false, ◌||◌, List, [], ◌∷◌}
use Rattle.mq_rules.specs.declared.rule.Rule.{Rule}
use Rattle.mq_rules.specs.declared.rule.Rule.TheVariants.{S01, S02, S03, S04, S05, S06, S07, E1A, E1R, E1O, E2A, E2R, E2O, E3A, E3R, E3O, E4A, E4R, E5A, E5R, E6A, E6R, E7R, L1, L2, L3, B01, B02, B03, B04, B05, B06, B07, B08, B09, P01, P02, R01, R02, F01, F02, F03, F04, F05, F06, V03, V04, V06, C24, D01, D02, D03, D05, A01, A02, A03, K01, K02}
use Rattle.mq_rules.specs.Rules.{same_rule}

-- it is one of these
abbrev pub is_one_of : List Rule → Rule → Bool
is_one_of [] rule = false
is_one_of (r ∷ []) rule = same_rule rule r
is_one_of (r ∷ s ∷ rules) rule = same_rule rule r || is_one_of (s ∷ rules) rule

-- the statements on identifiers, resends, the send quota and exchanges
abbrev pub is_plain_se : Rule → Bool
is_plain_se rule = is_one_of (S01 ∷ S02 ∷ S03 ∷ S04 ∷ S05 ∷ S06 ∷ S07 ∷ E1A ∷ E1R ∷ E1O ∷ E2A ∷ E2R ∷ E2O ∷ E3A ∷ E3R ∷ E3O ∷ E4A ∷ E4R ∷ E5A ∷ E5R ∷ E6A ∷ E6R ∷ E7R ∷ []) rule

-- the statements on releases and subscriptions
abbrev pub is_plain_lb : Rule → Bool
is_plain_lb rule = is_one_of (L1 ∷ L2 ∷ L3 ∷ B01 ∷ B02 ∷ B03 ∷ B04 ∷ []) rule

-- all of them
abbrev pub is_plain_rule : Rule → Bool
is_plain_rule rule = is_plain_se rule || is_plain_lb rule

-- the further statements on connections, and those on subscriptions
abbrev pub is_plain_connection : Rule → Bool
is_plain_connection rule = is_one_of (F01 ∷ F02 ∷ F03 ∷ F04 ∷ F05 ∷ F06 ∷ V03 ∷ V04 ∷ V06 ∷ C24 ∷ D01 ∷ D02 ∷ D03 ∷ D05 ∷ A01 ∷ A02 ∷ A03 ∷ K01 ∷ K02 ∷ []) rule

abbrev pub is_plain_subscription : Rule → Bool
is_plain_subscription rule = is_one_of (B05 ∷ B06 ∷ B07 ∷ B08 ∷ B09 ∷ P01 ∷ P02 ∷ R01 ∷ R02 ∷ []) rule

-- all further statements
abbrev pub is_plain_further : Rule → Bool
is_plain_further rule = is_plain_connection rule || is_plain_subscription rule
