-- Whom the statements bind, in a list for each end; which of them are judged only where releases are recorded, and which only on request, without times or with them. Statements are in the order of
-- reports.
use Rattle.std.specs.Prelude.{Bool, List, [], ◌∷◌}
use Rattle.std.specs.List.{list_any}
use Rattle.mq_rules.specs.declared.rule.Rule.{Rule}
use Rattle.mq_rules.specs.declared.rule.Rule.TheVariants.{C02, C03, C04, C05, C06, C07, C08, C09, C10, C12, C13, C17, C18, C19, C20, C21, C22, S05, E1O, E2O, E3O, E5A, E5R, E6A, E6R, E7R, L1, L2, L3, B01, B02, B03, B04, B05, B06, B07, B08, B09, P01, P02, R01, R02, F01, F02, F03, F04, F05, F06, V03, V04, V06, C24, D01, D02, D03, D05, A01, A02, A03, K01, K02}
use Rattle.mq_rules.specs.Rules.{same_rule}

-- The statements that bind only a client. All but these bind a server.
abbrev pub only_client : List Rule
only_client = C02 ∷ C03 ∷ C13 ∷ C17 ∷ C18 ∷ C20 ∷ S05 ∷ E1O ∷ E2O ∷ E3O ∷ F01 ∷ F02 ∷ F03 ∷ F04 ∷ V03 ∷ V04 ∷ A01 ∷ K01 ∷ []

-- The statements that bind only a server. All but these bind a client.
abbrev pub only_server : List Rule
only_server = C04 ∷ C05 ∷ C06 ∷ C07 ∷ C08 ∷ C09 ∷ C10 ∷ C12 ∷ C19 ∷ C21 ∷ C22 ∷ E5A ∷ E5R ∷ E6A ∷ E6R ∷ E7R ∷ B01 ∷ B02 ∷ B03 ∷ B04 ∷ B05 ∷ B06 ∷ B07 ∷ B08 ∷ B09 ∷ P01 ∷ P02 ∷ R01 ∷ R02 ∷ F05 ∷ F06 ∷ C24 ∷ D01 ∷ D02 ∷ D03 ∷ D05 ∷ K02 ∷ []

-- The statements that are judged only if the log records releases.
abbrev pub on_releases : List Rule
on_releases = L1 ∷ L2 ∷ L3 ∷ []

-- The further statements that need no times, which are judged only if they are asked for.
abbrev pub on_request : List Rule
on_request = B05 ∷ B06 ∷ B07 ∷ B08 ∷ B09 ∷ P01 ∷ P02 ∷ R01 ∷ R02 ∷ F01 ∷ F02 ∷ F03 ∷ F04 ∷ F05 ∷ F06 ∷ V03 ∷ V04 ∷ V06 ∷ C24 ∷ D01 ∷ D02 ∷ D03 ∷ D05 ∷ A01 ∷ A02 ∷ A03 ∷ []

-- The further statements on times, which are judged only if these are asked for.
abbrev pub on_times : List Rule
on_times = K01 ∷ K02 ∷ []

-- whether a statement is one of these
abbrev pub is_among : Rule → List Rule → Bool
is_among rule rules = list_any (same_rule rule) rules
