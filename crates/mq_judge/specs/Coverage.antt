-- How often each statement is put to the test in a log.
use Rattle.std.specs.Prelude.{ℕ, ◌==◌, Bool, cond, ◌&&◌, ◌||◌, not, List, [], ◌∷◌, map}
use Rattle.std.specs.List.{flat_map}
use Rattle.mq_log.specs.Events.{Placed, events}
use Rattle.mq_rules.specs.declared.role.Role.{Role}
use Rattle.mq_rules.specs.declared.role.Role.TheVariants.{Client, Server}
use Rattle.mq_rules.specs.declared.role.Further.{Further}
use Rattle.mq_rules.specs.declared.role.Tested.{Tested}
use Rattle.mq_rules.specs.declared.rule.Rule.{Rule}
use Rattle.mq_rules.specs.declared.rule.Rule.TheVariants.{W15, W16, W17, W18, W19, W20}
use Rattle.mq_report.specs.declared.report.coverage.Covered.{Covered}
use Rattle.mq_rules.specs.Notes.{tested_by, seen}
use Rattle.mq_rules.specs.Occasions.{places}
use Rattle.mq_rules.specs.Rules.{all_rules, binds, same_rule}
use Rattle.mq_rules.specs.Statements.{is_on_bytes}
use Rattle.mq_rules.specs.Trials.{places_bytes}
use Rattle.mq_choice.specs.Choices.{tested_for}

-- How many places a statement has among these events: at how many positions it is put to the test.
abbrev pub places_among : Tested → List Placed → Rule → ℕ
places_among tested received rule = cond (is_on_bytes tested rule) (places_bytes tested received rule) (places tested (map seen received) rule)

-- how many it has in a log that is judged by these further statements too
unfoldable pub places_in : Further → List ℕ → Rule → ℕ
places_in further log rule = places_among (tested_by further log) (events log) rule

-- The statement is about packets that only the other end sends: SUBSCRIBE, UNSUBSCRIBE and CONNECT (W15 to W19), or CONNACK (W20).
abbrev pub is_foreign : Role → Rule → Bool
is_foreign Client rule = same_rule rule W20
is_foreign Server rule = same_rule rule W15 || (same_rule rule W16 || (same_rule rule W17 || (same_rule rule W18 || same_rule rule W19)))

-- A statement with so many places is listed: it binds the tested end, and is about what that end sends, or has a place all the same.
abbrev pub is_listed : Tested → Rule → ℕ → Bool
is_listed tested rule count = binds rule tested && (not (is_foreign tested.role rule) || not (count == 0))

-- ---- what is reported

-- a statement, and how many places it has, if it is listed
abbrev pub listed_row : Tested → List Placed → Rule → List Covered
listed_row tested received rule = cond (is_listed tested rule (places_among tested received rule)) (record { rule = rule; places = places_among tested received rule } ∷ []) []

-- the same, if it is chosen
abbrev pub chosen_row : (chosen : Rule → Bool) → Tested → List Placed → Rule → List Covered
chosen_row chosen tested received rule = cond (chosen rule) (listed_row tested received rule) []

-- the rows of these statements
abbrev pub rows_among : (chosen : Rule → Bool) → Tested → List Placed → List Rule → List Covered
rows_among chosen tested received rules = flat_map (chosen_row chosen tested received) rules

-- How often each chosen statement that is listed is put to the test in a log, in the order of reports.
unfoldable pub coverage_of : (chosen : Rule → Bool) → List ℕ → List Covered
coverage_of chosen log = rows_among chosen (tested_for chosen log) (events log) all_rules
