-- The table of the statements: how reports name each, where MQTT 5.0 has it, and whom it binds.
use Rattle.std.specs.Prelude.{ℕ, Bool, true, false, ◌&&◌, ◌||◌, not, List, [], map, Option, unwrap_or}
use Rattle.std.specs.Borrow.{Bor}
use Rattle.std.specs.declared.cmp.Ordering.{Ordering}
use Rattle.std.specs.List.{find}
use denote.Enum.Bare.{sameb}
use Rattle.mq_rules.specs.declared.role.Role.{Role}
use Rattle.mq_rules.specs.declared.role.Role.TheVariants.{Client, Server}
use Rattle.mq_rules.specs.declared.role.Further.{Further}
use Rattle.mq_rules.specs.declared.role.Tested.{Tested}
use Rattle.mq_rules.specs.declared.rule.Rule.{Rule}
use Rattle.mq_rules.specs.contracts.rule.Rule.{the_type}
use Rattle.mq_rules.specs.contracts.rule.RuleOrd.TheImpl as rule_ord
use Rattle.mq_rules.specs.declared.table.Ends.{Ends}
use Rattle.mq_rules.specs.declared.table.Ends.TheVariants.{OnlyClient, OnlyServer, Both}
use Rattle.mq_rules.specs.declared.table.Judged.{Judged}
use Rattle.mq_rules.specs.declared.table.Judged.TheVariants.{Always, WithReleases, OnRequest, OnTimes}
use Rattle.mq_rules.specs.declared.table.TheConstants.{TABLE}

-- A line of the table: a statement, its code, the ends that it binds, its citation for a client and for a server, and when it is judged. A citation is empty for an end
-- that the statement doesn't bind.
pub record StatementLine : Type 0 where
  pub rule : Rule
  pub code : List ℕ
  pub ends : Ends
  pub client : List ℕ
  pub server : List ℕ
  pub judged : Judged

-- whether two statements are the same
abbrev pub same_rule : Rule → Rule → Bool
same_rule a b = sameb the_type a b

-- the order of statements, which is that of their values
abbrev pub rule_cmp : Rule → Rule → Ordering
rule_cmp = (rule_ord.ghosts).cmp

-- a line as the source has it
abbrev pub line_view : Rule × Bor (List ℕ) × Ends × Bor (List ℕ) × Bor (List ℕ) × Judged → StatementLine
line_view row = record { rule = row.0; code = row.1.now; ends = row.2; client = row.3.now; server = row.4.now; judged = row.5 }

abbrev pub lines_of : List (Rule × Bor (List ℕ) × Ends × Bor (List ℕ) × Bor (List ℕ) × Judged) → List StatementLine
lines_of rows = map line_view rows

-- the lines of the table, in the order of reports
unfoldable pub lines : List StatementLine
lines = map (λ row. record { rule = row.0; code = row.1.now; ends = row.2; client = row.3.now; server = row.4.now; judged = row.5 }) TABLE

-- the statements, in the order of reports
abbrev pub all_rules : List Rule
all_rules = map (λ line. line.rule) lines

-- the line of a statement
unfoldable pub found_line : Rule → Option StatementLine
found_line rule = find (λ line. same_rule line.rule rule) lines

unfoldable pub line_of : Rule → StatementLine
line_of rule = unwrap_or (found_line rule) (record { rule = rule; code = []; ends = Both; client = []; server = []; judged = Always })

-- a statement's code
abbrev pub code_of : Rule → List ℕ
code_of rule = (line_of rule).code

-- the citation of a line's statement for this end
abbrev pub cites : Role → StatementLine → List ℕ
cites Client line = line.client
cites Server line = line.server

-- whether this end is among these ends
abbrev pub includes : Ends → Role → Bool
includes OnlyClient Client = true
includes OnlyClient Server = false
includes OnlyServer Client = false
includes OnlyServer Server = true
includes Both role = true

-- whether a statement binds this end
abbrev pub binds_end : Rule → Role → Bool
binds_end rule role = includes (line_of rule).ends role

-- no further statements are asked for; those that need no times; and all
abbrev pub none_further : Further
none_further = record { on_request = false; with_times = false }

abbrev pub without_times : Further
without_times = record { on_request = true; with_times = false }

abbrev pub all_further : Further
all_further = record { on_request = true; with_times = true }

-- Whether a statement that is judged so is judged of this end: always; if the log records releases; if the further statements are asked for; or if those of them are that are on
-- times.
abbrev pub is_met : Judged → Tested → Bool
is_met Always tested = true
is_met WithReleases tested = tested.releases
is_met OnRequest tested = tested.further.on_request
is_met OnTimes tested = tested.further.with_times

-- Whether a statement is judged for the tested end: it binds that end, and what it is judged for is met.
abbrev pub binds : Rule → Tested → Bool
binds rule tested = binds_end rule tested.role && is_met (line_of rule).judged tested

-- a statement is judged only if the log records releases
abbrev pub is_with_releases : Judged → Bool
is_with_releases WithReleases = true
is_with_releases _ = false

abbrev pub needs_releases : Rule → Bool
needs_releases rule = is_with_releases (line_of rule).judged

-- a statement is a further one, which is judged only if it is asked for: one that needs no times, or one on times
abbrev pub is_asked_for : Judged → Bool
is_asked_for OnRequest = true
is_asked_for OnTimes = true
is_asked_for _ = false

abbrev pub is_further : Rule → Bool
is_further rule = is_asked_for (line_of rule).judged

abbrev pub is_timed : Judged → Bool
is_timed OnTimes = true
is_timed _ = false

abbrev pub is_on_times : Rule → Bool
is_on_times rule = is_timed (line_of rule).judged
