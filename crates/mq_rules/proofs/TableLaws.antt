-- The table of statements: a row that is found in the source's table is found in its view; each statement has its row; and the rows ascend.
use Rattle.std.proofs.Common.{◌≡◌, ℕ, Bool, true, false, ◌&&◌, ◌||◌, cond, List, [], ◌∷◌, Option, Some, Bor, refl}
use Rattle.std.specs.Prelude.{T, ◌==◌, not, length, IsSomeAnd, Contains}
use Rattle.std.specs.declared.cmp.Ordering.{Ordering}
use Rattle.std.specs.declared.cmp.Ordering.TheVariants.{Less, Equal, Greater}
use Rattle.std.specs.Ordering.{is_lt}
use Rattle.std.specs.Option.{option_map}
use Rattle.std.specs.List.{find, list_any, AllByRecursion}
use Rattle.std.specs.List.Sorted.{IsStrictlySortedBy}
use Rattle.std.proofs.lemmas.Map.Views.{Contains-from_any}
use denote.Enum.Bare.{same_true}
use Rattle.mq_rules.specs.contracts.rule.Rule.{the_type}
use Rattle.mq_rules.specs.declared.role.Role.{Role}
use Rattle.mq_rules.specs.declared.role.Role.TheVariants.{Client, Server}
use Rattle.mq_rules.specs.declared.rule.Rule.{Rule}
use Rattle.mq_rules.specs.declared.table.Ends.{Ends}
use Rattle.mq_rules.specs.declared.table.Judged.{Judged}
use Rattle.mq_rules.specs.declared.rule.Rule.TheVariants.{W01}
use Rattle.mq_rules.specs.Bindings.{is_among, on_releases, on_request, on_times, only_client, only_server}
use Rattle.mq_rules.specs.Naming.{citation_of}
use Rattle.mq_rules.specs.Rules.{StatementLine, line_view, lines_of, lines, line_of, found_line, binds_end, cites, all_rules, is_further, is_on_times, needs_releases, rule_cmp, same_rule}

cond-map : {A B : Type 0} (view : A → B) (b : Bool) (x : A) (o : Option A) (q : Option B) → option_map view o ≡ q → option_map view (cond b (Some x) o) ≡ cond b (Some (view x)) q
cond-map view true x o q h = refl
cond-map view false x o q h = h

pub find-view : (rule : Rule) (rows : List (Rule × Bor (List ℕ) × Ends × Bor (List ℕ) × Bor (List ℕ) × Judged))
    → option_map line_view (find (λ row. same_rule row.0 rule) rows) ≡ find (λ (line : StatementLine). same_rule line.rule rule) (lines_of rows)
find-view rule [] = refl
find-view rule (row ∷ rows) = cond-map line_view (same_rule row.0 rule) row (find (λ r. same_rule r.0 rule) rows) (find (λ (l : StatementLine). same_rule l.rule rule) (lines_of rows)) (find-view rule rows)

-- ---- each statement has its row

pub rows_found : (rule : Rule) → IsSomeAnd (found_line rule) (λ line. line.rule ≡ rule)
unfolding found_line lines
rows_found W01 = refl
rows_found _ = refl

pub rows_listed : (rule : Rule) → list_any (same_rule rule) all_rules ≡ true
unfolding lines
rows_listed W01 = refl
rows_listed _ = refl

pub rows_contain : (rule : Rule) → Contains all_rules rule
rows_contain rule = Contains-from_any (same_true the_type tt) rule all_rules (rows_listed rule)

-- ---- the rows ascend

-- the statement is below each of these
abbrev below_each : Rule → List Rule → Bool
below_each r [] = true
below_each r (s ∷ ss) = is_lt (rule_cmp r s) && below_each r ss

abbrev ascends : List Rule → Bool
ascends [] = true
ascends (r ∷ rs) = below_each r rs && ascends rs

is_less : (o : Ordering) → T (is_lt o) → o ≡ Less
is_less Less h = refl
is_less Equal h = absurd h
is_less Greater h = absurd h

first : (a b : Bool) → T (a && b) → T a
first true b h = tt
first false b h = absurd h

second : (a b : Bool) → T (a && b) → T b
second true b h = h
second false b h = absurd h

all_below : (r : Rule) (rs : List Rule) → T (below_each r rs) → AllByRecursion (λ s. rule_cmp r s ≡ Less) rs
all_below r [] h = tt
all_below r (s ∷ ss) h = (is_less (rule_cmp r s) (first _ _ h), all_below r ss (second _ _ h))

sorted : (rs : List Rule) → T (ascends rs) → IsStrictlySortedBy rule_cmp rs
unfolding IsStrictlySortedBy
sorted [] h = tt
sorted (r ∷ rs) h = (all_below r rs (first _ _ h), sorted rs (second _ _ h))

rows_rise : T (ascends all_rules)
unfolding lines
rows_rise = tt

pub rows_sorted : IsStrictlySortedBy rule_cmp all_rules
rows_sorted = sorted all_rules rows_rise

-- ---- whom the statements bind

pub client_bound : (rule : Rule) → binds_end rule Client ≡ not (is_among rule only_server)
unfolding line_of found_line lines
client_bound W01 = refl
client_bound _ = refl

pub server_bound : (rule : Rule) → binds_end rule Server ≡ not (is_among rule only_client)
unfolding line_of found_line lines
server_bound W01 = refl
server_bound _ = refl

-- ---- what they cite

client_cites : (rule : Rule) → cites Client (line_of rule) ≡ citation_of rule Client
unfolding citation_of line_of found_line lines
client_cites W01 = refl
client_cites _ = refl

server_cites : (rule : Rule) → cites Server (line_of rule) ≡ citation_of rule Server
unfolding citation_of line_of found_line lines
server_cites W01 = refl
server_cites _ = refl

pub row_cites : (rule : Rule) (role : Role) → cites role (line_of rule) ≡ citation_of rule role
row_cites rule Client = client_cites rule
row_cites rule Server = server_cites rule

cited_for_client : (rule : Rule) → not (length (citation_of rule Client) == 0) ≡ binds_end rule Client
unfolding citation_of line_of found_line lines
cited_for_client W01 = refl
cited_for_client _ = refl

cited_for_server : (rule : Rule) → not (length (citation_of rule Server) == 0) ≡ binds_end rule Server
unfolding citation_of line_of found_line lines
cited_for_server W01 = refl
cited_for_server _ = refl

pub ends_cited : (rule : Rule) (role : Role) → not (length (citation_of rule role) == 0) ≡ binds_end rule role
ends_cited rule Client = cited_for_client rule
ends_cited rule Server = cited_for_server rule

pub releases_needed : (rule : Rule) → needs_releases rule ≡ is_among rule on_releases
unfolding line_of found_line lines
releases_needed W01 = refl
releases_needed _ = refl

pub further_on_request : (rule : Rule) → is_further rule ≡ (is_among rule on_request || is_among rule on_times)
unfolding line_of found_line lines
further_on_request W01 = refl
further_on_request _ = refl

pub timed_on_times : (rule : Rule) → is_on_times rule ≡ is_among rule on_times
unfolding line_of found_line lines
timed_on_times W01 = refl
timed_on_times _ = refl
