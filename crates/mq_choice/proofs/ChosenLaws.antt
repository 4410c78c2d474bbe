-- The faults of chosen statements among all.
use Rattle.std.proofs.Common.{◌≡◌, ◌∙◌, ◌<◌, ◌&&◌, ◌||◌, ℕ, suc, zero, Bool, true, false, cond, not, ap, ap₂, refl, sym, arith, length, List, [], ◌∷◌, Option, None, true≢false, slice_index_or}
use Rattle.std.specs.List.{list_any}
use Rattle.mq_rules.specs.declared.rule.Rule.{Rule}
use Rattle.mq_rules.specs.declared.rule.Rule.TheVariants.{W01, F01, K01}
use Rattle.mq_rules.specs.declared.role.Further.{Further}
use Rattle.mq_rules.specs.declared.role.Tested.{Tested}
use Rattle.mq_rules.specs.declared.note.Seen.{Seen}
use Rattle.mq_rules.specs.declared.table.Judged.{Judged}
use Rattle.mq_rules.specs.declared.table.Judged.TheVariants.{Always, WithReleases, OnRequest, OnTimes}
use Rattle.mq_rules.specs.Connections.{fate}
use Rattle.mq_rules.specs.Faults.{chosen_fault, fault_in}
use Rattle.mq_rules.specs.FaultKeys.{FaultMap, fault_at}
use Rattle.mq_rules.specs.Rules.{all_further, all_rules, binds, binds_end, found_line, is_asked_for, is_further, is_met, is_on_times, is_timed, line_of, lines, none_further, without_times}
use Rattle.mq_rules.specs.Statements.{fails, is_so, statement}
use Rattle.mq_rules.proofs.Exports.{and_false}
use Rattle.mq_choice.specs.declared.choice.Choice.{Choice}
use Rattle.mq_choice.specs.declared.choice.Choice.TheVariants as choices
use Rattle.mq_choice.specs.Choices.{AreAllFaults, AreChosenFaults, in_choice, is_listed, number_of, unlisted, wants_further}
use Rattle.mq_choice.proofs.NumberLaws.{numbered, within}

-- ---- which are chosen without a list

pub in_usual : (rule : Rule) → not (is_further rule) ≡ unlisted none_further rule
in_usual rule = go (is_further rule)
  where
    go : (b : Bool) → not b ≡ cond b false true
    go true = refl
    go false = refl

pub in_all : (rule : Rule) → not (is_on_times rule) ≡ unlisted without_times rule
in_all rule = go (line_of rule).judged
  where
    go : (judged : Judged) → not (is_timed judged) ≡ cond (is_asked_for judged) (not (is_timed judged)) true
    go Always = refl
    go WithReleases = refl
    go OnRequest = refl
    go OnTimes = refl

pub in_timed : (rule : Rule) → true ≡ unlisted all_further rule
in_timed rule = go (is_further rule)
  where
    go : (b : Bool) → true ≡ cond b true true
    go true = refl
    go false = refl

pub by_times : (further : Further) → further.with_times ≡ true → unlisted all_further ≡ unlisted further
by_times further times = ap {B = Rule → Bool} (λ (b : Bool) (rule : Rule). cond (is_further rule) (b || (further.on_request && not (is_on_times rule))) true) (sym times)

pub by_request : (further : Further) → further.with_times ≡ false → further.on_request ≡ true → unlisted without_times ≡ unlisted further
by_request further untimed asked = ap₂ {C = Rule → Bool} (λ (a b : Bool) (rule : Rule). cond (is_further rule) (b || (a && not (is_on_times rule))) true) (sym asked) (sym untimed)

pub by_none : (further : Further) → further.with_times ≡ false → further.on_request ≡ false → unlisted none_further ≡ unlisted further
by_none further untimed unasked = ap₂ {C = Rule → Bool} (λ (a b : Bool) (rule : Rule). cond (is_further rule) (b || (a && not (is_on_times rule))) true) (sym unasked) (sym untimed)

-- ---- which further statements are among them

none_of : (p : Rule → Bool) → ((rule : Rule) → p rule ≡ false) → (rules : List Rule) → list_any p rules ≡ false
none_of p none [] = refl
none_of p none (rule ∷ rules) = ap (λ b. b || list_any p rules) (none rule) ∙ none_of p none rules

any_at : (p : Rule → Bool) (rules : List Rule) (i : ℕ) → i < length rules → p (slice_index_or rules i W01) ≡ true → list_any p rules ≡ true
any_at p [] i short is = absurd (omega arith)
any_at p (rule ∷ rules) zero short is = ap (λ b. b || list_any p rules) is
any_at p (rule ∷ rules) (suc i) short is = go (p rule) (any_at p rules i (omega arith) is)
  where
    go : (b : Bool) → list_any p rules ≡ true → (b || list_any p rules) ≡ true
    go true h = refl
    go false h = h

any_of : (p : Rule → Bool) (rule : Rule) → p rule ≡ true → list_any p all_rules ≡ true
any_of p rule is = any_at p all_rules (number_of rule) (within rule) (ap p (numbered rule) ∙ is)

-- a further statement that needs no times is among these
abbrev asks : Further → Rule → Bool
asks further rule = (is_further rule && not (is_on_times rule)) && unlisted further rule

-- one on times is
abbrev times : Further → Rule → Bool
times further rule = is_on_times rule && unlisted further rule

asks_none : (rule : Rule) → asks none_further rule ≡ false
asks_none rule = go (line_of rule).judged
  where
    go : (judged : Judged) → ((is_asked_for judged && not (is_timed judged)) && cond (is_asked_for judged) false true) ≡ false
    go Always = refl
    go WithReleases = refl
    go OnRequest = refl
    go OnTimes = refl

times_none : (rule : Rule) → times none_further rule ≡ false
times_none rule = go (line_of rule).judged
  where
    go : (judged : Judged) → (is_timed judged && cond (is_asked_for judged) false true) ≡ false
    go Always = refl
    go WithReleases = refl
    go OnRequest = refl
    go OnTimes = refl

times_without : (rule : Rule) → times without_times rule ≡ false
times_without rule = go (line_of rule).judged
  where
    go : (judged : Judged) → (is_timed judged && cond (is_asked_for judged) (not (is_timed judged)) true) ≡ false
    go Always = refl
    go WithReleases = refl
    go OnRequest = refl
    go OnTimes = refl

asks_F01 : asks without_times F01 ≡ true
unfolding line_of found_line lines
asks_F01 = refl

asks_all_F01 : asks all_further F01 ≡ true
unfolding line_of found_line lines
asks_all_F01 = refl

times_K01 : times all_further K01 ≡ true
unfolding line_of found_line lines
times_K01 = refl

abbrev pub both : Bool → Bool → Further
both asked timed = record { on_request = asked; with_times = timed }

pub wants_usual : wants_further (unlisted none_further) ≡ none_further
unfolding wants_further
wants_usual = ap₂ both (none_of (asks none_further) asks_none all_rules) (none_of (times none_further) times_none all_rules)

pub wants_all : wants_further (unlisted without_times) ≡ without_times
unfolding wants_further
wants_all = ap₂ both (any_of (asks without_times) F01 asks_F01) (none_of (times without_times) times_without all_rules)

pub wants_timed : wants_further (unlisted all_further) ≡ all_further
unfolding wants_further
wants_timed = ap₂ both (any_of (asks all_further) F01 asks_all_F01) (any_of (times all_further) K01 times_K01)

-- ---- faults

-- what a statement is judged for isn't met if it isn't chosen without a list
unmet : (judged : Judged) (tested : Tested) → cond (is_asked_for judged) (tested.further.with_times || (tested.further.on_request && not (is_timed judged))) true ≡ false → is_met judged tested ≡ false
unmet Always tested off = absurd (true≢false off)
unmet WithReleases tested off = absurd (true≢false off)
unmet OnRequest tested off = go tested.further.on_request tested.further.with_times off
  where
    go : (a b : Bool) → (b || (a && true)) ≡ false → a ≡ false
    go false b h = refl
    go true true h = absurd (true≢false h)
    go true false h = absurd (true≢false h)
unmet OnTimes tested off = go tested.further.with_times (tested.further.on_request && false) off
  where
    go : (b rest : Bool) → (b || rest) ≡ false → b ≡ false
    go false rest h = refl
    go true rest h = absurd (true≢false h)

-- such a statement has no fault
unfound : (tested : Tested) (past : List Seen) (k : ℕ) (rule : Rule) → unlisted tested.further rule ≡ false → fault_in tested past k rule ≡ None
unfolding fails fault_in
unfound tested past k rule off =
    let unbound : binds rule tested ≡ false = ap (λ b. binds_end rule tested.role && b) (unmet (line_of rule).judged tested off) ∙ and_false (binds_end rule tested.role) in
    rw (unbound) refl

-- so all faults are those of the statements that are chosen without a list
without_list : (further : Further) (tested : Tested) (past : List Seen) (faults : FaultMap) → tested.further ≡ further → AreAllFaults tested past faults → AreChosenFaults (unlisted further) tested past faults
without_list further tested past faults same all k rule = all k rule ∙ go (unlisted further rule) refl
  where
    go : (b : Bool) → unlisted further rule ≡ b → fault_in tested past k rule ≡ cond b (fault_in tested past k rule) None
    go true is = refl
    go false is = unfound tested past k rule (ap (λ (f : Further). unlisted f rule) same ∙ is)

-- all faults of events are those of the chosen statements, if these weren't listed
pub usual_chosen : (choice : Choice) (tested : Tested) (past : List Seen) (faults : FaultMap) → is_listed choice ≡ false → tested.further ≡ wants_further (in_choice choice) → AreAllFaults tested past faults
    → AreChosenFaults (in_choice choice) tested past faults
usual_chosen choices.Usual tested past faults plain same all = without_list none_further tested past faults (same ∙ wants_usual) all
usual_chosen choices.All tested past faults plain same all = without_list without_times tested past faults (same ∙ wants_all) all
usual_chosen choices.Timed tested past faults plain same all = without_list all_further tested past faults (same ∙ wants_timed) all
usual_chosen (choices.Listed flags) tested past faults plain same all = absurd (true≢false plain)

-- those that were kept of them are those of the chosen statements
pub kept_chosen : (chosen : Rule → Bool) (tested : Tested) (past : List Seen) (faults kept : FaultMap) → ((k : ℕ) (rule : Rule) → fault_at kept k rule ≡ cond (chosen rule) (fault_at faults k rule) None)
    → AreAllFaults tested past faults → AreChosenFaults chosen tested past kept
kept_chosen chosen tested past faults kept each all k rule = each k rule ∙ ap (λ o. cond (chosen rule) o None) (all k rule)
