use Rattle.std.proofs.Common.{◌≡◌, ap, subst, sym, ◌∙◌, List, Option, None}
use Rattle.std.specs.FinMap as map
use Rattle.mq_rules.specs.FaultKeys.{faults_at}
use Rattle.mq_ffi.specs.declared.fault.FaultRow.{FaultRow}
use Rattle.mq_ffi.specs.Asking.{Found, IsRowOf, first_fault_from, left_by, nth}
use Rattle.mq_ffi.proofs.AskingLaws.{all_left, first_is_found, none_is_found}
use Rattle.mq_ffi.proofs.asking.fault_from.Goals as goal

pub returns : goal.returns
returns c =
    let faults = map.entries c.args.faults.now in
    let all = all_left c.args.choice faults (sym c.is_listed.ensures ∙ c.if-is_listed.false) in
    subst (λ (o : Option Found). IsRowOf o c.fault_at_position.result)
    (ap (λ (xs : List Found). nth (faults_at c.in_ok-first.first xs) 0) all ∙ first_is_found c.args.position c.in_ok-first.first faults (sym c.in_ok-first.ensures)
    ∙ ap (λ (xs : List Found). first_fault_from c.args.position xs) (sym all)) c.fault_at_position.ensures

pub returns-in_err-first : goal.returns-in_err-first
returns-in_err-first c =
    let faults = map.entries c.args.faults.now in
    let all = all_left c.args.choice faults (sym c.is_listed.ensures ∙ c.if-is_listed.false) in
    let none : first_fault_from c.args.position (left_by c.args.choice faults) ≡ None =
    ap (λ (xs : List Found). first_fault_from c.args.position xs) all ∙ none_is_found c.args.position faults (sym c.in_err-first.ensures) in
    subst (λ (o : Option Found). IsRowOf o c.from_residual.result) (sym none) (subst (λ (r : Option FaultRow). IsRowOf None r) (sym c.from_residual.ensures) tt)
