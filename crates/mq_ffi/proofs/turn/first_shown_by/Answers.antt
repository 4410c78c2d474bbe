use Rattle.std.proofs.Common.{subst, Option}
use Rattle.std.specs.FinMap as map
use Rattle.mq_ffi.specs.declared.fault.FaultRow.{FaultRow}
use Rattle.mq_ffi.specs.Asking.{IsRowOf, left_by, nth}
use Rattle.mq_ffi.specs.Giving.{shown_by}
use Rattle.mq_ffi.proofs.GivingLaws.{first_shown, not_missing}
use Rattle.mq_ffi.proofs.turn.first_shown_by.Goals as goal

pub returns-in-Some : goal.returns-in-Some
returns-in-Some c =
    let faults = left_by c.args.choice (map.entries c.args.faults.now) in
    first_shown c.args.after c.args.event faults c.in-Some.row c.requires (subst (λ (o : Option FaultRow). IsRowOf (nth (shown_by c.args.event faults) 0) o) c.in-Some.is c.fault_shown_by.ensures)

pub returns-in-None : goal.returns-in-None
returns-in-None c =
    let faults = left_by c.args.choice (map.entries c.args.faults.now) in
    absurd (not_missing c.args.after c.args.event faults c.requires (subst (λ (o : Option FaultRow). IsRowOf (nth (shown_by c.args.event faults) 0) o) c.in-None.is c.fault_shown_by.ensures))
