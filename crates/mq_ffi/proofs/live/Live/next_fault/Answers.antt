use Rattle.std.proofs.Common.{refl, subst, Option, Some, None}
use Rattle.std.specs.FinMap as map
use Rattle.mq_ffi.specs.declared.fault.FaultRow.{FaultRow}
use Rattle.mq_ffi.specs.declared.turn.Turn.{Turn}
use Rattle.mq_ffi.specs.Asking.{left_by}
use Rattle.mq_ffi.specs.Giving.{Gives}
use Rattle.mq_ffi.proofs.live.Live.next_fault.Goals as goal

pub returns-in-Some : goal.returns-in-Some
returns-in-Some c = record {
  faults = c.known.result.now;
  known = λ taken k. c.known.ensures taken k;
  next = Some c.in-Some.next;
  gives = subst (λ (o : Option (FaultRow × Turn)). Gives c.args.self.now.turn (left_by c.args.self.now.choice (map.entries c.known.result.now)) o) c.in-Some.is c.next_in_turn.ensures;
  is = (refl, refl);
}

pub returns-in-None : goal.returns-in-None
returns-in-None c = record {
  faults = c.known.result.now;
  known = λ taken k. c.known.ensures taken k;
  next = None;
  gives = subst (λ (o : Option (FaultRow × Turn)). Gives c.args.self.now.turn (left_by c.args.self.now.choice (map.entries c.known.result.now)) o) c.in-None.is c.next_in_turn.ensures;
  is = (refl, refl);
}
