use Rattle.std.proofs.Common.{sym, ◌∙◌, None}
use Rattle.std.specs.FinMap as map
use Rattle.mq_ffi.specs.Asking.{left_by}
use Rattle.mq_ffi.proofs.GivingLaws.{none_after}
use Rattle.mq_ffi.proofs.turn.first_of_next.Goals as goal

pub returns-in-None : goal.returns-in-None
returns-in-None c = (none_after c.args.after None (left_by c.args.choice (map.entries c.args.faults.now)) (sym c.next_event.ensures ∙ c.in-None.is)).1
