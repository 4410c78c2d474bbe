use Rattle.std.proofs.Common.{◌≡◌, ◌∙◌, ◌≤◌, arith, length}
use Rattle.std.specs.FinMap as map
use Rattle.mq_ffi.specs.Asking.{left_by}
use Rattle.mq_ffi.proofs.AskingLaws.{left_fewer}
use Rattle.mq_ffi.proofs.GivingLaws.{done_beyond}
use Rattle.mq_ffi.proofs.turn.one_more.Goals as goal

pub returns-then-turn-len : goal.returns-then-turn-len
returns-then-turn-len c =
    let faults = map.entries c.args.faults.now in
    let count : c.len.result ≡ length faults = c.len.ensures ∙ map.len-entries c.args.faults.now in
    let fewer : length (left_by c.args.choice faults) ≤ length faults = left_fewer c.args.choice faults in
    let most = c.if-turn-len.true in
    done_beyond c.args.turn (left_by c.args.choice faults) (omega (arith, count, fewer, most))
