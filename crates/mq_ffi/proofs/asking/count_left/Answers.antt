use Rattle.std.proofs.Common.{◌≡◌, ◌≤◌, ◌+◌, length, List, ap, arith, sym, ◌∙◌}
use Rattle.std.specs.FinMap as map
use Rattle.mq_ffi.specs.Asking.{Found}
use Rattle.mq_ffi.proofs.AskingLaws.{all_left, counts_one_more}
use Rattle.mq_ffi.proofs.asking.count_left.Goals as goal

pub returns-then-not-is_listed : goal.returns-then-not-is_listed
returns-then-not-is_listed c =
    let faults = map.entries c.args.faults.now in
    c.len-all.ensures ∙ map.len-entries c.args.faults.now
    ∙ ap (λ (xs : List Found). length xs) (sym (all_left c.args.choice faults (sym c.is_listed.ensures ∙ c.if-not-is_listed.true)))

pub overflow_add-count : goal.overflow_add-count
overflow_add-count c =
    let faults = map.entries c.args.faults.now in
    let all : c.len-all.result ≡ length faults = c.len-all.ensures ∙ map.len-entries c.args.faults.now in
    let more : c.loop-key.count + 1 ≤ length faults =
    counts_one_more c.args.choice (c.in-Some.key.now, c.in-Some._fault.now) _ _ faults c.loop-key.count c.loop-key.invariant c.in-Some.ensures.steps (sym c.leaves.ensures ∙ c.if-leaves.true) in
    omega (arith, all, more, c.len-all.type_inv)
