use Rattle.std.proofs.Common.{◌≡◌, ℕ, List, ◌∷◌, ◌++◌, length, subst, Err}
use Rattle.std.specs.Int.{w32, to_be_bytes}
use Rattle.mq_trace.specs.Writing.{moment_bytes}
use Rattle.mq_ffi.specs.Living.{Answer, TakesIn}
use Rattle.mq_ffi.proofs.TakingLaws.{takes_both, takes_first}
use Rattle.mq_ffi.proofs.taking.take_record.Goals as goal

pub returns-in-Ok : goal.returns-in-Ok
unfolding moment_bytes
returns-in-Ok c =
    let first = c.args.judge.now in
    let body = c.args.body.now in
    let head : c.head_of-head.result ≡ c.args.kind ∷ to_be_bytes w32 (length body) = c.head_of-head.ensures in
    subst (λ (front : List ℕ). TakesIn (front ++ body) first c.take_in-in-Ok.new.judge c.args.refused.now c.take_in-in-Ok.new.refused c.take_in-in-Ok.result) head
    (takes_both c.head_of-head.result body first c.take_in.new.judge c.take_in-in-Ok.new.judge c.args.refused.now c.take_in.new.refused c.take_in-in-Ok.new.refused c.take_in-in-Ok.result
    (subst (λ (a : Answer). TakesIn c.head_of-head.result first c.take_in.new.judge c.args.refused.now c.take_in.new.refused a) c.in-Ok.is c.take_in.ensures) c.take_in-in-Ok.ensures)

pub returns-in-Err : goal.returns-in-Err
unfolding moment_bytes
returns-in-Err c =
    let old = c.args.judge.now in
    let body = c.args.body.now in
    let head : c.head_of-head.result ≡ c.args.kind ∷ to_be_bytes w32 (length body) = c.head_of-head.ensures in
    subst (λ (front : List ℕ). TakesIn (front ++ body) old c.take_in.new.judge c.args.refused.now c.take_in.new.refused (Err c.in-Err.trouble)) head
    (takes_first c.head_of-head.result body old c.take_in.new.judge c.args.refused.now c.take_in.new.refused c.in-Err.trouble
    (subst (λ (a : Answer). TakesIn c.head_of-head.result old c.take_in.new.judge c.args.refused.now c.take_in.new.refused a) c.in-Err.is c.take_in.ensures))
