use Rattle.std.proofs.Common.{refl}
use Rattle.mq_ffi.proofs.taking.take_in.Goals as goal

pub returns-in-Err : goal.returns-in-Err
returns-in-Err c = (refl, (c.in-Err.refusal, refl, λ log k. c.in-Err.ensures.answers log k), c.feed.ensures.further)
