use Rattle.std.proofs.Common.{arith}
use Rattle.mq_log.proofs.Exports.{head_least}
use Rattle.mq_trace.proofs.reading.Reading.body_head.Goals as goal

pub bounds-bytes-0 : goal.bounds-bytes-0
bounds-bytes-0 c = let least = head_least c.args.self.now.header.version in omega arith

pub bounds-bytes-1 : goal.bounds-bytes-1
bounds-bytes-1 c = let least = head_least c.args.self.now.header.version in omega arith

pub bounds-bytes-2 : goal.bounds-bytes-2
bounds-bytes-2 c = let least = head_least c.args.self.now.header.version in omega arith

pub bounds-bytes-3 : goal.bounds-bytes-3
bounds-bytes-3 c = let least = head_least c.args.self.now.header.version in omega arith

pub bounds-bytes-4 : goal.bounds-bytes-4
bounds-bytes-4 c = let least = head_least c.args.self.now.header.version in omega arith
