use Rattle.std.proofs.Common.{arith}
use Rattle.mq_display.proofs.DetailLaws.{puts_no_type, puts_type}
use Rattle.mq_display.proofs.display.details.broken.put_type.Goals as goal

pub returns-in-empty : goal.returns-in-empty
returns-in-empty g c = puts_no_type g.W.Write.contents c.args.out.now c.args.bytes.now c.in-empty.len_below

pub returns-in-len1-up : goal.returns-in-len1-up
returns-in-len1-up g c =
    puts_type g.W.Write.contents _ _ _ c.type_of.result.now c.args.bytes.now (omega (arith, c.in-len1-up.len_at_least)) c.put.ensures c.put-in-len1-up.ensures c.type_of.ensures
