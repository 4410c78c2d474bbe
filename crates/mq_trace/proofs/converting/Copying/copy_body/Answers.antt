use Rattle.std.proofs.Common.{rules}
use Rattle.mq_trace.proofs.CopiedLaws.{body_unwritten, body_written}
use Rattle.mq_trace.proofs.converting.Copying.copy_body.Goals as goal

pub returns-in-Ok-clause-copied : goal.returns-in-Ok-clause-copied
returns-in-Ok-clause-copied g c = λ log was.
    body_written g.W.Write.contents c.args.writer.now c.write_bytes.new.writer _ _ log c.args.bytes.now c.args.left c.min-count.result was c.requires.sound c.requires.within
    (search rules) (search rules) (search rules) c.skip_body.ensures.is (c.in-Ok.ensures.ok)

pub returns-in-Err-Write-clause-stops : goal.returns-in-Err-Write-clause-stops
returns-in-Err-Write-clause-stops g c = λ log was.
    body_unwritten g.W.Write.contents c.args.writer.now c.write_bytes.new.writer _ log c.args.bytes.now c.args.left c.min-count.result was c.requires.sound c.requires.within
    (search rules) (search rules) (search rules) (c.in-Err-Write.ensures.write)
