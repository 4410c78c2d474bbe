use Rattle.std.proofs.Common.{refl, rules, sym, subst}
use Rattle.mq_trace.specs.Copying.{StopsCopying}
use Rattle.mq_trace.proofs.CopiedLaws.{byte_copied, byte_refused, byte_unwritten}
use Rattle.mq_trace.proofs.converting.Copying.copy_some.Goals as goal

pub returns-in-Err : goal.returns-in-Err
returns-in-Err g c = record {
  sound = c.take_byte.ensures.sound;
  count = tt;
  copied = λ log was. tt;
  stops = λ log was. byte_refused g.W.Write.contents c.args.writer.now c.args.self.now log _ c.args.bytes.now c.in-Err.refusal c.requires.some refl was (c.in-Err.ensures.refused log was);
}

pub returns-in-Ok-write_addition : goal.returns-in-Ok-write_addition
returns-in-Ok-write_addition g c = record {
  sound = c.take_byte.ensures.sound;
  count = (search rules, c.requires.some);
  copied = λ log was. byte_copied g.W.Write.contents c.args.writer.now c.write_addition.new.writer _ log _ c.args.bytes.now c.in-Ok.addition c.requires.some refl
      (c.in-Ok.ensures.copied log was) c.in-Ok-write_addition.ensures.ok;
  stops = λ log was. tt;
}

pub returns-in-Err-write_addition : goal.returns-in-Err-write_addition
returns-in-Err-write_addition g c = record {
  sound = c.take_byte.ensures.sound;
  count = tt;
  copied = λ log was. tt;
  stops = λ log was.
      let failed = c.in-Err-write_addition.ensures.write in
      subst (StopsCopying log c.args.bytes.now (g.W.Write.contents c.args.writer.now) (g.W.Write.contents c.write_addition.new.writer)) (sym failed.0)
      (byte_unwritten g.W.Write.contents c.args.writer.now c.write_addition.new.writer _ log _ c.args.bytes.now c.in-Ok.addition c.requires.some refl (c.in-Ok.ensures.copied log was) failed.1);
}
