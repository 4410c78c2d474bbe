use Rattle.std.proofs.Common.{◌+◌, ap, refl}
use Rattle.mq_trace.specs.declared.converting.Part.TheVariants as parts
use Rattle.mq_trace.specs.declared.head.Head.{Head}
use Rattle.mq_trace.proofs.converting.Copying.begin_record.Goals as goal

pub returns-in-Ok-clause-kept : goal.returns-in-Ok-clause-kept
returns-in-Ok-clause-kept c =
    let copying = c.args.self.now in
    record {
      kind = c.in-Ok.head.kind;
      named = c.in-Ok.ensures.named;
      unrefused = c.in-Ok.ensures.met;
      is = ap (λ (h : Head). record copying { at = copying.at + 1; part = parts.Head h.kind h.count h.number }) c.in-Ok.ensures.begun;
      adds = refl;
    }
