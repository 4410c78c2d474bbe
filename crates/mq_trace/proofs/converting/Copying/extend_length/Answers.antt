-- The next byte of a record's length, by what it is to its head.
use Rattle.std.proofs.Common.{◌+◌, Some, arith, ap, refl, sym, subst, ◌∙◌}
use Rattle.mq_log.specs.Refusals.{allows_length}
use Rattle.mq_trace.specs.declared.converting.Copying.{Copying}
use Rattle.mq_trace.specs.declared.converting.Part.TheVariants as parts
use Rattle.mq_trace.specs.declared.head.Head.{Head}
use Rattle.mq_trace.specs.Copying.{IsSound, past_length}
use Rattle.mq_trace.proofs.CopyLaws.{longer_sound, past_length_sound}
use Rattle.mq_trace.proofs.converting.Copying.extend_length.Goals as goal

pub returns-in-GoesOn : goal.returns-in-GoesOn
returns-in-GoesOn c =
    let copying = c.args.self.now in
    let h = c.args.head in
    let step = c.in-GoesOn.ensures in
    record {
      sound = subst (λ (x : Head). IsSound (record copying { at = copying.at + 1; part = parts.Head x.kind x.count x.number })) (sym step.1) (longer_sound copying h.kind h.count h.number c.args.byte c.requires.sound c.requires.within step.0 (omega arith));
      refused = tt;
      more = λ few. (ap (λ (x : Head). record copying { at = copying.at + 1; part = parts.Head x.kind x.count x.number }) step.1, refl);
      last = λ last. absurd (omega (arith, last, step.0));
    }

pub returns-in-Ends : goal.returns-in-Ends
returns-in-Ends c =
    let copying = c.args.self.now in
    let h = c.args.head in
    let step = c.in-Ends.ensures in
    record {
      sound = subst (λ (x : Copying). IsSound x) (sym c.end_length.ensures) (past_length_sound copying h.kind h.count h.number c.in-Ends.length c.requires.sound c.requires.within step.0 step.2);
      refused = tt;
      more = λ few. absurd (omega (arith, few, step.0));
      last = λ last. (ap (allows_length 1 (Some h.kind)) (sym step.1) ∙ step.2, c.end_length.ensures ∙ ap (past_length copying h.kind) step.1, refl);
    }

pub returns-in-Barred : goal.returns-in-Barred
returns-in-Barred c =
    let step = c.in-Barred.ensures in
    record {
      sound = c.requires.sound;
      refused = (step.0, step.1, refl, refl);
      more = λ few. tt;
      last = λ last. tt;
    }
