use Rattle.std.proofs.Common.{refl, sym, ◌∙◌}
use Rattle.mq_choice.specs.Choices.{in_choice}
use Rattle.mq_trail.proofs.ComparingLaws.{exact_end, other_end}
use Rattle.mq_trail.proofs.ExplainingLaws.{each-wanted, same-verdict}
use Rattle.mq_trail.proofs.explaining.reasons_in.Goals as goal

pub returns-then-not-same_end : goal.returns-then-not-same_end
returns-then-not-same_end g c = λ taken past agrees same. absurd (other_end c.args.named c.args.tested (sym c.same_end.ensures ∙ c.if-not-same_end.true) same.end)

pub returns-in-Ok : goal.returns-in-Ok
returns-in-Ok g c = λ taken past agrees.
    let found = c.in-Ok-true.ensures.same c.in-Ok-true.field-0-test in
    let end = exact_end c.args.named c.args.tested (sym c.same_end.ensures ∙ c.if-not-same_end.false) in
    let each = found.1 c.args.tested past c.requires.further agrees.0.1.each in (
      same-verdict (in_choice c.args.choice) c.args.tested c.args.named c.args.verdict.now.events c.args.reading.now.a.events c.args.verdict.now.faults c.args.reading.now.a.faults past agrees.0.1 end found.0 each,
      c.in-Ok.ensures c.args.tested past refl (taken, agrees.1) (each-wanted (in_choice c.args.choice) g.K.Wanted.wanted c.args.verdict.now.faults c.args.tested past c.requires.wanted each),
    )
