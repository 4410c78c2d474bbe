use Rattle.std.proofs.Common.{ap, sym, ◌∙◌}
use Rattle.mq_rules.specs.Notes.{note_in}
use Rattle.mq_trail.proofs.reviewing.ReviewingFated.fated.Goals as goal

pub returns-in_ok-take-in-Kept-clause-agrees : goal.returns-in_ok-take-in-Kept-clause-agrees
returns-in_ok-take-in-Kept-clause-agrees g c = rw (sym c.as_ref.ensures ∙ ap note_in c.in-Kept.is) (λ tested past under q.
    (c.in_ok-take-in-Kept.ensures.agrees tested c.args.arg3 past under q.0, c.in_ok-take-in-Kept.ensures.wanted ∙ q.1))

pub returns-in_ok-take_bare-in-Bare-clause-agrees : goal.returns-in_ok-take_bare-in-Bare-clause-agrees
returns-in_ok-take_bare-in-Bare-clause-agrees g c = rw (sym c.as_ref.ensures ∙ ap note_in c.in-Bare.is) (λ tested past under q.
    (c.in_ok-take_bare-in-Bare.ensures.agrees tested c.args.arg3 past under q.0, c.in_ok-take_bare-in-Bare.ensures.wanted ∙ q.1))
