use Rattle.std.proofs.Common.{sym, ◌∙◌}
use Rattle.mq_trail.proofs.RestLaws.{resting-nothing}
use Rattle.mq_trail.proofs.explaining.introducing_of.Goals as goal

pub returns : goal.returns
returns g c =
    c.new.ensures.agrees c.args.tested c.new-explaining.ensures.agrees (c.new-explaining.ensures.wanted ∙ c.in_ok-copy.ensures ∙ sym c.requires)
    (resting-nothing c.in_ok-rests.rests g.K.Wanted.wanted c.args.faults.now c.args.tested.role c.requires c.in_ok-rests.ensures)
