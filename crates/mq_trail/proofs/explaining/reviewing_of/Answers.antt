use Rattle.std.proofs.Common.{sym, ◌∙◌}
use Rattle.mq_trail.proofs.explaining.reviewing_of.Goals as goal

pub returns : goal.returns
returns g c =
    c.new.ensures
    (c.new-reviewing.ensures.agrees c.args.tested c.new-explaining.ensures.agrees (c.new-explaining.ensures.wanted ∙ c.in_ok-copy.ensures ∙ sym c.requires))
