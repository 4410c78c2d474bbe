use Rattle.std.proofs.Common.{◌&&◌, ap, ◌∙◌}
use Rattle.mq_rules.specs.Connections.{surprises}
use Rattle.mq_plain.proofs.session.couldnt_know.Goals as goal

pub returns : goal.returns
returns c = λ e. c.both.ensures ∙ ap (λ b. b && c.is_early.result) c.surprises.ensures ∙ ap (λ b. surprises c.args.fate && b) (c.is_early.ensures e)
