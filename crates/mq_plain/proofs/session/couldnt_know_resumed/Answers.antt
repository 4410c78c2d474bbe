use Rattle.std.proofs.Common.{◌&&◌, ap, ◌∙◌}
use Rattle.mq_rules.specs.Connections.{is_unasked}
use Rattle.mq_plain.proofs.session.couldnt_know_resumed.Goals as goal

pub returns : goal.returns
returns c = λ e. c.both.ensures ∙ ap (λ b. b && c.is_early.result) c.is_unasked.ensures ∙ ap (λ b. is_unasked c.args.fate && b) (c.is_early.ensures e)
