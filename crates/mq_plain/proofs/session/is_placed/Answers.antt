use Rattle.std.proofs.Common.{◌&&◌, not, Some, ap, ◌∙◌}
use Rattle.mq_rules.specs.Connections.{begins, is_untold}
use Rattle.mq_plain.proofs.session.is_placed.Goals as goal

pub returns : goal.returns
returns c = λ e.
    let early = c.both.ensures ∙ ap (λ b. b && c.is_early.result) c.begins.ensures ∙ ap (λ b. begins (Some c.args.fate) && b) (c.is_early.ensures e) in
    c.both-2.ensures ∙ ap (λ b. not b && not c.both.result) c.is_untold.ensures ∙ ap (λ b. not (is_untold c.args.fate) && not b) early
