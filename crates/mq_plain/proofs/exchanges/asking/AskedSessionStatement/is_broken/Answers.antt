use Rattle.std.proofs.Common.{◌&&◌, not, ap, sym, ◌∙◌, reverse}
use Rattle.mq_rules.specs.Moments.{newest}
use Rattle.mq_rules.specs.Exchanges.{breaks_A}
use Rattle.mq_rules.specs.Statements.{if_early}
use Rattle.mq_plain.proofs.exchanges.asking.AskedSessionStatement.is_broken.Goals as goal

pub returns : goal.returns
returns g c =
    let x = g.X.Exchange.exchange in
    let now = newest c.args.event.now (reverse c.args.before.now) in
    c.unless_unknown.ensures ∙ ap (λ b. b && not c.couldnt_know.result) c.lacks_cause-unasked.ensures
    ∙ ap (λ b. breaks_A x c.args.role c.args.fate now && not b) (c.couldnt_know.ensures c.args.event.now)
    ∙ sym (ap (λ b. if_early b c.args.role (breaks_A x c.args.role) c.args.fate now) (sym c.may_be_early.ensures ∙ c.if-not-may_be_early.false))
