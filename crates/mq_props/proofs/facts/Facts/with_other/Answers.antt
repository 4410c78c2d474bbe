use Rattle.std.proofs.Common.{sym, ◌∙◌}
use Rattle.mq_props.proofs.FactLaws.{alias_other}
use Rattle.mq_props.proofs.facts.Facts.with_other.Goals as goal

pub returns : goal.returns
returns c = λ ps p knows same. record {
  sees = c.with.ensures ps p knows.sees same;
  alias = knows.alias ∙ sym (alias_other ps p (λ e. c.requires.other (sym same ∙ e)));
}
