use Rattle.mq_rules_laws.proofs.FoldLaws.{since-folded, some-folded, latest-folded}
use Rattle.mq_rules_laws.proofs.session_laws.words_are_folds.Goals as goal

pub returns-clause-since : goal.returns-clause-since
returns-clause-since c = since-folded

pub returns-clause-some : goal.returns-clause-some
returns-clause-some c = some-folded

pub returns-clause-latest : goal.returns-clause-latest
returns-clause-latest c = latest-folded
