use Rattle.std.proofs.Common.{◌∙◌}
use Rattle.mq_tasks.proofs.ReviewingLemmas.{count_read}
use Rattle.mq_tasks.proofs.reviewing.count_of.Goals as goal

pub returns : goal.returns
returns c = c.ok.ensures.value ∙ count_read c.args.word.now c.parse.result c.parse.ensures.value.0
