use Rattle.std.proofs.Common.{◌∙◌, ap}
use Rattle.std.proofs.lemmas.Bool.{lt-ltb}
use Rattle.std.specs.Prelude.{not}
use Rattle.mq_trace.proofs.CopyLaws.{ends_early, ends_late}
use Rattle.mq_trace.proofs.converting.Copying.is_cut_short.Goals as goal

pub returns-then-self-lt-HEADER_LENGTH : goal.returns-then-self-lt-HEADER_LENGTH
returns-then-self-lt-HEADER_LENGTH c = λ log was. lt-ltb _ 8 c.if-self-lt-HEADER_LENGTH.true ∙ ends_early _ log was c.if-self-lt-HEADER_LENGTH.true

pub returns-else-self-lt-HEADER_LENGTH : goal.returns-else-self-lt-HEADER_LENGTH
returns-else-self-lt-HEADER_LENGTH c = λ log was. ap not c.is_between.ensures ∙ ends_late _ log was c.if-self-lt-HEADER_LENGTH.false
