use Rattle.std.proofs.Common.{subst, sym, ℕ, List, Option}
use Rattle.core.specs.Result.{result_ok}
use Rattle.mq_choice.specs.declared.choice.Choice.{Choice}
use Rattle.mq_ffi.specs.Living.{ReadsList}
use Rattle.mq_ffi.proofs.LivingLaws.{reads_listed}
use Rattle.mq_ffi.proofs.live.read.Goals as goal

pub returns-in-Ok : goal.returns-in-Ok
returns-in-Ok c =
    subst (λ (o : Option Choice). ReadsList c.args.list.now o) (sym c.ok.ensures.value)
    (subst (λ (list : List ℕ). ReadsList list (result_ok c.read.result)) c.in-Ok.ensures.cases.0 (reads_listed c.in-Ok.list.now c.read.result c.read.ensures))
