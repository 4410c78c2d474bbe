use Rattle.std.proofs.Common.{ap, ◌∙◌}
use Rattle.std.specs.Prelude.{reverse}
use Rattle.mq_plain.proofs.ResendLaws.{void_back, void_back_all}
use Rattle.mq_plain.proofs.resends.earlier.happened_on_void.Goals as goal

pub loop-event-init : goal.loop-event-init
loop-event-init g c =
    let past = reverse c.args.before.now in
    let kind = g.T.NoteTest.test c.args.test.now in
    ap (λ f. void_back c.args.role kind f past) c.latest_fate_of-fate.ensures ∙ void_back_all c.args.role kind past
