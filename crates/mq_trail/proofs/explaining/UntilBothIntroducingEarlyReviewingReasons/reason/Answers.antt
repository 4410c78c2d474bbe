use Rattle.std.proofs.Common.{◌∙◌}
use Rattle.mq_rules.specs.Connections.{latest_fate}
use Rattle.mq_trail.specs.Until.{up_to}
use Rattle.mq_trail.proofs.UntilLaws.{decided-by, failed-by, wanted-by}
use Rattle.mq_trail.proofs.explaining.UntilBothIntroducingEarlyReviewingReasons.reason.Goals as goal

pub returns : goal.returns
returns g c = λ tested past role knows wanted.
    let last = c.args.self.now.last in
    let k = c.args.key.position in
    let r = c.args.key.rule in
    let d = c.args.fault.decided in
    let earlier = up_to last past in
    let by = decided-by tested last past k d r wanted.shown (wanted-by g.K.Wanted.wanted last k r c.args.fault knows.1.none_later wanted.kept) in
    c.evidence_of.ensures tested (latest_fate tested.role earlier) earlier role knows.1.so_far wanted.kept (failed-by tested earlier k d r by.0) by.0
    ∙ by.1
