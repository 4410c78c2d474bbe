use Rattle.std.proofs.Common.{◌==◌, ◌&&◌, Some, None, ap, ◌∙◌}
use Rattle.mq_rules.specs.declared.rule.Rule.TheVariants.{L3}
use Rattle.mq_rules.specs.Words.{only}
use Rattle.mq_rules.specs.Under.{seen}
use Rattle.mq_fates.specs.Judgements.{judged_by}
use Rattle.mq_exchanges.specs.Releasing.{completes_unreleased, has_id}
use Rattle.mq_exchanges.proofs.ReceivingLaws.{received-step}
use Rattle.mq_exchanges.proofs.releases.Releases.send_pubcomp.Goals as goal

pub returns-clause-ok : goal.returns-clause-ok
returns-clause-ok c = λ n tested taken past does follows known u.
    let s = c.args.self.now in
    let i = c.args.i in
    received-step tested s c.take.new.self taken (seen c.args.at n) past c.args.faults.now c.judge_by.new.faults None None (Some i) (only (c.args.code == 0) (Some i)) does follows known u c.in_ok-take.ensures
    (c.in_ok-judge_by.ensures.ok ∙ ap (λ b. judged_by b L3 c.args.at c.args.at.position c.args.faults.now)
    (c.is_unreleased-unreleased.ensures ∙ ap (λ o. s.releases && completes_unreleased s.fate o (has_id s.released) (has_id s.due)) c.completed_by-completed.ensures))
