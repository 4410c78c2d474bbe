use Rattle.std.proofs.Common.{List, None, map, ◌++◌, ◌∙◌, ap}
use Rattle.mq_log.specs.Reception.{packets_of}
use Rattle.mq_rules.specs.Connections.{latest_fate}
use Rattle.mq_rules.specs.Notes.{seen}
use Rattle.mq_report.specs.declared.report.unjudged.Gap.{Gap}
use Rattle.mq_judge.specs.Unjudged.{shown_in, dropped_in, with_unfinished, with_whole}
use Rattle.mq_judge.proofs.watching.Watching.gaps.Goals as goal

pub returns : goal.returns
returns c = λ events counts was tallied.
    let tested = c.args.self.now.tested in
    let past = map seen events in
    let fate = c.latest_fate-fate.ensures tested (latest_fate tested.role past) past was.agree in
    c.in_ok-add_whole.ensures past fate (was.gathered counts)
    ∙ ap (λ (gaps : List Gap). with_whole gaps tested past)
    (c.in_ok-add_to.ensures tested events (tallied counts)
    ∙ ap (λ (gaps : List Gap). with_unfinished (gaps ++ dropped_in events) None (packets_of c.args.left.now))
    (c.in_ok-add_shown.ensures tested past (was.gathered counts) ∙ ap (λ (gaps : List Gap). gaps ++ shown_in tested.role past) c.new-gaps.ensures.items))
