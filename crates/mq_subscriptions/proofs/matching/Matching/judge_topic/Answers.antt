use Rattle.std.proofs.Common.{ℕ, ap, ◌∙◌}
use Rattle.mq_rules.specs.MatchingSubscriptions.{is_named}
use Rattle.mq_subscriptions.specs.Matchings.{bearing, matches_kept}
use Rattle.mq_subscriptions.specs.Subscribings.{set_of}
use Rattle.mq_subscriptions.specs.Verdicts.{lacks, sought_by, sought_of, takes_by, verdicts}
use Rattle.mq_subscriptions.proofs.VerdictLaws.{sought-same, lacks-same}
use Rattle.mq_subscriptions.proofs.matching.Matching.judge_topic.Goals as goal

pub returns : goal.returns
returns c = λ matching a.
    let s = c.args.self.now in
    let p = c.args.publish.now in
    let topic = c.args.topic.now in
    let found = c.matched-found.result in
    let unnamed = c.lacks_one-unnamed.result in
    let kept = λ (i : ℕ). matches_kept (set_of s.subscriptions.settled) s.subscriptions.waiting.entries (bearing i) topic 0 in
    c.verdicts_on.ensures
    ∙ ap (λ t. verdicts c.args.wide s.sharing t p (sought_by found) unnamed) c.takes-takes.ensures
    ∙ ap (λ o. verdicts c.args.wide s.sharing (takes_by s.refusing) p o unnamed) (sought-same found (matching topic) (a.each topic found c.matched-found.ensures))
    ∙ ap (verdicts c.args.wide s.sharing (takes_by s.refusing) p (sought_of (matching topic)))
    (c.lacks_one-unnamed.ensures
    ∙ lacks-same (λ i. matching topic (is_named i)) kept c.as_slice-identifiers.result.now (λ i. a.named_is topic i c.matched-found.ensures.distinct)
    ∙ ap (lacks (matching topic)) c.as_slice-identifiers.ensures)
