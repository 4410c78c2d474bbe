use Rattle.std.proofs.Common.{◌&&◌, ◌∷◌, subst, sym, ap, ◌∙◌}
use Rattle.mq_rules.specs.KeptOrder.{value_under}
use Rattle.mq_rules.specs.Rules.{same_rule}
use Rattle.mq_rules.specs.Notes.{note_in, is_boundary}
use Rattle.mq_rules.specs.Connections.{accepts}
use Rattle.mq_rules.specs.FaultKeys.{FaultMap}
use Rattle.mq_rules.specs.Under.{seen, fate_before, turns_with}
use Rattle.mq_rules.specs.Growing.{Gains}
use Rattle.mq_fates.specs.Judgements.{judged_by}
use Rattle.mq_subscriptions.specs.Countings.{counted_next, differs}
use Rattle.mq_subscriptions.proofs.CountLaws.{counted-next, counted-gains}
use Rattle.mq_subscriptions.proofs.counts.CountsFated.fated.Goals as goal

pub returns-clause-agrees : goal.returns-clause-agrees
returns-clause-agrees g c = rw (sym c.as_ref-event.ensures) (λ tested past under q.
    let s = c.args.self.now in
    let n = (note_in c.as_ref-event.result) in
    let e = seen c.args.at n in (
      q.0,
      counted-next g.R.Replies.counting g.R.Replies.breaks g.met.R.Replies.compares s.fate c.args.fate (value_under s.counts) (value_under c.keep_count.new.counts) (fate_before tested c.args.fate e past) e past under.follows.on_connections.0 q.1
          (λ i. c.in_ok-keep_count.ensures i
          ∙ ap (λ b. counted_next b c.request.result c.reply-reply.result i (value_under s.counts i)) c.is_boundary-boundary.ensures
          ∙ ap (λ o. counted_next (is_boundary n) o c.reply-reply.result i (value_under s.counts i)) c.request.ensures
          ∙ ap (λ o. counted_next (is_boundary n) (g.R.Replies.counting.request n) o i (value_under s.counts i)) c.reply-reply.ensures),
    ))

pub returns-clause-grows : goal.returns-clause-grows
returns-clause-grows g c = rw (sym c.as_ref-event.ensures) (λ tested past under q.
    let s = c.args.self.now in
    let n = (note_in c.as_ref-event.result) in
    let e = seen c.args.at n in
    let m = c.args.faults.now in
    subst (λ (n : FaultMap). Gains (λ k r. same_rule r g.R.Replies.judged && turns_with tested c.args.fate e past k r) tested (e ∷ past) c.args.decided m n)
    (sym (c.in_ok-judge_by.ensures.ok ∙ ap (λ r. judged_by c.is_broken-broken.result r c.args.at c.args.decided m) c.judged.ensures))
    (counted-gains tested g.R.Replies.judged g.R.Replies.counting g.R.Replies.breaks g.met.R.Replies.compares g.met.R.Replies.says g.met.R.Replies.no_offset s.fate c.args.fate (value_under s.counts) (fate_before tested c.args.fate e past) c.args.decided e past m
    s.bound c.is_broken-broken.result under q.1 q.0
    (c.is_broken-broken.ensures ∙ ap (λ o. s.bound && (accepts c.args.fate && differs (value_under s.counts) o)) c.reply-reply.ensures)))
