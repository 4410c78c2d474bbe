use Rattle.std.proofs.Common.{◌&&◌, ap, ◌∙◌, sym}
use Rattle.mq_rules.specs.KeptOrder.{value_under}
use Rattle.mq_rules.specs.Connections.{accepts}
use Rattle.mq_rules.specs.Notes.{note_in}
use Rattle.mq_rules.specs.Under.{seen, fate_before}
use Rattle.mq_subscriptions.specs.Countings.{answers_kept}
use Rattle.mq_subscriptions.proofs.CountLaws.{counts-places}
use Rattle.mq_subscriptions.proofs.counts.CountsAsks.count.Goals as goal

pub returns : goal.returns
returns g c = rw (sym c.as_ref.ensures) (λ tested past under kept was.
    let s = c.args.self.now in
    let e = seen c.args.at (note_in c.as_ref.result) in
    counts-places tested g.R.Replies.judged g.R.Replies.counting g.R.Replies.breaks g.R.Replies.applies g.met.R.Replies.compares g.met.R.Replies.asks g.met.R.Replies.tries s.fate c.args.fate (value_under s.counts) (fate_before tested c.args.fate e past) c.args.arg4 e past
    s.bound c.is_put_to_test-here.result c.args.places.now c.places_after.result under kept.1 kept.0 was
    (c.is_put_to_test-here.ensures ∙ ap (λ o. s.bound && (accepts c.args.fate && answers_kept (value_under s.counts) o)) c.reply.ensures)
    c.places_after.ensures)
