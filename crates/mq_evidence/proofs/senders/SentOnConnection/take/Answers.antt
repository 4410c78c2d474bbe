use Rattle.std.proofs.Common.{ap, ◌∙◌, false, true}
use Rattle.mq_rules.specs.ByIdentifier.{kept}
use Rattle.mq_rules.specs.Words.{is_id}
use Rattle.mq_rules.specs.Notes.{delivery_of, sent_as, received_as, subscribe_in, suback_in, unsubscribe_in, unsuback_in}
use Rattle.mq_evidence.specs.Stretches.{last_next}
use Rattle.mq_evidence.proofs.StretchLaws.{latest-kept, unended-kept}
use Rattle.mq_evidence.proofs.senders.SentOnConnection.take.Goals as goal

pub returns : goal.returns
returns c = λ m ms comes before.
    let t = c.args.turn in
    let n = c.args.note.now in
    let old = c.args.self.now in
    record {
      deliveries_are = latest-kept t.opens true t.position n m ms comes.at comes.same delivery_of (kept old.deliveries) (kept c.keep_latest.new.positions) before.deliveries_are
          (λ i. c.in_ok-keep_latest.ensures i ∙ ap (λ o. last_next t.opens true (is_id i o) false t.position (kept old.deliveries i)) c.delivery-delivery.ensures);
      subscribes_are = unended-kept t.opens true t.position n m ms comes.at comes.same (sent_as subscribe_in) (received_as suback_in) (kept old.subscribes) (kept c.keep_latest-2.new.positions) before.subscribes_are
          (λ i. c.in_ok-keep_latest-2.ensures i
          ∙ ap (λ o. last_next t.opens true (is_id i o) (is_id i c.received_suback-suback.result) t.position (kept old.subscribes i)) c.sent_subscribe-subscribe.ensures
          ∙ ap (λ o. last_next t.opens true (is_id i (sent_as subscribe_in n)) (is_id i o) t.position (kept old.subscribes i)) c.received_suback-suback.ensures);
      unsubscribes_are = unended-kept t.opens true t.position n m ms comes.at comes.same (sent_as unsubscribe_in) (received_as unsuback_in) (kept old.unsubscribes) (kept c.keep_latest-3.new.positions) before.unsubscribes_are
          (λ i. c.in_ok-keep_latest-3.ensures i
          ∙ ap (λ o. last_next t.opens true (is_id i o) (is_id i c.received_unsuback-unsuback.result) t.position (kept old.unsubscribes i)) c.sent_unsubscribe-unsubscribe.ensures
          ∙ ap (λ o. last_next t.opens true (is_id i (sent_as unsubscribe_in n)) (is_id i o) t.position (kept old.unsubscribes i)) c.received_unsuback-unsuback.ensures);
    }
