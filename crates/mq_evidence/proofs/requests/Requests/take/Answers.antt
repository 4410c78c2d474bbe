use Rattle.mq_rules.specs.ByIdentifier.{kept}
use Rattle.mq_rules.specs.Notes.{sent_as, received_as, subscribe_in, suback_in, unsubscribe_in, unsuback_in}
use Rattle.mq_evidence.specs.Requests.{filters_of, count_of}
use Rattle.mq_evidence.proofs.RequestLaws.{request-kept, request-is}
use Rattle.mq_evidence.proofs.requests.Requests.take.Goals as goal

pub returns : goal.returns
returns c = λ m s comes before.
    let t = c.args.turn in
    let n = c.args.note.now in
    let old = c.args.self.now in
    record {
      subscribes_are = request-kept filters_of (received_as subscribe_in) (sent_as suback_in) t.opens n (record { position = t.position; filters = c.subscribed-filters.result }) c.received_subscribe-subscribe.result c.sent_suback-suback.result m s.connection
          (kept old.subscribes) (kept c.keep_request.new.requests) comes.same (request-is filters_of m n t.position c.subscribed-filters.result comes.at comes.same c.subscribed-filters.ensures)
          c.received_subscribe-subscribe.ensures c.sent_suback-suback.ensures before.subscribes_are c.in_ok-keep_request.ensures;
      unsubscribes_are = request-kept count_of (received_as unsubscribe_in) (sent_as unsuback_in) t.opens n (record { position = t.position; filters = c.unsubscribed-filters.result }) c.received_unsubscribe-unsubscribe.result c.sent_unsuback-unsuback.result m s.connection
          (kept old.unsubscribes) (kept c.keep_request-2.new.requests) comes.same (request-is count_of m n t.position c.unsubscribed-filters.result comes.at comes.same c.unsubscribed-filters.ensures)
          c.received_unsubscribe-unsubscribe.ensures c.sent_unsuback-unsuback.ensures before.unsubscribes_are c.in_ok-keep_request-2.ensures;
    }
