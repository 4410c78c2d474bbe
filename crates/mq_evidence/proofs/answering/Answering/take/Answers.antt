use Rattle.mq_rules.specs.Exchanges.{publish_puback, publish_pubrec, pubrel_pubcomp, subscribe_suback, unsubscribe_unsuback}
use Rattle.std.proofs.Common.{sym, ◌∙◌}
use Rattle.mq_evidence.proofs.PassingLaws.{asked-stays, confirmed-stays}
use Rattle.mq_evidence.proofs.answering.Answering.take.Goals as goal

pub returns : goal.returns
returns c = λ m s comes before. record {
  pubacks_are = c.in_ok-take.ensures publish_puback m s comes before.pubacks_are;
  pubrecs_are = c.in_ok-take-2.ensures publish_pubrec m s comes before.pubrecs_are;
  pubrels_are = c.in_ok-take-3.ensures m s comes before.pubrels_are;
  pubcomps_are = c.in_ok-take-4.ensures pubrel_pubcomp m s comes before.pubcomps_are;
  subacks_are = c.in_ok-take-5.ensures subscribe_suback m s comes before.subacks_are;
  unsubacks_are = c.in_ok-take-6.ensures unsubscribe_unsuback m s comes before.unsubacks_are;
}

pub returns-then-passes_asked : goal.returns-then-passes_asked
returns-then-passes_asked c = λ m s comes before.
    let t = c.args.turn in
    let n = c.args.note.now in
    let old = c.args.self.now in
    let passes = sym c.passes_asked.ensures ∙ c.if-passes_asked.true in
    record {
      pubacks_are = asked-stays publish_puback old.pubacks t n m s passes comes before.pubacks_are;
      pubrecs_are = asked-stays publish_pubrec old.pubrecs t n m s passes comes before.pubrecs_are;
      pubrels_are = confirmed-stays old.pubrels t n m s passes comes before.pubrels_are;
      pubcomps_are = asked-stays pubrel_pubcomp old.pubcomps t n m s passes comes before.pubcomps_are;
      subacks_are = asked-stays subscribe_suback old.subacks t n m s passes comes before.subacks_are;
      unsubacks_are = asked-stays unsubscribe_unsuback old.unsubacks t n m s passes comes before.unsubacks_are;
    }
