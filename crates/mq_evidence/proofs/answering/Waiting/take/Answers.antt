use Rattle.mq_rules.specs.Exchanges.{publish_puback, publish_pubrec, pubrec_pubrel}
use Rattle.std.proofs.Common.{sym, ◌∙◌}
use Rattle.mq_evidence.proofs.PassingLaws.{unanswered-stays, requests-stay}
use Rattle.mq_evidence.proofs.answering.Waiting.take.Goals as goal

pub returns : goal.returns
returns c = λ m s comes before. record {
  pubacks_are = c.in_ok-take.ensures publish_puback m s comes before.pubacks_are;
  pubrecs_are = c.in_ok-take-2.ensures publish_pubrec m s comes before.pubrecs_are;
  pubrels_are = c.in_ok-take-3.ensures pubrec_pubrel m s comes before.pubrels_are;
  requests_are = c.in_ok-take-4.ensures m s comes before.requests_are;
}

pub returns-then-passes_asked : goal.returns-then-passes_asked
returns-then-passes_asked c = λ m s comes before.
    let t = c.args.turn in
    let n = c.args.note.now in
    let old = c.args.self.now in
    let passes = sym c.passes_asked.ensures ∙ c.if-passes_asked.true in
    record {
      pubacks_are = unanswered-stays publish_puback old.pubacks t n m s passes comes before.pubacks_are;
      pubrecs_are = unanswered-stays publish_pubrec old.pubrecs t n m s passes comes before.pubrecs_are;
      pubrels_are = unanswered-stays pubrec_pubrel old.pubrels t n m s passes comes before.pubrels_are;
      requests_are = requests-stay old.requests t n m s passes comes before.requests_are;
    }
