use Rattle.std.proofs.Common.{ap, ◌∙◌, false}
use Rattle.mq_rules.specs.ByIdentifier.{kept}
use Rattle.mq_rules.specs.Words.{is_id}
use Rattle.mq_rules.specs.Notes.{received_as}
use Rattle.mq_rules.specs.Exchanges.{pubrec_pubrel}
use Rattle.mq_evidence.specs.Evidence.{refusing_pubrec_in}
use Rattle.mq_evidence.specs.Stretches.{last_next}
use Rattle.mq_evidence.proofs.StretchLaws.{latest-kept}
use Rattle.mq_evidence.proofs.asked.Confirmed.take.Goals as goal

pub returns : goal.returns
returns c = λ m s comes before.
    let t = c.args.turn in
    let n = c.args.note.now in
    let old = c.args.self.now in
    record {
      asked_is = c.in_ok-take.ensures pubrec_pubrel m s comes before.asked_is;
      refusals_are = latest-kept t.begins t.inside t.position n m s.session comes.at comes.same (received_as refusing_pubrec_in) (kept old.refusals) (kept c.keep_in_session.new.positions) before.refusals_are
          (λ i. c.in_ok-keep_in_session.ensures i ∙ ap (λ o. last_next t.begins t.inside (is_id i o) false t.position (kept old.refusals i)) c.received_refusal-refusal.ensures);
    }
