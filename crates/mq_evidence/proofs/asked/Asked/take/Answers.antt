use Rattle.std.proofs.Common.{ap, ◌∙◌, false, true}
use Rattle.mq_rules.specs.ByIdentifier.{is_kept, kept}
use Rattle.mq_rules.specs.Words.{is_id}
use Rattle.mq_evidence.specs.Stretches.{last_next}
use Rattle.mq_evidence.proofs.StretchLaws.{latest-kept, earlier-kept}
use Rattle.mq_evidence.proofs.asked.Asked.take.Goals as goal

pub returns : goal.returns
returns c = λ x m s comes before.
    let t = c.args.turn in
    let n = c.args.note.now in
    let old = c.args.self.now in
    record {
      about = before.about;
      causes_are = latest-kept t.begins t.inside t.position n m s.session comes.at comes.same x.cause (kept old.causes) (kept c.keep_in_session.new.positions) before.causes_are
          (λ i. c.in_ok-keep_in_session.ensures i ∙ ap (λ o. last_next t.begins t.inside (is_id i o) false t.position (kept old.causes i)) (c.cause-cause.ensures ∙ ap (λ y. y.cause n) before.about));
      answers_are = latest-kept t.opens true t.position n m s.connection comes.at comes.same x.answer (kept old.answers) (kept c.keep_latest.new.positions) before.answers_are
          (λ i. c.in_ok-keep_latest.ensures i ∙ ap (λ o. last_next t.opens true (is_id i o) false t.position (kept old.answers i)) (c.answer-answer.ensures ∙ ap (λ y. y.answer n) before.about));
      earlier_are = earlier-kept t.begins x.cause (kept old.causes) (is_kept old.earlier) (is_kept c.keep_earlier.new.earlier)
          s.session s.earlier before.causes_are before.earlier_are c.in_ok-keep_earlier.ensures;
    }
