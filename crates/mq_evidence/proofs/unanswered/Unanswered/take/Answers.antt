use Rattle.std.proofs.Common.{ap, sym, ◌∙◌}
use Rattle.mq_rules.specs.ByIdentifier.{kept}
use Rattle.mq_evidence.proofs.UnansweredLaws.{waits-kept}
use Rattle.mq_evidence.proofs.unanswered.Unanswered.take.Goals as goal

pub returns : goal.returns
returns c = λ x m s comes before.
    let old = c.args.self.now in
    record {
      about = before.about;
      in_order = waits-kept x c.args.turn.opens m s.connection
          (kept old.firsts) (kept c.begin.new.firsts) (kept c.settle.new.firsts) (kept c.wait.new.firsts)
          old.order.entries c.begin.new.order.entries c.settle.new.order.entries c.wait.new.order.entries
          c.answer-answer.result c.cause-cause.result c.args.turn.position
          comes.at
          (ap x.answer comes.same ∙ ap (λ y. y.answer c.args.note.now) (sym before.about) ∙ sym c.answer-answer.ensures)
          (ap x.cause comes.same ∙ ap (λ y. y.cause c.args.note.now) (sym before.about) ∙ sym c.cause-cause.ensures)
          before.in_order c.begin.ensures.firsts c.begin.ensures.order c.settle.ensures.firsts c.settle.ensures.order c.in_ok-wait.ensures.firsts c.in_ok-wait.ensures.order;
    }
