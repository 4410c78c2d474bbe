use Rattle.std.proofs.Common.{◌&&◌, ◌∷◌, None, option_map, subst, sym, ap, ◌∙◌, ◌==◌, cond}
use Rattle.mq_rules.specs.KeptOrder.{value_under}
use Rattle.mq_rules.specs.Rules.{same_rule}
use Rattle.mq_rules.specs.FaultKeys.{FaultMap}
use Rattle.mq_rules.specs.Under.{seen, turns_with}
use Rattle.mq_rules.specs.Growing.{Gains}
use Rattle.mq_fates.specs.Judgements.{judged_by}
use Rattle.mq_exchanges.specs.Askings.{answered_by, answered_next, is_unasked}
use Rattle.mq_rules.specs.Connections.{accepts, surprises}
use Rattle.mq_rules.specs.Words.{is_id}
use Rattle.mq_fates.specs.Knowing.{excused}
use Rattle.mq_exchanges.proofs.AskedLaws.{answered-then, asked-next, asked-gains}
use Rattle.mq_exchanges.proofs.asked.AskedFated.fated.Goals as goal

pub returns-clause-agrees : goal.returns-clause-agrees
returns-clause-agrees g c = λ tested past under q.
    let s = c.args.self.now in
    let x = g.X.Exchange.exchange in
    let e = seen c.args.at (g.E.Noted.note c.args.event.now) in (
      q.0,
      asked-next tested x c.args.fate s.fate s.opened c.opened_after-self.result (value_under s.answered) (value_under c.take_cause.new.answered) e past g.met.X.Exchange.apart under.follows.placed.0 q.1 (c.opened_after-self.ensures ∙ ap (λ b. cond b e.place.position s.opened) c.is_open-opens.ensures)
          (λ i. c.in_ok-take_cause.ensures i
          ∙ ap (λ b. answered_by c.args.fate b c.cause-cause.result None 0 i (value_under c.take_answer-unasked.new.answered i)) c.is_open-opens.ensures
          ∙ ap (λ o. answered_next c.args.fate e.note o None 0 i (value_under c.take_answer-unasked.new.answered i)) c.cause-cause.ensures
          ∙ ap (answered_next c.args.fate e.note (x.cause e.note) None 0 i) (c.take_answer-unasked.ensures.answered i
          ∙ ap (λ o. cond (accepts c.args.fate && is_id i o) (option_map (λ _. e.place.position) (value_under s.answered i)) (value_under s.answered i)) c.answer-answer.ensures)
          ∙ answered-then x g.met.X.Exchange.apart c.args.fate e.note e.place.position i (value_under s.answered i)),
    )

pub returns-clause-grows : goal.returns-clause-grows
returns-clause-grows g c = λ tested past under q.
    let s = c.args.self.now in
    let e = seen c.args.at (g.E.Noted.note c.args.event.now) in
    let m = c.args.faults.now in
    subst (λ (n : FaultMap). Gains (λ k r. same_rule r g.X.Exchange.asked && turns_with tested c.args.fate e past k r) tested (e ∷ past) c.args.decided m n)
    (sym (c.in_ok-judge_by.ensures.ok ∙ ap (λ r. judged_by c.excuse-broken.result r e.place c.args.decided m) c.asked_rule.ensures))
    (asked-gains tested g.X.Exchange.asked g.X.Exchange.exchange g.X.Exchange.early g.met.X.Exchange.apart (g.met.X.Exchange.says_asked tested.role) c.args.fate s.fate s.opened (value_under s.answered) c.args.decided e past m s.binds c.excuse-broken.result
    under q.1 q.0 (c.excuse-broken.ensures
    ∙ ap (λ b. excused b (c.args.decided == c.args.at.position) c.is_judged-judged.result) c.surprises.ensures
    ∙ ap (excused (g.X.Exchange.early && surprises c.args.fate) (c.args.decided == c.args.at.position)) (c.is_judged-judged.ensures
    ∙ ap (λ b. s.binds && b) (c.take_answer-unasked.ensures.unasked ∙ ap (λ o. is_unasked c.args.fate s.opened o (value_under s.answered)) c.answer-answer.ensures))))
