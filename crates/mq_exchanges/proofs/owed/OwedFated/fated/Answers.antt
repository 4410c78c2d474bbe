use Rattle.std.proofs.Common.{◌&&◌, ◌||◌, ◌∷◌, cond, subst, sym, ap, ◌∙◌}
use Rattle.mq_rules.specs.Notes.{is_open, note_in}
use Rattle.std.specs.Prelude.{is_some, None}
use Rattle.mq_rules.specs.KeptOrder.{value_under, values_of}
use Rattle.mq_rules.specs.Words.{is_id, is_some_and}
use Rattle.mq_rules.specs.Connections.{accepts}
use Rattle.mq_rules.specs.Rules.{same_rule}
use Rattle.mq_rules.specs.FaultKeys.{FaultMap}
use Rattle.mq_rules.proofs.Exports.{gains_either, on_err, within_all, within_either_first, under-within}
use Rattle.mq_rules.specs.Under.{seen, turns_with}
use Rattle.mq_rules.specs.Growing.{Gains, GainsWithin}
use Rattle.mq_exchanges.specs.Owings.{due_by, due_next}
use Rattle.mq_fates.specs.Judgements.{blamed, Keeps}
use Rattle.mq_exchanges.specs.Orderings.{left_by, looked_at, passes_over, queued_by, queued_next, ordered_by}
use Rattle.mq_fates.proofs.Exports.{within_kept}
use Rattle.mq_exchanges.proofs.QueueLaws.{overtaken-passes}
use Rattle.mq_exchanges.proofs.OwingLaws.{owing-next, rest-gains, answer-gains}
use Rattle.mq_exchanges.proofs.owed.OwedFated.fated.Goals as goal

pub returns-clause-agrees : goal.returns-clause-agrees
returns-clause-agrees g c = λ tested past under q.
    let s = c.args.self.now in
    let e = seen c.args.at (g.E.Noted.note c.args.event.now) in
    let x = g.X.Exchange.exchange in
    let mid = value_under c.take_answer-broken.new.due in
    owing-next tested x g.met.X.Exchange.apart g.X.Exchange.settled g.X.Exchange.ordered s.binds s.order_binds c.args.fate s.fate c.args.decided s.ended c.ended_after-self.result (value_under s.due) mid (value_under c.take_cause.new.due) s.queue.items c.take_answer-broken.new.queue.items c.take_cause.new.queue.items c.tidy.new.queue.items e past under q c.ended_after-self.ensures
    (λ i. c.take_answer-broken.ensures.due i ∙ ap (λ o. cond (accepts c.args.fate && is_id i o) None (value_under s.due i)) c.answer-answer.ensures)
    (λ accepted i. c.in_ok-take_cause.ensures.due accepted i
    ∙ ap (λ b. due_by b c.cause-cause.result None e.place i (mid i)) c.is_open-opens.ensures
    ∙ ap (λ o. due_next e.note o None e.place i (mid i)) c.cause-cause.ensures)
    c.in_ok-take_cause.ensures.same
    (c.take_answer-broken.ensures.queue ∙ ap (λ o. cond (accepts c.args.fate) (cond s.order_binds (left_by (value_under s.due) mid o s.queue.items) s.queue.items) s.queue.items) c.answer-answer.ensures)
    (c.in_ok-take_cause.ensures.queue
    ∙ ap (λ b. cond (is_some c.ordered_rule-ordered.result && accepts c.args.fate) (queued_by b c.cause-cause.result e.place.position mid c.take_answer-broken.new.queue.items) c.take_answer-broken.new.queue.items) c.is_open-opens.ensures
    ∙ ap (λ o. cond (is_some o && accepts c.args.fate) (queued_next e.note c.cause-cause.result e.place.position mid c.take_answer-broken.new.queue.items) c.take_answer-broken.new.queue.items) c.ordered_rule-ordered.ensures
    ∙ ap (λ o. cond (is_some g.X.Exchange.ordered && accepts c.args.fate) (queued_next e.note o e.place.position mid c.take_answer-broken.new.queue.items) c.take_answer-broken.new.queue.items) c.cause-cause.ensures)
    c.tidy.ensures.tidied
    (λ n test has queue passes. c.tidy.ensures.bounded n test (ap is_some c.cause-cause.ensures ∙ has) queue passes)

pub returns-clause-grows : goal.returns-clause-grows
returns-clause-grows g c = λ tested past under q.
    let s = c.args.self.now in
    let e = seen c.args.at (g.E.Noted.note c.args.event.now) in
    let m = c.args.faults.now in
    let x = g.X.Exchange.exchange in
    gains_either (λ r. same_rule r g.X.Exchange.settled) (λ r. is_some_and (same_rule r) g.X.Exchange.ordered) (turns_with tested c.args.fate e past) tested (e ∷ past) c.args.decided m c.settle.new.faults c.judge_order.new.faults
    (subst (λ (n : FaultMap). Gains (λ k r. same_rule r g.X.Exchange.settled && turns_with tested c.args.fate e past k r) tested (e ∷ past) c.args.decided m n)
    (sym (c.in_ok-settle.ensures.ok ∙ ap (λ r. cond c.rests_now-rests.result (blamed r c.args.decided (values_of (value_under s.due)) m) m) c.settled_rule.ensures))
    (rest-gains tested x g.met.X.Exchange.apart g.X.Exchange.settled g.X.Exchange.ordered (g.met.X.Exchange.says_settled tested.role) s.binds s.order_binds c.args.fate s.fate s.ended (value_under s.due) s.queue.items c.args.decided e past m c.rests_now-rests.result under (under-within s.due) q (c.rests_now-rests.ensures e.note c.is_rest.ensures)))
    (subst (λ (n : FaultMap). Gains (λ k r. is_some_and (same_rule r) g.X.Exchange.ordered && turns_with tested c.args.fate e past k r) tested (e ∷ past) c.args.decided c.settle.new.faults n)
    (sym (c.in_ok-judge_order.ensures.ok ∙ ap (λ o. ordered_by o c.take_answer-broken.result e.place c.args.decided c.settle.new.faults) c.ordered_rule-ordered.ensures))
    (answer-gains tested x g.met.X.Exchange.apart g.X.Exchange.settled g.X.Exchange.ordered (g.met.X.Exchange.says_ordered tested.role) s.binds s.order_binds c.args.fate s.fate s.ended (value_under s.due) s.queue.items c.args.decided e past c.settle.new.faults c.take_answer-broken.result under q
    (c.take_answer-broken.ensures.broken
    ∙ overtaken-passes (value_under s.due) (value_under c.take_answer-broken.new.due) s.order_binds (accepts c.args.fate) c.answer-answer.result s.queue.items c.take_answer-broken.ensures.due
    ∙ ap (λ o. s.order_binds && (accepts c.args.fate && passes_over (value_under s.due) o (looked_at (value_under s.due) o s.queue.items))) c.answer-answer.ensures)))

pub returns-in_err-settle-clause-memory : goal.returns-in_err-settle-clause-memory
returns-in_err-settle-clause-memory g c = on_err c.from_residual.result _ (λ tested past under q.
    let s = c.args.self.now in
    let e = seen c.args.at (g.E.Noted.note c.args.event.now) in
    let m = c.args.faults.now in
    within_either_first (λ r. same_rule r g.X.Exchange.settled) (λ r. is_some_and (same_rule r) g.X.Exchange.ordered) (turns_with tested c.args.fate e past) tested (e ∷ past) c.args.decided m c.settle.new.faults
    (within_kept (λ k r. same_rule r g.X.Exchange.settled && turns_with tested c.args.fate e past k r) tested (e ∷ past) c.args.decided m c.settle.new.faults (cond c.rests_now-rests.result (blamed g.X.Exchange.settled c.args.decided (values_of (value_under s.due)) m) m)
    (rest-gains tested g.X.Exchange.exchange g.met.X.Exchange.apart g.X.Exchange.settled g.X.Exchange.ordered (g.met.X.Exchange.says_settled tested.role) s.binds s.order_binds c.args.fate s.fate s.ended (value_under s.due) s.queue.items c.args.decided e past m c.rests_now-rests.result under (under-within s.due) q (c.rests_now-rests.ensures e.note c.is_rest.ensures))
    c.in_err-settle.ensures.memory
    (subst (λ r. Keeps c.settle.new.faults (cond c.rests_now-rests.result (blamed r c.args.decided (values_of (value_under s.due)) m) m)) c.settled_rule.ensures c.in_err-settle.ensures.partial)))

pub returns-in_err-take_cause-clause-memory : goal.returns-in_err-take_cause-clause-memory
returns-in_err-take_cause-clause-memory g c = on_err c.from_residual-in_err-take_cause.result _ (λ tested past under q.
    let s = c.args.self.now in
    let e = seen c.args.at (g.E.Noted.note c.args.event.now) in
    let m = c.args.faults.now in
    within_either_first (λ r. same_rule r g.X.Exchange.settled) (λ r. is_some_and (same_rule r) g.X.Exchange.ordered) (turns_with tested c.args.fate e past) tested (e ∷ past) c.args.decided m c.settle.new.faults
    (within_all (λ k r. same_rule r g.X.Exchange.settled && turns_with tested c.args.fate e past k r) tested (e ∷ past) c.args.decided m c.settle.new.faults
    (subst (λ (n : FaultMap). Gains (λ k r. same_rule r g.X.Exchange.settled && turns_with tested c.args.fate e past k r) tested (e ∷ past) c.args.decided m n)
    (sym (c.in_ok-settle.ensures.ok ∙ ap (λ r. cond c.rests_now-rests.result (blamed r c.args.decided (values_of (value_under s.due)) m) m) c.settled_rule.ensures))
    (rest-gains tested g.X.Exchange.exchange g.met.X.Exchange.apart g.X.Exchange.settled g.X.Exchange.ordered (g.met.X.Exchange.says_settled tested.role) s.binds s.order_binds c.args.fate s.fate s.ended (value_under s.due) s.queue.items c.args.decided e past m c.rests_now-rests.result under (under-within s.due) q (c.rests_now-rests.ensures e.note c.is_rest.ensures)))))

pub returns-in_err-judge_order-clause-memory : goal.returns-in_err-judge_order-clause-memory
returns-in_err-judge_order-clause-memory g c = on_err c.from_residual-in_err-judge_order.result _ (λ tested past under q.
    let s = c.args.self.now in
    let e = seen c.args.at (g.E.Noted.note c.args.event.now) in
    let m = c.args.faults.now in
    subst (λ (n : FaultMap). GainsWithin (λ k r. (same_rule r g.X.Exchange.settled || is_some_and (same_rule r) g.X.Exchange.ordered) && turns_with tested c.args.fate e past k r) tested (e ∷ past) c.args.decided m n) (sym c.in_err-judge_order.ensures.unchanged)
    (within_either_first (λ r. same_rule r g.X.Exchange.settled) (λ r. is_some_and (same_rule r) g.X.Exchange.ordered) (turns_with tested c.args.fate e past) tested (e ∷ past) c.args.decided m c.settle.new.faults
    (within_all (λ k r. same_rule r g.X.Exchange.settled && turns_with tested c.args.fate e past k r) tested (e ∷ past) c.args.decided m c.settle.new.faults
    (subst (λ (n : FaultMap). Gains (λ k r. same_rule r g.X.Exchange.settled && turns_with tested c.args.fate e past k r) tested (e ∷ past) c.args.decided m n)
    (sym (c.in_ok-settle.ensures.ok ∙ ap (λ r. cond c.rests_now-rests.result (blamed r c.args.decided (values_of (value_under s.due)) m) m) c.settled_rule.ensures))
    (rest-gains tested g.X.Exchange.exchange g.met.X.Exchange.apart g.X.Exchange.settled g.X.Exchange.ordered (g.met.X.Exchange.says_settled tested.role) s.binds s.order_binds c.args.fate s.fate s.ended (value_under s.due) s.queue.items c.args.decided e past m c.rests_now-rests.result under (under-within s.due) q (c.rests_now-rests.ensures e.note c.is_rest.ensures))))))
