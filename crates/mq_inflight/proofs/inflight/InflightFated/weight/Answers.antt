use Rattle.std.proofs.Common.{◌&&◌, nat_eq, nat_le, arith, ap, sym, ◌∙◌}
use Rattle.std.specs.Prelude.{is_some}
use Rattle.mq_rules.specs.KeptOrder.{value_under}
use Rattle.indexmap.specs.IndexSet.{contains}
use Rattle.mq_rules.specs.Words.{is_id, is_some_and}
use Rattle.mq_rules.proofs.Exports.{both_true, or_left}
use Rattle.mq_inflight.specs.declared.inflight.entry.Entry.{Entry}
use Rattle.mq_rules.specs.Notes.{sent_as, received_as, subscribe_in, suback_in, unsubscribe_in, unsuback_in}
use Rattle.mq_rules.specs.Moments.{note, moments, some, since}
use Rattle.mq_rules.specs.Connections.{number, on_open, resumes, voided, fate_under, session}
use Rattle.mq_rules.specs.Identifiers.{opens_id, closes_id, delivers, sent_under}
use Rattle.mq_inflight.specs.Burden.{open_ids, delivering_ids, void_ids, first_ids, subscribing_ids, unsubscribing_ids}
use Rattle.mq_inflight.specs.Earlier.{sent_first}
use Rattle.mq_inflight.proofs.OpenedLaws.{entry-there}
use Rattle.mq_fates.proofs.Exports.{ids-more}
use Rattle.mq_inflight.proofs.StrayLaws.{delivered-waits}
use Rattle.mq_inflight.proofs.inflight.InflightFated.weight.Goals as goal

pub returns-clause-bounded : goal.returns-clause-bounded
unfolding open_ids delivering_ids void_ids first_ids subscribing_ids unsubscribing_ids
returns-clause-bounded c = λ tested taken past u.
    let ms = session tested.role taken past in
    let opened = ids-more (λ i. is_some (value_under c.args.self.now.entries i)) (λ i. since (opens_id i) (closes_id i) ms) (λ i here. sym (entry-there tested.role i ms) ∙ ap is_some (sym (u.entries_are i)) ∙ here) in
    let delivering = c.set_size.ensures.bounded (λ i. since (λ m. is_id i (sent_under (note m))) (closes_id i) (on_open past)) (λ i here. delivered-waits i (on_open past)
    (sym (u.delivering_are (u.stray_are i here) i) ∙ or_left (contains nat_eq c.args.self.now.stray i) (is_some_and (λ (o : Entry). nat_le c.args.self.now.opened o.published) (value_under c.args.self.now.entries i)) here)) in
    let unanswered = c.set_size-2.ensures.bounded (λ i. since (λ m. is_id i (sent_under (note m))) (closes_id i) (on_open past)) (λ i here. (both_true (resumes c.args.self.now.fate) (since (λ m. is_id i (sent_under (note m))) (closes_id i) (on_open past)) (sym (u.unanswered_are i) ∙ here)).1) in
    let void = c.set_size-3.ensures.bounded (λ i. some (λ m. delivers i m && voided (fate_under tested.role taken past (number m))) (moments past)) (λ i here. sym (u.void_are i) ∙ here) in
    let first = c.set_size-4.ensures.bounded (λ i. sent_first tested.role i taken past) (λ i here. sym (u.earlier_is.first_are i) ∙ here) in
    let subscribing = c.set_size-5.ensures.bounded (λ i. since (λ m. is_id i (sent_as subscribe_in (note m))) (λ m. is_id i (received_as suback_in (note m))) (on_open past)) (λ i here. sym (u.subscribing_are i) ∙ here) in
    let unsubscribing = c.set_size-6.ensures.bounded (λ i. since (λ m. is_id i (sent_as unsubscribe_in (note m))) (λ m. is_id i (received_as unsuback_in (note m))) (on_open past)) (λ i here. sym (u.unsubscribing_are i) ∙ here) in
    omega (arith, c.len.ensures, c.saturating_add.ensures, c.saturating_add-2.ensures, c.saturating_add-3.ensures, c.saturating_add-4.ensures, c.saturating_add-5.ensures, c.saturating_add-6.ensures, opened, delivering, unanswered, void, first, subscribing, unsubscribing)
