use Rattle.std.proofs.Common.{nat_eq, cond, subst, sym, ap, ◌∙◌}
use Rattle.mq_rules.specs.KeptOrder.{value_under}
use Rattle.indexmap.specs.IndexSet.{contains}
use Rattle.mq_rules.specs.Notes.{is_open, is_boundary, sent_as, received_as, subscribe_in, suback_in, unsubscribe_in, unsuback_in}
use Rattle.mq_inflight.specs.declared.inflight.Inflight.{Inflight}
use Rattle.mq_inflight.specs.declared.inflight.resends.Resent.{Resent}
use Rattle.mq_inflight.specs.Opened.{entry_next}
use Rattle.mq_inflight.specs.Resending.{by_itself, bounds_next, bounded_next, IsResent}
use Rattle.mq_inflight.specs.Using.{waits_next, stray_next, unanswered_next, void_next}
use Rattle.mq_inflight.proofs.AgainLaws.{again-next, bounds-keep}
use Rattle.mq_inflight.proofs.inflight.Inflight.take_in.Goals as goal

pub returns-clause-role : goal.returns-clause-role
returns-clause-role c = ap (λ (s : Inflight). s.role) c.in_ok-take_waiting.ensures.same ∙ ap (λ (s : Inflight). s.role) c.take_connection.ensures.state

pub returns-clause-fate : goal.returns-clause-fate
returns-clause-fate c = ap (λ (s : Inflight). s.fate) c.in_ok-take_waiting.ensures.same ∙ ap (λ (s : Inflight). s.fate) c.take_connection.ensures.state

pub returns-clause-ordered : goal.returns-clause-ordered
returns-clause-ordered c = ap (λ (s : Inflight). s.ordered) c.in_ok-take_waiting.ensures.same ∙ ap (λ (s : Inflight). s.ordered) c.take_connection.ensures.state

pub returns-clause-entries : goal.returns-clause-entries
returns-clause-entries c = λ i.
    ap (λ (s : Inflight). value_under s.entries i) c.in_ok-take_waiting.ensures.same
    ∙ c.in_ok-take_entries.ensures.entries i
    ∙ ap (λ (s : Inflight). entry_next c.args.fate c.args.note.now c.args.self.now.bounded c.args.at i (value_under s.entries i)) c.take_connection.ensures.state

pub returns-clause-stray : goal.returns-clause-stray
returns-clause-stray c = λ i.
    c.in_ok-take_waiting.ensures.stray i
    ∙ ap (λ (s : Inflight). stray_next c.args.fate c.args.note.now (value_under s.entries) i (contains nat_eq c.take_connection.new.self.stray i)) (sym c.in_ok-take_waiting.ensures.same)
    ∙ ap (λ (s : Inflight). stray_next c.args.fate c.args.note.now (value_under c.take_waiting.new.self.entries) i (contains nat_eq s.stray i)) c.take_connection.ensures.state

pub returns-clause-unanswered : goal.returns-clause-unanswered
returns-clause-unanswered c = λ i. c.in_ok-take_waiting.ensures.unanswered i ∙ ap (λ (s : Inflight). unanswered_next c.args.fate c.args.note.now i (contains nat_eq s.unanswered i)) c.take_connection.ensures.state

pub returns-clause-void : goal.returns-clause-void
returns-clause-void c = λ i. c.in_ok-take_waiting.ensures.void i ∙ ap (λ (s : Inflight). void_next c.args.fate c.args.note.now i (contains nat_eq s.void i)) c.take_connection.ensures.state

pub returns-clause-subscribing : goal.returns-clause-subscribing
returns-clause-subscribing c = λ i.
    let n = c.args.note.now in
    c.in_ok-take_waiting.ensures.subscribing i
    ∙ ap (λ (s : Inflight). waits_next (sent_as subscribe_in n) (received_as suback_in n) (is_boundary n) i (contains nat_eq s.subscribing i)) c.take_connection.ensures.state

pub returns-clause-unsubscribing : goal.returns-clause-unsubscribing
returns-clause-unsubscribing c = λ i.
    let n = c.args.note.now in
    c.in_ok-take_waiting.ensures.unsubscribing i
    ∙ ap (λ (s : Inflight). waits_next (sent_as unsubscribe_in n) (received_as unsuback_in n) (is_boundary n) i (contains nat_eq s.unsubscribing i)) c.take_connection.ensures.state

pub returns-clause-resent : goal.returns-clause-resent
returns-clause-resent c = ap (λ (s : Inflight). s.resent) c.in_ok-take_waiting.ensures.same ∙ ap (λ (s : Inflight). s.resent) c.take_connection.ensures.state

pub returns-clause-ended : goal.returns-clause-ended
returns-clause-ended c = ap (λ (s : Inflight). s.ended) c.in_ok-take_waiting.ensures.same ∙ ap (λ (s : Inflight). s.ended) c.take_connection.ensures.state

pub returns-clause-opened : goal.returns-clause-opened
returns-clause-opened c = ap (λ (s : Inflight). s.opened) c.in_ok-take_waiting.ensures.same ∙ ap (λ (s : Inflight). s.opened) c.take_connection.ensures.state

pub returns-clause-peer : goal.returns-clause-peer
returns-clause-peer c = ap (λ (s : Inflight). s.peer) c.in_ok-take_waiting.ensures.same ∙ ap (λ (s : Inflight). s.peer) c.take_connection.ensures.state

pub returns-clause-flying : goal.returns-clause-flying
returns-clause-flying c = λ below. ap (λ (s : Inflight). s.in_flight) c.in_ok-take_waiting.ensures.same ∙ c.take_connection.ensures.flying below

pub returns-clause-bounds : goal.returns-clause-bounds
returns-clause-bounds c = ap (λ (s : Inflight). s.bounds) c.in_ok-take_waiting.ensures.same ∙ ap (λ (s : Inflight). s.bounds) c.take_connection.ensures.state

pub returns-clause-bounded : goal.returns-clause-bounded
returns-clause-bounded c = ap (λ (s : Inflight). s.bounded) c.in_ok-take_waiting.ensures.same ∙ ap (λ (s : Inflight). s.bounded) c.take_connection.ensures.state

pub returns-clause-again : goal.returns-clause-again
returns-clause-again c = λ le within same is.
    let s = c.args.self.now in
    let n = c.args.note.now in
    let entries = c.take_entries.new.entries in
    let before = by_itself s.fate s.bounds s.opened s.bounded in
    let after = by_itself c.args.fate (bounds_next s.role n s.bounds) (cond (is_open n) c.args.at.position s.opened) (bounded_next n s.fate s.bounds s.opened s.bounded) in
    subst (λ (x : Inflight). IsResent x.opened (by_itself x.fate x.bounds x.opened x.bounded) (value_under x.entries) x.again) (sym c.in_ok-take_waiting.ensures.same)
    (subst (λ (x : Inflight). IsResent x.opened (by_itself x.fate x.bounds x.opened x.bounded) (value_under entries) x.again) (sym c.take_connection.ensures.state)
    (subst (λ (r : Resent). IsResent (cond (is_open n) c.args.at.position s.opened) after (value_under entries) r) (sym c.resent_still-self.ensures)
    (again-next c.args.fate n s.bounded c.args.at s.opened before after (value_under s.entries) (value_under entries) s.again le
    (bounds-keep s.role n c.args.fate s.fate s.bounds s.opened s.bounded c.args.at.position within same)
    (λ i. c.in_ok-take_entries.ensures.entries i ∙ ap (λ (x : Inflight). entry_next c.args.fate n s.bounded c.args.at i (value_under x.entries i)) c.take_connection.ensures.state)
    is)))
