use Rattle.std.proofs.Common.{◌≡◌, ap, sym, subst, ◌∙◌, refl, Some, ◌∷◌}
use Rattle.std.specs.Prelude.{IfSome}
use Rattle.mq_rules.specs.Moments.{newest}
use Rattle.mq_rules.specs.Under.{seen, fate_before}
use Rattle.mq_rules.proofs.Exports.{session-members}
use Rattle.mq_evidence.specs.Begun.{IsBegun}
use Rattle.mq_evidence.specs.Subscriptions.{IsSubscriptions}
use Rattle.mq_evidence.specs.Matching.{IsMatching}
use Rattle.mq_evidence.specs.Handshakes.{IsHandshake}
use Rattle.mq_evidence.specs.Senders.{IsSenders}
use Rattle.mq_evidence.specs.Answering.{IsAnswering, IsWaiting}
use Rattle.mq_evidence.specs.Received.{IsReceived}
use Rattle.mq_evidence.specs.Stretches.{Comes, stretches, advanced}
use Rattle.mq_evidence.proofs.TurnLaws.{advanced-under, any-next}
use Rattle.mq_evidence.proofs.trail.SessionTrail.take.Goals as goal

pub returns-clause-agrees : goal.returns-clause-agrees
returns-clause-agrees c = λ tested decided past under trail.
    let e = seen c.args.at c.args.note.now in
    let m = newest e past in
    let s = stretches tested.role (fate_before tested c.args.fate e past) past in
    let comes : Comes c.turn-turn.result c.args.note.now m = record { at = sym (under.follows.placed.0) ∙ sym (ap (λ t. t.position) c.turn-turn.ensures); same = refl } in
    let turned : advanced c.turn-turn.result m s ≡ stretches tested.role (Some c.args.fate) (e ∷ past) =
    ap (λ t. advanced t m s) c.turn-turn.ensures ∙ sym (advanced-under tested c.args.fate c.args.self.now.session.has_accepted c.args.at.position e past trail.any_are) in
    record {
      same_role = trail.same_role;
      any_are = c.take-9.ensures ∙ any-next tested c.args.fate c.args.self.now.session.has_accepted e past trail.any_are;
      begun_is = subst (λ t. IsBegun c.take.new.self tested.role t) turned (c.take.ensures tested.role m s comes trail.begun_is);
      handshake_is = subst (λ t. IsHandshake c.take-2.new.self tested.role t) turned (c.take-2.ensures tested.role m s comes trail.handshake_is);
      counters_are = c.take-3.ensures tested.role m comes trail.counters_are;
      overtaking_is = c.in_ok-take.ensures tested c.args.fate c.args.at past comes (c.opened_by-opened.ensures s trail.senders_are) trail.overtaking_is;
      senders_are = subst (λ t. IsSenders c.take-5.new.self t) turned (c.in_ok-take-2.ensures m s comes trail.senders_are);
      answering_are = subst (λ t. IsAnswering c.take-6.new.self t) turned (c.in_ok-take-3.ensures m s comes trail.answering_are);
      waiting_are = subst (λ t. IsWaiting c.take-7.new.self t) turned (c.in_ok-take-4.ensures m s comes trail.waiting_are);
      received_are = subst (λ t. IsReceived c.take-8.new.self t) turned (c.in_ok-take-5.ensures m s comes trail.received_are);
      subscriptions_are = subst (λ t. IfSome c.take_if_kept.new.subscriptions (λ x. IsSubscriptions x (e ∷ past) t)) turned
          (c.in_ok-take_if_kept.ensures.agrees e past s comes (λ j there. (session-members tested.role (fate_before tested c.args.fate e past) past j there).0) trail.subscriptions_are);
      matching_are = subst (λ t. IfSome c.take_matching.new.matching (λ x. IsMatching x t)) turned (c.in_ok-take_matching.ensures.agrees m s comes trail.matching_are);
    }
