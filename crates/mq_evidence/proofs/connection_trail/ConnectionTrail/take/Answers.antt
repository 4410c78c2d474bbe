use Rattle.std.proofs.Common.{◌≡◌, ap, sym, subst, ◌∙◌, refl, ◌∷◌}
use Rattle.mq_rules.specs.Moments.{newest}
use Rattle.mq_rules.specs.Under.{seen}
use Rattle.mq_evidence.specs.Handshakes.{IsHandshake}
use Rattle.mq_evidence.specs.Stretches.{Comes, advanced}
use Rattle.mq_evidence.specs.ConnectionTrails.{latest_connection}
use Rattle.mq_evidence.proofs.ConnectionLaws.{connection-advanced}
use Rattle.mq_evidence.proofs.connection_trail.ConnectionTrail.take.Goals as goal

pub returns : goal.returns
returns c = λ tested past is trail.
    let e = seen c.args.at c.args.note.now in
    let m = newest e past in
    let s = latest_connection past in
    let comes : Comes c.turn_at-turn.result c.args.note.now m = record { at = sym is ∙ sym (ap (λ t. t.position) c.turn_at-turn.ensures); same = refl } in
    let turned : advanced c.turn_at-turn.result m s ≡ latest_connection (e ∷ past) = ap (λ t. advanced t m s) c.turn_at-turn.ensures ∙ connection-advanced c.args.at.position e past in
    record {
      same_role = trail.same_role;
      handshake_is = subst (λ t. IsHandshake c.take.new.self tested.role t) turned (c.take.ensures tested.role m s comes trail.handshake_is);
      accepted_is = c.take-2.ensures tested.role m comes trail.accepted_is;
      hearing_is = c.take-3.ensures tested.role past is trail.hearing_is;
    }
