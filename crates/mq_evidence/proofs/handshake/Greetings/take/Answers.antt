use Rattle.std.proofs.Common.{ap, sym, ◌∙◌, true, None, cond}
use Rattle.std.specs.Prelude.{is_some}
use Rattle.std.specs.Option.{option_or}
use Rattle.mq_rules.specs.declared.role.Role.{Role}
use Rattle.mq_rules.specs.Notes.{connect_of, connack_of}
use Rattle.mq_evidence.specs.Evidence.{is_connect, is_connack}
use Rattle.mq_evidence.proofs.StretchLaws.{once-kept}
use Rattle.mq_evidence.proofs.HandshakeLaws.{first_found-kept}
use Rattle.mq_evidence.proofs.handshake.Greetings.take.Goals as goal

pub returns : goal.returns
returns c = λ tested m ms same comes before.
    let t = c.args.turn in
    let n = c.args.note.now in
    let old = c.args.self.now in
    record {
      connect_at = once-kept (is_connect tested) t.opens true c.is_connect-asks.result t.position old.connect_at c.keep_once-self.result m ms comes.at
          (ap (λ x. is_some (connect_of tested x)) comes.same ∙ ap (λ (r : Role). is_some (connect_of r n)) (sym same) ∙ sym c.is_connect-asks.ensures) before.connect_at c.keep_once-self.ensures;
      connect_is = first_found-kept (connect_of tested) t.opens n old.connect c.connect_after-self.result m ms comes.same before.connect_is
          (c.connect_after-self.ensures ∙ ap (λ (r : Role). option_or (cond t.opens None old.connect) (connect_of r n)) same);
      connack_at = once-kept (is_connack tested) t.opens true c.is_connack-answers.result t.position old.connack_at c.keep_once-self-2.result m ms comes.at
          (ap (λ x. is_some (connack_of tested x)) comes.same ∙ ap (λ (r : Role). is_some (connack_of r n)) (sym same) ∙ sym c.is_connack-answers.ensures) before.connack_at c.keep_once-self-2.ensures;
      connack_is = first_found-kept (connack_of tested) t.opens n old.connack c.connack_after-self.result m ms comes.same before.connack_is
          (c.connack_after-self.ensures ∙ ap (λ (r : Role). option_or (cond t.opens None old.connack) (connack_of r n)) same);
    }
