use Rattle.std.proofs.Common.{ap, sym, ◌∙◌, true}
use Rattle.mq_packet.specs.declared.packet.PacketType.TheVariants as types
use Rattle.mq_rules.specs.declared.role.Role.{Role}
use Rattle.mq_rules.specs.Notes.{sends_type}
use Rattle.mq_rules.specs.Moments.{note}
use Rattle.mq_rules.specs.Pasts.{is_sent_disconnect, is_sent_refusal, is_last_sent}
use Rattle.mq_evidence.proofs.StretchLaws.{once-kept}
use Rattle.mq_evidence.proofs.handshake.FirstSent.take.Goals as goal

pub returns : goal.returns
returns c = λ tested m ms same comes before.
    let t = c.args.turn in
    let old = c.args.self.now in
    record {
      connect_is = once-kept (λ m. sends_type types.Connect (note m)) t.opens true c.sends_type-connects.result t.position old.connect c.keep_once-self.result m ms comes.at
          (ap (sends_type types.Connect) comes.same ∙ sym c.sends_type-connects.ensures) before.connect_is c.keep_once-self.ensures;
      connack_is = once-kept (λ m. sends_type types.Connack (note m)) t.opens true c.sends_type-answers.result t.position old.connack c.keep_once-self-2.result m ms comes.at
          (ap (sends_type types.Connack) comes.same ∙ sym c.sends_type-answers.ensures) before.connack_is c.keep_once-self-2.ensures;
      disconnect_is = once-kept (λ m. is_sent_disconnect (note m)) t.opens true c.is_sent_disconnect-disconnects.result t.position old.disconnect c.keep_once-self-3.result m ms comes.at
          (ap is_sent_disconnect comes.same ∙ sym c.is_sent_disconnect-disconnects.ensures) before.disconnect_is c.keep_once-self-3.ensures;
      refusal_is = once-kept (λ m. is_sent_refusal (note m)) t.opens true c.is_sent_refusal-refuses.result t.position old.refusal c.keep_once-self-4.result m ms comes.at
          (ap is_sent_refusal comes.same ∙ sym c.is_sent_refusal-refuses.ensures) before.refusal_is c.keep_once-self-4.ensures;
      last_is = once-kept (λ m. is_last_sent tested (note m)) t.opens true c.is_last_sent-ends.result t.position old.last c.keep_once-self-5.result m ms comes.at
          (ap (is_last_sent tested) comes.same ∙ ap (λ (r : Role). is_last_sent r c.args.note.now) (sym same) ∙ sym c.is_last_sent-ends.ensures) before.last_is c.keep_once-self-5.ensures;
    }
