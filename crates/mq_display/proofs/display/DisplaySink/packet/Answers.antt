use Rattle.std.proofs.Common.{◌≡◌, ◌∙◌, ◌∷◌, Bool, List, ℕ, ap, sym, subst}
use Rattle.mq_log.specs.Events.{Placed}
use Rattle.mq_log.specs.Reception.{packet_event_at}
use Rattle.mq_display.specs.Outgoing.{Carries}
use Rattle.mq_display.specs.Views.{text_by}
use Rattle.mq_display.proofs.display.DisplaySink.packet.Goals as goal

pub returns-clause-receives : goal.returns-clause-receives
returns-clause-receives g c = λ earlier agrees are.
    let was = agrees.0 in
    let given : text_by c.args.self.now.timed c.args.self.now.view ≡ g.K.Given.text = ap (λ (t : Bool). text_by t c.args.self.now.view) agrees.1 ∙ was.1 in
    let before = subst (λ (t : List Placed → List ℕ). Carries g.W.Write.contents g.K.Given.held (t earlier) c.args.self.now.out.now) (sym given) was.3 in
    let after = c.put_packet.ensures.puts g.K.Given.held earlier are was.2 before in (
      (
        c.put_packet.ensures.writer ∙ was.0,
        c.put_packet.ensures.text g.K.Given.timed ∙ was.1,
        c.put_packet.ensures.stands earlier are was.2,
        subst (λ (t : List Placed → List ℕ). Carries g.W.Write.contents g.K.Given.held (t (packet_event_at c.args.place c.args.direction c.args.packet ∷ earlier)) c.put_packet.new.out) given after,
        was.4,
      ),
      agrees.1,
    )
