use Rattle.std.proofs.Common.{◌≡◌, sym, subst, ◌∙◌, Some, None}
use Rattle.mq_rules.specs.declared.role.Role.{Role}
use Rattle.mq_rules.specs.declared.role.Role.TheVariants.{Client, Server}
use Rattle.mq_rules.specs.Words.{only}
use Rattle.mq_rules.specs.Moments.{newest}
use Rattle.mq_rules.specs.Under.{seen}
use Rattle.mq_evidence.specs.Evidence.{found, reason}
use Rattle.mq_evidence.specs.Handshakes.{IsHandshake}
use Rattle.mq_evidence.specs.Accepted.{IsAccepted}
use Rattle.mq_evidence.specs.Hearing.{IsHearing}
use Rattle.mq_evidence.specs.ConnectionTrails.{latest_connection, is_on_connection}
use Rattle.mq_evidence.proofs.connection_trail.ConnectionTrail.find.Goals as goal

pub returns-in-Client : goal.returns-in-Client
returns-in-Client c = λ tested past trail.
    let is : tested.role ≡ Client = sym trail.same_role ∙ c.in-Client.is in
    let k = newest (seen c.args.at c.args.note.now) past in
    subst (λ (r : Role). c.of_client.result ≡ only (is_on_connection r c.args.rule) (Some (found (reason r c.args.rule) None None k))) (sym is)
    (c.of_client.ensures past (subst (λ (r : Role). IsHandshake c.args.self.now.handshake r (latest_connection past)) is trail.handshake_is)
    (subst (λ (r : Role). IsHearing c.args.self.now.hearing r past) is trail.hearing_is))

pub returns-in-Server : goal.returns-in-Server
returns-in-Server c = λ tested past trail.
    let is : tested.role ≡ Server = sym trail.same_role ∙ c.in-Server.is in
    let k = newest (seen c.args.at c.args.note.now) past in
    subst (λ (r : Role). c.of_server.result ≡ only (is_on_connection r c.args.rule) (Some (found (reason r c.args.rule) None None k))) (sym is)
    (c.of_server.ensures past (subst (λ (r : Role). IsHandshake c.args.self.now.handshake r (latest_connection past)) is trail.handshake_is)
    (subst (λ (r : Role). IsAccepted c.args.self.now.accepted r past) is trail.accepted_is)
    (subst (λ (r : Role). IsHearing c.args.self.now.hearing r past) is trail.hearing_is))
