use Rattle.std.proofs.Common.{Some, None, sym, subst, ◌∙◌}
use Rattle.mq_rules.specs.Notes.{note_of_bare}
use Rattle.mq_rules.specs.Under.{seen}
use Rattle.mq_rules.proofs.Exports.{on_err}
use Rattle.mq_exchanges.specs.Receiving.{Receives}
use Rattle.mq_exchanges.proofs.ReceivingLaws.{publish-receives, pubrec-receives, pubcomp-receives, sent-nothing, received-none, received-nothing}
use Rattle.mq_exchanges.proofs.releases.Releases.take_bare.Goals as goal

pub returns-in_ok-send_pubrec-in-Pubrec-clause-agrees : goal.returns-in_ok-send_pubrec-in-Pubrec-clause-agrees
returns-in_ok-send_pubrec-in-Pubrec-clause-agrees c = λ tested taken past follows known u.
    let b = c.args.bare in
    let p = c.in-Pubrec in
    (c.in_ok-send_pubrec-in-Pubrec.ensures (seen c.args.at (note_of_bare b)) tested taken past c.args.faults.now (pubrec-receives b p.identifier p.code c.in-Sent.is p.is) follows known u).agrees

pub returns-in_ok-send_pubrec-in-Pubrec-clause-grows : goal.returns-in_ok-send_pubrec-in-Pubrec-clause-grows
returns-in_ok-send_pubrec-in-Pubrec-clause-grows c = λ tested taken past follows known u.
    let b = c.args.bare in
    let p = c.in-Pubrec in
    (c.in_ok-send_pubrec-in-Pubrec.ensures (seen c.args.at (note_of_bare b)) tested taken past c.args.faults.now (pubrec-receives b p.identifier p.code c.in-Sent.is p.is) follows known u).grows

pub returns-in_ok-send_pubcomp-in-Pubcomp-clause-agrees : goal.returns-in_ok-send_pubcomp-in-Pubcomp-clause-agrees
returns-in_ok-send_pubcomp-in-Pubcomp-clause-agrees c = λ tested taken past follows known u.
    let b = c.args.bare in
    let p = c.in-Pubcomp in
    (c.in_ok-send_pubcomp-in-Pubcomp.ensures.ok (note_of_bare b) tested taken past (pubcomp-receives b p.identifier p.code c.in-Sent.is p.is) follows known u).agrees

pub returns-in_ok-send_pubcomp-in-Pubcomp-clause-grows : goal.returns-in_ok-send_pubcomp-in-Pubcomp-clause-grows
returns-in_ok-send_pubcomp-in-Pubcomp-clause-grows c = λ tested taken past follows known u.
    let b = c.args.bare in
    let p = c.in-Pubcomp in
    (c.in_ok-send_pubcomp-in-Pubcomp.ensures.ok (note_of_bare b) tested taken past (pubcomp-receives b p.identifier p.code c.in-Sent.is p.is) follows known u).grows

pub returns-in_err-send_pubcomp-in-Pubcomp-clause-memory : goal.returns-in_err-send_pubcomp-in-Pubcomp-clause-memory
returns-in_err-send_pubcomp-in-Pubcomp-clause-memory c = on_err c.from_residual-in_err-send_pubcomp-in-Pubcomp.result _ (λ tested taken past follows known u.
    let b = c.args.bare in
    let p = c.in-Pubcomp in
    (c.in_err-send_pubcomp-in-Pubcomp.ensures.memory (note_of_bare b) tested taken past (pubcomp-receives b p.identifier p.code c.in-Sent.is p.is) follows known u).grows)

pub returns-in_ok-receive-in-Some-clause-agrees : goal.returns-in_ok-receive-in-Some-clause-agrees
returns-in_ok-receive-in-Some-clause-agrees c = λ tested taken past follows known u.
    let b = c.args.bare in
    let p = c.in-Publish in
    let brings = subst (λ o. Receives (note_of_bare b) o None None None) (sym c.brought_by.ensures ∙ c.in-Some.is) (publish-receives b p.identifier p.qos p.duplicate p.topic c.in-Recv.is p.is) in
    (c.in_ok-receive-in-Some.ensures (seen c.args.at (note_of_bare b)) tested taken past c.args.faults.now brings follows known u).agrees

pub returns-in_ok-receive-in-Some-clause-grows : goal.returns-in_ok-receive-in-Some-clause-grows
returns-in_ok-receive-in-Some-clause-grows c = λ tested taken past follows known u.
    let b = c.args.bare in
    let p = c.in-Publish in
    let brings = subst (λ o. Receives (note_of_bare b) o None None None) (sym c.brought_by.ensures ∙ c.in-Some.is) (publish-receives b p.identifier p.qos p.duplicate p.topic c.in-Recv.is p.is) in
    (c.in_ok-receive-in-Some.ensures (seen c.args.at (note_of_bare b)) tested taken past c.args.faults.now brings follows known u).grows

pub returns-in-None-clause-agrees : goal.returns-in-None-clause-agrees
returns-in-None-clause-agrees c = λ tested taken past follows known u.
    let b = c.args.bare in
    let p = c.in-Publish in
    let brings = subst (λ o. Receives (note_of_bare b) o None None None) (sym c.brought_by.ensures ∙ c.in-None.is) (publish-receives b p.identifier p.qos p.duplicate p.topic c.in-Recv.is p.is) in
    (received-nothing tested c.args.self.now taken (seen c.args.at (note_of_bare b)) past c.args.faults.now brings follows known u).agrees

pub returns-in-None-clause-grows : goal.returns-in-None-clause-grows
returns-in-None-clause-grows c = λ tested taken past follows known u.
    let b = c.args.bare in
    let p = c.in-Publish in
    let brings = subst (λ o. Receives (note_of_bare b) o None None None) (sym c.brought_by.ensures ∙ c.in-None.is) (publish-receives b p.identifier p.qos p.duplicate p.topic c.in-Recv.is p.is) in
    (received-nothing tested c.args.self.now taken (seen c.args.at (note_of_bare b)) past c.args.faults.now brings follows known u).grows

pub returns-in_default : goal.returns-in_default
returns-in_default c =
    let b = c.args.bare in
    let does = sent-nothing b c.in-Sent.is c.in_default.not-Pubrec c.in_default.not-Pubcomp in
    record {
      agrees = λ tested taken past follows known u. (received-nothing tested c.args.self.now taken (seen c.args.at (note_of_bare b)) past c.args.faults.now does follows known u).agrees;
      grows = λ tested taken past follows known u. (received-nothing tested c.args.self.now taken (seen c.args.at (note_of_bare b)) past c.args.faults.now does follows known u).grows;
      memory = tt;
    }

pub returns-in_default-fields : goal.returns-in_default-fields
returns-in_default-fields c =
    let b = c.args.bare in
    let does = received-none b c.in-Recv.is c.in_default-fields.not-Publish in
    record {
      agrees = λ tested taken past follows known u. (received-nothing tested c.args.self.now taken (seen c.args.at (note_of_bare b)) past c.args.faults.now does follows known u).agrees;
      grows = λ tested taken past follows known u. (received-nothing tested c.args.self.now taken (seen c.args.at (note_of_bare b)) past c.args.faults.now does follows known u).grows;
      memory = tt;
    }
