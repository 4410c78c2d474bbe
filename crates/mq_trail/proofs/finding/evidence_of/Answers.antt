use Rattle.std.proofs.Common.{◌≡◌, ap, sym, ◌∙◌, true, false, nat_eq}
use Rattle.std.specs.Prelude.{is_some, unwrap_or}
use denote.Enum.Bare.{same_true}
use Rattle.indexmap.specs.IndexMap.{get}
use Rattle.mq_rules.specs.contracts.rule.Rule.{the_type}
use Rattle.mq_rules.specs.declared.rule.Rule.TheVariants.{S06}
use Rattle.mq_rules.specs.FaultKeys.{fault_at}
use Rattle.mq_rules.specs.declared.evidence.Numbers.TheVariants.{Nothing}
use Rattle.mq_evidence.specs.ConnectionTrails.{is_on_connection}
use Rattle.mq_trail.proofs.FindingLaws.{moment-where-fails}
use Rattle.mq_trail.proofs.SourceLaws.{evidence-itself, evidence-silent, evidence-resumed, rest-there, rest-kept}
use Rattle.mq_trail.proofs.finding.evidence_of.Goals as goal

pub returns-then-is_on_connection : goal.returns-then-is_on_connection
returns-then-is_on_connection g c = λ tested taken past role agrees wanted failing at.
    let on : is_on_connection tested.role c.args.key.rule ≡ true = sym (ap (λ x. is_on_connection x c.args.key.rule) role) ∙ sym c.is_on_connection.ensures ∙ c.if-is_on_connection.true in
    c.unwrap_or.ensures ∙ ap (λ o. unwrap_or o c.nothing.result) (c.connection_evidence.ensures tested taken past agrees.0 on (ap is_some wanted) failing)

pub returns-then-is_in_session : goal.returns-then-is_in_session
returns-then-is_in_session g c = λ tested taken past role agrees wanted failing at.
    c.unwrap_or-then-is_in_session.ensures
    ∙ ap (λ o. unwrap_or o c.nothing-then-is_in_session.result) (c.session_evidence.ensures tested taken past agrees.1 (sym c.is_in_session.ensures ∙ c.if-is_in_session.true) (ap is_some wanted) failing)

pub returns-then-is_silent : goal.returns-then-is_silent
returns-then-is_silent g c = λ tested taken past role agrees wanted failing at.
    let k = c.args.key.position in
    let r = c.args.key.rule in
    c.of.ensures ∙ evidence-silent tested past k c.args.fault.decided r (moment-where-fails tested past k r failing) at failing (sym c.is_silent.ensures ∙ c.if-is_silent.true)

pub returns-then-eq : goal.returns-then-eq
returns-then-eq g c = λ tested taken past role agrees wanted failing at.
    let k = c.args.key.position in
    let r = c.args.key.rule in
    let d = c.args.fault.decided in
    let here = moment-where-fails tested past k r failing in
    let there = rest-there tested past k d r here at in
    let is : r ≡ S06 = same_true the_type tt r S06 (sym c.eq.ensures ∙ c.if-eq.true) in
    let kept : is_some (get nat_eq c.args.reading.now.a.rests.connacks d) ≡ true = agrees.0.2.kept d ∙ rest-kept g.K.Wanted.wanted k c.args.fault (ap (fault_at g.K.Wanted.wanted k) (sym is) ∙ wanted) in
    c.of-then-eq.ensures
    ∙ ap (λ o. record { because = o; numbers = Nothing }) (c.connack.ensures ∙ agrees.0.2.connacks_are d there.0 there.1 kept)
    ∙ evidence-resumed tested past k d r here at failing is

pub returns : goal.returns
returns g c = λ tested taken past role agrees wanted failing at.
    let r = c.args.key.rule in
    let on : is_on_connection tested.role r ≡ false = sym (ap (λ x. is_on_connection x r) role) ∙ sym c.is_on_connection.ensures ∙ c.if-is_on_connection.false in
    c.nothing-2.ensures
    ∙ evidence-itself tested past c.args.key.position r failing on (sym c.is_in_session.ensures ∙ c.if-is_in_session.false) (sym c.is_silent.ensures ∙ c.if-is_silent.false) (sym c.eq.ensures ∙ c.if-eq.false)
