use Rattle.std.proofs.Common.{ap, sym, ◌∙◌, cond, refl}
use Rattle.std.specs.Prelude.{option_map}
use Rattle.mq_rules.specs.Notes.{is_open}
use Rattle.mq_rules.specs.Moments.{position, moments, note, latest}
use Rattle.mq_rules.specs.Connections.{accepts_at}
use Rattle.mq_rules.specs.declared.evidence.Numbers.TheVariants.{Nothing}
use Rattle.mq_evidence.specs.Evidence.{accepted_before}
use Rattle.mq_evidence.proofs.AcceptedLaws.{before-found}
use Rattle.mq_evidence.proofs.HandshakeLaws.{same-parts}
use Rattle.mq_evidence.proofs.accepted.Accepted.earlier.Goals as goal

pub returns : goal.returns
returns c = λ role k same is.
    let old = c.args.self.now in
    same-parts c.before_at.result (option_map position (accepted_before role k)) Nothing Nothing c.it.result c.it.ensures
    (c.before_at.ensures
    ∙ ap (λ b. cond b old.last old.before) (c.is_open-opens.ensures ∙ ap is_open (sym same))
    ∙ ap (λ o. cond (is_open (note k)) o old.before) is.last_is
    ∙ ap (λ o. cond (is_open (note k)) (option_map position (latest (accepts_at role) (moments k.past))) o) is.before_is
    ∙ sym (before-found role k))
    refl
