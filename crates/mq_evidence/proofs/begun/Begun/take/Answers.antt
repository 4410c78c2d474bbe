use Rattle.std.proofs.Common.{ap, sym, ◌∙◌}
use Rattle.std.specs.Prelude.{is_some}
use Rattle.mq_rules.specs.declared.role.Role.{Role}
use Rattle.mq_rules.specs.Notes.{connack_of}
use Rattle.mq_evidence.specs.Evidence.{is_connack}
use Rattle.mq_evidence.proofs.StretchLaws.{once-kept}
use Rattle.mq_evidence.proofs.begun.Begun.take.Goals as goal

pub returns : goal.returns
returns c = λ role m s comes before.
    let t = c.args.turn in
    let n = c.args.note.now in
    record {
      same_role = before.same_role;
      connack_is = once-kept (is_connack role) t.begins t.inside c.is_connack-answers.result t.position c.args.self.now.connack c.keep_once-self.result m s.session comes.at
          (ap (λ x. is_some (connack_of role x)) comes.same ∙ ap (λ (r : Role). is_some (connack_of r n)) (sym before.same_role) ∙ sym c.is_connack-answers.ensures) before.connack_is c.keep_once-self.ensures;
    }
