use Rattle.std.proofs.Common.{ap, sym, ◌∙◌, ◌&&◌, ◌||◌, not, cond, true, false}
use Rattle.std.specs.Prelude.{is_some, option_map}
use Rattle.mq_rules.specs.declared.role.Role.{Role}
use Rattle.mq_rules.specs.Notes.{is_open, decides}
use Rattle.mq_rules.specs.Moments.{position, moments, note, latest}
use Rattle.mq_rules.specs.Connections.{accepts_at, accepted, latest_outcome}
use Rattle.mq_evidence.proofs.StretchLaws.{again-kept}
use Rattle.mq_evidence.proofs.AcceptedLaws.{decided-next, accepts-first, before-next}
use Rattle.mq_evidence.proofs.accepted.Accepted.take.Goals as goal

pub returns : goal.returns
returns c = λ role m comes before.
    let t = c.args.turn in
    let n = c.args.note.now in
    let old = c.args.self.now in
    let answer = c.decides-answer.ensures ∙ ap (λ (r : Role). decides r n) before.same_role ∙ ap (decides role) (sym comes.same) in
    let opens = c.is_open-opens.ensures ∙ ap is_open (sym comes.same) in
    let accepts = accepts-first role m ∙ ap (λ b. not b && accepted (decides role (note m))) (sym before.decided_is) ∙ ap (λ a. not old.decided && accepted a) (sym answer) ∙ sym c.accepts_first-accepts.ensures in
    record {
      same_role = before.same_role;
      decided_is = c.decided_after-self.ensures
          ∙ ap (λ b. not b && (old.decided || is_some c.decides-answer.result)) opens
          ∙ ap (λ b. not (is_open (note m)) && (b || is_some c.decides-answer.result)) before.decided_is
          ∙ ap (λ a. not (is_open (note m)) && (is_some (latest_outcome role m.past) || is_some a)) answer
          ∙ sym (decided-next role m.event m.past);
      last_is = again-kept (accepts_at role) false true c.accepts_first-accepts.result t.position old.last c.keep_again-self.result m (moments m.past) comes.at accepts before.last_is c.keep_again-self.ensures;
      before_is = c.before_at-self.ensures
          ∙ ap (λ b. cond b old.last old.before) opens
          ∙ ap (λ o. cond (is_open (note m)) o old.before) before.last_is
          ∙ ap (λ o. cond (is_open (note m)) (option_map position (latest (accepts_at role) (moments m.past))) o) before.before_is
          ∙ sym (before-next role m.event m.past);
    }
