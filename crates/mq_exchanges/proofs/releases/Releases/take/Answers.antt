use Rattle.std.proofs.Common.{false, None, refl, ap, ◌∙◌}
use Rattle.mq_rules.specs.Connections.{accepts}
use Rattle.mq_exchanges.specs.Releasing.{kept_next, due_by, has_id}
use Rattle.mq_exchanges.proofs.releases.Releases.take.Goals as goal

pub returns : goal.returns
returns c =
    let s = c.args.self.now in
    record {
      same_role = refl;
      same_releases = refl;
      same_fate = refl;
      same_accepted = refl;
      brought_are = λ i. c.in_ok-revise.ensures i ∙ ap (λ b. kept_next false b c.args.brings c.args.ender i (has_id s.brought i)) c.accepts-inside.ensures;
      released_are = λ i. c.in_ok-revise-2.ensures i ∙ ap (λ b. kept_next false b None c.args.ender i (has_id s.released i)) c.accepts-inside.ensures;
      due_are = λ i. c.in_ok-revise_due.ensures i
          ∙ ap (λ b. due_by false b c.args.unmatched c.lasting-lasts.result c.args.ender i (has_id s.due i)) c.accepts-inside.ensures
          ∙ ap (λ o. due_by false (accepts s.fate) c.args.unmatched o c.args.ender i (has_id s.due i)) c.lasting-lasts.ensures;
    }
