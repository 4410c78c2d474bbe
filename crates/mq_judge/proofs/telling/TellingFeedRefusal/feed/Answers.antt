use Rattle.std.proofs.Common.{◌++◌, length, ap, Err, refl, ◌∙◌}
use Rattle.mq_rules.specs.declared.role.Further.{Further}
use Rattle.mq_judge.specs.Runner.{found_in}
use Rattle.mq_judge.proofs.JudgeLaws.{refuses-where-err}
use Rattle.mq_judge.proofs.TellingLaws.{faults-known, told-piece}
use Rattle.mq_judge.proofs.telling.TellingFeedRefusal.feed.Goals as goal

pub returns-in-Ok-clause-follows : goal.returns-in-Ok-clause-follows
returns-in-Ok-clause-follows g c = λ log held.
    let fed = c.in-Ok.ensures.answers log held.0 in (
      fed.1,
      told-piece g.K.Before.further g.K.Before.told (g.P.Progress.told c.args.progress.now) (g.P.Progress.told c.advance.new.self) log c.args.piece.now _ _ held.1 refl
          (c.len-faults.ensures ∙ faults-known c.feed.new.self.further (log ++ c.args.piece.now) _ (c.known.ensures (log ++ c.args.piece.now) fed.1.knows)
          ∙ ap (λ (b : Further). length (found_in b (log ++ c.args.piece.now))) (c.feed.ensures.further ∙ held.3)) c.advance.ensures,
      c.in-Ok.ensures.counts log held.0 ∙ held.2,
      c.feed.ensures.further ∙ held.3,
    )

pub returns-in-Err-clause-stops : goal.returns-in-Err-clause-stops
returns-in-Err-clause-stops g c = λ log held. (
  refuses-where-err log c.args.piece.now c.args.self.now.judge c.feed.new.self (Err c.in-Err.refusal) c.feed.ensures.limit (c.in-Err.ensures.answers log held.0),
  held.1,
)
