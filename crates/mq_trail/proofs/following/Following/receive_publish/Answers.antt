use Rattle.std.proofs.Common.{subst, ◌∙◌}
use Rattle.std.specs.Prelude.{OnOk}
use Rattle.mq_rules.specs.declared.note.Note.{Note}
use Rattle.mq_trail.specs.Following.{TakesIn}
use Rattle.mq_trail.proofs.following.Following.receive_publish.Goals as goal

pub returns : goal.returns
returns g c =
    subst (λ (n : Note). OnOk c.take_bare.result (TakesIn g.W.Watch.agrees c.args.self.now.watcher c.take_bare.new.self.watcher c.args.place n))
    (c.of_publish-bare.ensures.note ∙ c.is_bare.ensures.note c.if-not-is_bare.false c.args.size)
    c.take_bare.ensures
