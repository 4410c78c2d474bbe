use Rattle.std.proofs.Common.{subst}
use Rattle.std.specs.Prelude.{OnOk}
use Rattle.mq_rules.specs.declared.note.Note.{Note}
use Rattle.mq_rules.specs.Notes.{note_of_bare}
use Rattle.mq_trail.specs.Following.{TakesIn}
use Rattle.mq_trail.proofs.following.Following.receive_packet.Goals as goal

pub returns-in-Some : goal.returns-in-Some
unfolding note_of_bare
returns-in-Some g c =
    subst (λ (n : Note). OnOk c.take_bare.result (TakesIn g.W.Watch.agrees c.args.self.now.watcher c.take_bare.new.self.watcher c.args.place n)) (c.in-Some.ensures.note c.args.direction c.args.size) c.take_bare.ensures
