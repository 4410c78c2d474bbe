use Rattle.std.proofs.Common.{subst}
use Rattle.std.specs.Prelude.{OnOk, OnErr}
use Rattle.mq_packet.specs.Reading.{view}
use Rattle.mq_rules.specs.declared.note.Note.{Note}
use Rattle.mq_rules.specs.Notes.{note_of_bare}
use Rattle.mq_judge.specs.Watching.{LeavesOut, TakesIn}
use Rattle.mq_judge.proofs.WatchingLaws.{on_ok}
use Rattle.mq_judge.proofs.watching.Watching.receive_packet.Goals as goal

pub returns-in-Some-clause-ok : goal.returns-in-Some-clause-ok
unfolding note_of_bare
returns-in-Some-clause-ok c =
    subst (λ (n : Note). OnOk c.receive_bare.result (TakesIn c.args.self.now c.receive_bare.new.self c.args.place n)) (c.in-Some.ensures.note c.args.direction c.args.size) c.receive_bare.ensures.ok

pub returns-in-Some-clause-memory : goal.returns-in-Some-clause-memory
unfolding note_of_bare
returns-in-Some-clause-memory c =
    subst (λ (n : Note). OnErr c.receive_bare.result (LeavesOut c.args.self.now c.receive_bare.new.self c.args.place n)) (c.in-Some.ensures.note c.args.direction c.args.size) c.receive_bare.ensures.memory

pub returns-in-Some-clause-tallies : goal.returns-in-Some-clause-tallies
returns-in-Some-clause-tallies c = on_ok c.receive_bare.result _ _ (λ counted. counted (view c.args.packet) (c.in-Some.ensures.tried c.args.size)) c.receive_bare.ensures.tallies
