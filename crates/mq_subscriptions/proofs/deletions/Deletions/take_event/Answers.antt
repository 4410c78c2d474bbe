use Rattle.std.proofs.Common.{ap}
use Rattle.mq_rules.specs.Notes.{note_in, note_of_bare}
use Rattle.mq_rules.specs.Under.{seen}
use Rattle.mq_subscriptions.proofs.SelectingLaws.{deletions-unconcerned}
use Rattle.mq_subscriptions.proofs.deletions.Deletions.take_event.Goals as goal

pub returns-in-Kept-clause-agrees : goal.returns-in-Kept-clause-agrees
returns-in-Kept-clause-agrees c = rw (ap note_in c.in-Kept.is) c.take_noted.ensures.agrees

pub returns-in-Kept-clause-grows : goal.returns-in-Kept-clause-grows
returns-in-Kept-clause-grows c = rw (ap note_in c.in-Kept.is) c.take_noted.ensures.grows

pub returns-in-Kept-clause-memory : goal.returns-in-Kept-clause-memory
returns-in-Kept-clause-memory c = rw (ap note_in c.in-Kept.is) c.take_noted.ensures.memory

pub returns-in-Bare-clause-agrees : goal.returns-in-Bare-clause-agrees
returns-in-Bare-clause-agrees c = rw (ap note_in c.in-Bare.is) (λ tested past under q.
    (c.passes.ensures tested c.args.fate c.args.decided (seen c.args.at (note_of_bare c.in-Bare.field-0)) past (deletions-unconcerned tested c.in-Bare.field-0) under q).stays)

pub returns-in-Bare-clause-grows : goal.returns-in-Bare-clause-grows
returns-in-Bare-clause-grows c = rw (ap note_in c.in-Bare.is) (λ tested past under q.
    (c.passes.ensures tested c.args.fate c.args.decided (seen c.args.at (note_of_bare c.in-Bare.field-0)) past (deletions-unconcerned tested c.in-Bare.field-0) under q).shows c.args.faults.now)
