use Rattle.std.proofs.Common.{ap, sym, ◌∙◌}
use Rattle.mq_rules.specs.Notes.{note_in}
use Rattle.mq_subscriptions.proofs.matching.Matching.take_event.Goals as goal

pub returns-in-Kept-clause-agrees : goal.returns-in-Kept-clause-agrees
returns-in-Kept-clause-agrees c = rw (ap note_in c.in-Kept.is) c.take_noted.ensures.agrees

pub returns-in-Kept-clause-grows : goal.returns-in-Kept-clause-grows
returns-in-Kept-clause-grows c = rw (ap note_in c.in-Kept.is) c.take_noted.ensures.grows

pub returns-in-Kept-clause-memory : goal.returns-in-Kept-clause-memory
returns-in-Kept-clause-memory c = rw (ap note_in c.in-Kept.is) c.take_noted.ensures.memory

pub returns-in-Bare-clause-agrees : goal.returns-in-Bare-clause-agrees
returns-in-Bare-clause-agrees c = rw (ap note_in c.in-Bare.is ∙ sym c.note-note.ensures) c.take_noted-in-Bare.ensures.agrees

pub returns-in-Bare-clause-grows : goal.returns-in-Bare-clause-grows
returns-in-Bare-clause-grows c = rw (ap note_in c.in-Bare.is ∙ sym c.note-note.ensures) c.take_noted-in-Bare.ensures.grows

pub returns-in-Bare-clause-memory : goal.returns-in-Bare-clause-memory
returns-in-Bare-clause-memory c = rw (ap note_in c.in-Bare.is ∙ sym c.note-note.ensures) c.take_noted-in-Bare.ensures.memory
