use Rattle.std.proofs.Common.{ap, sym, ◌∙◌}
use Rattle.mq_rules.specs.Notes.{note_in}
use Rattle.mq_subscriptions.proofs.matching.Matching.tested_by.Goals as goal

pub returns-in-Kept : goal.returns-in-Kept
returns-in-Kept c = rw (ap note_in c.in-Kept.is) c.judge.ensures

pub returns-in-Bare : goal.returns-in-Bare
returns-in-Bare c = rw (ap note_in c.in-Bare.is ∙ sym c.note.ensures) c.judge-in-Bare.ensures
