use Rattle.std.specs.FinMap as map
use Rattle.mq_rules.specs.FaultKeys.{faults_at}
use Rattle.mq_display.specs.Calendar.{time_words}
use Rattle.mq_display.proofs.ViewLaws.{PutsNotes}
use Rattle.mq_display.proofs.display.annotated.put_notes.Given as goal

abbrev pub invariant-loop-key : goal.invariant-loop-key
invariant-loop-key g l = PutsNotes g.W.Write.contents l.role (time_words l.timed l.place.moment) l.fn.out l.out (faults_at l.place.position (map.entries l.faults)) l.reasons l.key-iterator l.left
