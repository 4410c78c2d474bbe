-- What is kept of the events so far to say what isn't judged.
use Rattle.std.specs.Prelude.{◌≡◌, false, List}
use Rattle.mq_log.specs.Events.{Placed}
use Rattle.mq_connections.specs.ByteTallies.{CountsBytes}
use Rattle.mq_rules.specs.declared.note.Seen.{Seen}
use Rattle.mq_rules.specs.declared.role.Tested.{Tested}
use Rattle.mq_rules.specs.Moments.{moments, some}
use Rattle.mq_rules.specs.Connections.{connection, ends_binding, is_binding}
use Rattle.mq_report.specs.declared.report.unjudged.Gap.{Gap}
use Rattle.mq_judge.specs.Unjudged.{shown_in, dropped_in, latest_open, first_sharing}
use Rattle.mq_judge.specs.declared.shown.Shown.{Shown}
use Rattle.mq_judge.specs.declared.tally.Tally.{Tally}
use Rattle.mq_judge.specs.declared.unjudged.Unjudged.{Unjudged}

-- What is kept is this, unless there was no memory for it.
abbrev pub IsShown : Shown → List Gap → Type 0
IsShown kept gaps = kept.is_lacking ≡ false → kept.gaps.items ≡ gaps

-- What is kept is that of these events: what they show; where the latest connection begins; where a shared subscription is first asked for;
-- whether a REST binds; and whether none can on the latest connection any more.
pub record Gathers (kept : Unjudged) (tested : Tested) (past : List Seen) : Type 0 where
  pub shown : IsShown kept.shown (shown_in tested.role past)
  pub opened : kept.opened ≡ latest_open past
  pub shared : kept.shared ≡ first_sharing past
  pub rested : kept.rested ≡ some (is_binding tested.role) (moments past)
  pub ended : kept.ended ≡ some ends_binding (connection past)

-- What is kept is that of these events, the newest first: how often they put the statements on a packet's bytes to the test, and what they drop.
pub record Tallies (kept : Tally) (tested : Tested) (received : List Placed) : Type 0 where
  pub bytes : CountsBytes kept.bytes tested received
  pub dropped : IsShown kept.dropped (dropped_in received)
