-- How often S01 to S06 are put to the test.
use Rattle.std.specs.Prelude.{List, Option}
use Rattle.mq_rules.specs.declared.role.Tested.{Tested}
use Rattle.mq_rules.specs.declared.fate.Fate.{Fate}
use Rattle.mq_rules.specs.declared.note.Seen.{Seen}
use Rattle.mq_inflight.specs.declared.inflight.asking.InflightPlaces.{InflightPlaces}
use Rattle.mq_inflight.specs.Tried.{CountsAtOnce}
use Rattle.mq_inflight.specs.Resumings.{CountsResumed}

-- the counts are those of these events, where their latest connection is taken to have this fate
abbrev pub CountsInflight : InflightPlaces → Tested → Option Fate → List Seen → Type 0
CountsInflight p tested taken past = CountsAtOnce p.at_once tested taken past × CountsResumed p.resumed tested taken past
