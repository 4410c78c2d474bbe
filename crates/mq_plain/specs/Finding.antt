-- What looking back has found.
use Rattle.std.specs.Prelude.{Option, option_map, reverse}
use Rattle.mq_rules.specs.Moments.{Moment, newest}
use Rattle.mq_plain.specs.declared.earliest.Found.{Found}

-- the moment of an event that was found
abbrev pub moment_of : Found → Moment
moment_of found = newest found.event.now (reverse found.before.now)

abbrev pub moment_in : Option Found → Option Moment
moment_in found = option_map moment_of found
