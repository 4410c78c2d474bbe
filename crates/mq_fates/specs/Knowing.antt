-- What an end couldn't know before the CONNACK. An event of a connection is known where the connection is decided at it or before it.
use Rattle.std.specs.Prelude.{Bool, ◌&&◌, not, Some}
use Rattle.mq_rules.specs.declared.fate.Fate.{Fate}
use Rattle.mq_rules.specs.Connections.{is_untold, begins}

-- it is false, unless the event isn't known and may surprise the end
abbrev pub excused : Bool → Bool → Bool → Bool
excused surprising known broken = broken && not (surprising && not known)

-- at a RELEASE it is known to which session the message belongs
abbrev pub is_placed : Fate → Bool → Bool
is_placed f known = not (is_untold f) && not (begins (Some f) && not known)
