-- Which events concern a watcher of what is sent under Packet Identifiers.
use Rattle.std.specs.Prelude.{Bool, ◌||◌, is_some}
use Rattle.mq_rules.specs.declared.role.Tested.{Tested}
use Rattle.mq_rules.specs.declared.note.Note.{Note}
use Rattle.mq_rules.specs.Notes.{is_open, is_boundary, is_rest, sent_as, received_as, delivery_of, closer_of, opener_of, resend_of, pubrel_in, accepting_pubrec_in, subscribe_in, suback_in, unsubscribe_in, unsuback_in}
use Rattle.mq_fates.specs.Taking.{ends_by, announced}
use Rattle.mq_inflight.specs.Resending.{bounds_by}

abbrev pub concerns_quota : Tested → Note → Bool
concerns_quota tested n = is_open n || (is_some (announced tested.role n) || (is_some (delivery_of n) || is_some (closer_of n)))

-- a PUBLISH of QoS above 0, or what opens, sets free or waits for an identifier
abbrev pub moves_identifiers : Note → Bool
moves_identifiers n =
    (is_some (delivery_of n) || (is_some (closer_of n) || (is_some (opener_of n) || is_some (resend_of n))))
    || ((is_some (sent_as pubrel_in n) || is_some (received_as accepting_pubrec_in n))
    || ((is_some (sent_as subscribe_in n) || is_some (received_as suback_in n)) || (is_some (sent_as unsubscribe_in n) || is_some (received_as unsuback_in n))))

abbrev pub concerns_flight : Tested → Note → Bool
concerns_flight tested n = is_boundary n || (is_rest n || (ends_by n || (moves_identifiers n || (is_some (announced tested.role n) || is_some (bounds_by tested.role n)))))
