-- Which events concern a watcher of exchanges, of pings or of releases.
use Rattle.std.specs.Prelude.{Bool, ◌||◌, is_some}
use Rattle.mq_rules.specs.declared.note.Note.{Note}
use Rattle.mq_rules.specs.Notes.{is_open, is_rest, is_release, released_id, received_exactly_once, sent_as, ended_in, unmatched_pubrec_in, success_pubcomp_in, is_received_pingreq, is_sent_pingresp}
use Rattle.mq_rules.specs.Exchanges.{Exchange}
use Rattle.mq_fates.specs.Taking.{ends_by}

-- whether answers were asked for
abbrev pub concerns_asked : Exchange → Note → Bool
concerns_asked x n = is_open n || (is_some (x.cause n) || is_some (x.answer n))

-- what is owed
abbrev pub concerns_owed : Exchange → Note → Bool
concerns_owed x n = is_open n || (is_rest n || (ends_by n || (is_some (x.cause n) || is_some (x.answer n))))

abbrev pub concerns_pings : Note → Bool
concerns_pings n = is_open n || (is_rest n || (ends_by n || (is_received_pingreq n || is_sent_pingresp n)))

abbrev pub concerns_releases : Note → Bool
concerns_releases n =
    is_open n || (is_release n || (is_some (released_id n) || (is_some (received_exactly_once n)
    || (is_some (sent_as ended_in n) || (is_some (sent_as unmatched_pubrec_in n) || is_some (sent_as success_pubcomp_in n))))))
