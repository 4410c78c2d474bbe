-- What is kept of the connections so far, to give the latest one its fate.
use Rattle.std.specs.Prelude.{ℕ, ◌==◌, Bool, true, false, ◌&&◌, ◌||◌, not, cond, List, Option, Some, None, is_some, is_none, option_map}
use Rattle.mq_rules.specs.declared.role.Role.{Role}
use Rattle.mq_rules.specs.declared.role.Role.TheVariants.{Client, Server}
use Rattle.mq_rules.specs.declared.fate.Fate.{Fate}
use Rattle.mq_rules.specs.declared.fate.Fate.TheVariants.{Void, Adrift, New, Forgotten, Resumed, Unasked, Unknown}
use Rattle.mq_rules.specs.declared.note.Note.{Note}
use Rattle.mq_rules.specs.declared.note.Seen.{Seen}
use Rattle.mq_rules.specs.declared.history.History.{History}
use Rattle.mq_rules.specs.Words.{is_some_and}
use Rattle.mq_rules.specs.Notes.{is_open, is_close, decides, sent_item, sent_disconnect}
use Rattle.mq_rules.specs.Moments.{note, some}
use Rattle.mq_rules.specs.Connections.{connection, accepted, resumed, begins, has_accepted, is_unsettled, is_adrift, changes_session, goes_on}
use Rattle.mq_rules.specs.Keeping.{kept, connection_after, is_ordinary}

-- ---- what is kept after these events

unfoldable pub history : Role → List Seen → History
history role past = record {
  connection = kept role past;
  has_accepted = has_accepted role past;
  unsettled = is_unsettled role past;
  adrift = is_adrift role past;
  changed = some (λ m. changes_session (note m)) (connection past);
  gone_on = some (goes_on role) (connection past);
}

-- ---- one more event, by what is kept

-- what the server has answered on the latest connection
abbrev pub answered : History → Option Fate
answered h = cond h.connection.has_begun h.connection.fate (Some Void)

abbrev pub accepts_now : Role → History → Note → Bool
accepts_now role h n = is_none (answered h) && accepted (decides role n)

abbrev pub begins_now : Role → History → Note → Bool
begins_now role h n = accepts_now role h n && (begins (decides role n) || not h.has_accepted)

-- the client asks for a new session
abbrev pub asks_to_begin_now : History → Bool
asks_to_begin_now h = is_some_and (λ c. c.clean_start) h.connection.connect

abbrev pub may_change_now : Role → History → Bool
may_change_now Client h = asks_to_begin_now h
may_change_now Server h = is_some_and (λ c. c.clean_start || h.changed) h.connection.connect

abbrev pub disturbs_now : Role → History → Note → Bool
disturbs_now role h n = is_close n && (is_none (answered h) && may_change_now role h)

abbrev pub leaves_now : Role → History → Note → Bool
leaves_now Server h n = false
leaves_now Client h n = is_close n && (begins (answered h) && (is_some_and (λ c. not c.clean_start) h.connection.connect && not h.gone_on))

abbrev pub goes_on_now : History → Note → Bool
goes_on_now h n = is_some (answered h) && (is_some (sent_item n) && not (is_some (sent_disconnect n)))

abbrev pub resumes_unknown_now : Role → History → Note → Bool
resumes_unknown_now role h n = accepts_now role h n && (resumed (decides role n) && (h.has_accepted && h.unsettled))

abbrev pub unsettled_next : Role → History → Note → Bool
unsettled_next role h n = (disturbs_now role h n || leaves_now role h n) || (not (begins_now role h n) && h.unsettled)

abbrev pub adrift_next : Role → History → Note → Bool
adrift_next role h n = (disturbs_now role h n || resumes_unknown_now role h n) || (not (begins_now role h n) && h.adrift)

abbrev pub history_after : Role → History → Note → History
history_after role h n = record {
  connection = connection_after role h.connection n;
  has_accepted = accepts_now role h n || h.has_accepted;
  unsettled = unsettled_next role h n;
  adrift = adrift_next role h n;
  changed = changes_session n || (not (is_open n) && h.changed);
  gone_on = goes_on_now h n || (not (is_open n) && h.gone_on);
}

-- the event leaves it as it is: an ordinary packet, after the tested end has sent something, that says nothing new of what was sent after the CONNACK, nor of what was received
abbrev pub is_left_by : History → Note → Bool
is_left_by h n = (h.connection.has_sent && is_ordinary n) && ((h.gone_on || not (is_some (sent_item n))) && (h.changed || not (changes_session n)))

-- ---- the fate that it gives

abbrev pub asks_to_resume_now : Role → History → Bool
asks_to_resume_now Client h = is_some_and (λ c. not c.clean_start) h.connection.connect
asks_to_resume_now Server h = false

abbrev pub has_none_now : Role → History → Bool
has_none_now Client h = is_some_and (λ c. c.clean_start) h.connection.connect || not h.connection.was_alive
has_none_now Server h = false

abbrev pub fate_now : Role → History → Note → Fate → Fate
fate_now role h n Void = cond (adrift_next role h n) Adrift Void
fate_now role h n New = cond (asks_to_resume_now role h) Forgotten New
fate_now role h n Resumed = cond (resumes_unknown_now role h n) Unknown (cond (has_none_now role h) Unasked Resumed)
fate_now role h n Adrift = Adrift
fate_now role h n Forgotten = Forgotten
fate_now role h n Unasked = Unasked
fate_now role h n Unknown = Unknown

abbrev pub gives_now : Role → History → Note → Option Fate
gives_now role h n = option_map (fate_now role h n) (decides role n)
