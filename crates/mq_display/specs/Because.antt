-- The words on what a fault conflicts with, on its line under its event: by its statement, whether an event is to blame, and the numbers that the statement compares.
use Rattle.std.specs.Prelude.{ℕ, List, [], ◌++◌, codes, decimal, Option, Some, None}
use Rattle.mq_rules.specs.declared.rule.Rule.{Rule}
use Rattle.mq_rules.specs.declared.rule.Rule.TheVariants.{W01, W02, W03, W04, W05, W06, W07, W08, W09, W10, W11, W12, W13, W14, W15, W16, W17, W18, W19, W20, W21, C01, C02, C03, C04, C05, C06, C07, C08, C09, C10, C11, C12, C13, C14, C15, C16, C17, C18, C19, C20, C21, C22, C23, S01, S02, S03, S04, S05, S06, S07, E1A, E1R, E1O, E2A, E2R, E2O, E3A, E3R, E3O, E4A, E4R, E5A, E5R, E6A, E6R, E7R, L1, L2, L3, B01, B02, B03, B04, B05, B06, B07, B08, B09, P01, P02, R01, R02, F01, F02, F03, F04, F05, F06, V03, V04, V06, C24, D01, D02, D03, D05, A01, A02, A03, K01, K02}
use Rattle.mq_rules.specs.declared.evidence.Evidence.{Evidence}
use Rattle.mq_rules.specs.declared.evidence.Numbers.{Numbers}
use Rattle.mq_rules.specs.declared.evidence.Numbers.TheVariants.{Nothing, One, Two}

-- ---- what the event is, after the words `because of event <n>`

-- Without a number. Of a PUBLISH that is sent again, an answer and a release where there may be none, it is what ended the exchange, or the CONNACK that began a new session.
abbrev pub event_words : Rule → List ℕ
event_words W01 = []
event_words W02 = []
event_words W03 = []
event_words W04 = []
event_words W05 = []
event_words W06 = []
event_words W07 = []
event_words W08 = []
event_words W09 = []
event_words W10 = []
event_words W11 = []
event_words W12 = []
event_words W13 = []
event_words W14 = []
event_words W15 = []
event_words W16 = []
event_words W17 = []
event_words W18 = []
event_words W19 = []
event_words W20 = []
event_words W21 = []
event_words C01 = []
event_words C02 = []
event_words C03 = codes ": the first CONNECT"
event_words C04 = []
event_words C05 = []
event_words C06 = codes ": the first CONNACK"
event_words C07 = codes ": the CONNECT, with Clean Start 1"
event_words C08 = codes ": the last CONNACK that accepted, whose session has ended"
event_words C09 = []
event_words C10 = codes ": the CONNECT, with an empty Client Identifier"
event_words C11 = codes ": the DISCONNECT"
event_words C12 = codes ": the CONNACK that refuses"
event_words C13 = codes ": the CONNACK, with Session Present 1"
event_words C14 = []
event_words C15 = []
event_words C16 = []
event_words C17 = []
event_words C18 = []
event_words C19 = []
event_words C20 = []
event_words C21 = codes ": the CONNECT, with Request Problem Information 0"
event_words C22 = codes ": the CONNECT, without Request Response Information 1"
event_words C23 = codes ": it had to close after that"
event_words S01 = codes ": it holds the identifier"
event_words S02 = codes ": the exchange was over with it"
event_words S03 = codes ": the PUBLISH before, on this connection"
event_words S04 = codes ": the PUBREL"
event_words S05 = []
event_words S06 = codes ": the CONNACK that resumed the session"
event_words S07 = []
event_words E1A = codes ": nothing asked for it after that"
event_words E1R = codes ": the REST, with no answer before it"
event_words E1O = codes ": it came first, and waits for its answer"
event_words E2A = codes ": nothing asked for it after that"
event_words E2R = codes ": the REST, with no answer before it"
event_words E2O = codes ": it came first, and waits for its answer"
event_words E3A = codes ": nothing asked for it after that"
event_words E3R = codes ": the REST, with no answer before it"
event_words E3O = codes ": it came first, and waits for its answer"
event_words E4A = codes ": nothing asked for it after that"
event_words E4R = codes ": the REST, with no answer before it"
event_words E5A = codes ": nothing asked for it after that"
event_words E5R = codes ": the REST, with no answer before it"
event_words E6A = codes ": nothing asked for it after that"
event_words E6R = codes ": the REST, with no answer before it"
event_words E7R = []
event_words L1 = codes ": the exchange was over with it"
event_words L2 = codes ": the RELEASE before"
event_words L3 = codes ": the PUBLISH that brought it, and wasn't released"
event_words B01 = []
event_words B02 = []
event_words B03 = []
event_words B04 = []
event_words B05 = codes ": the SUBSCRIBE, which asks for less"
event_words B06 = codes ": the UNSUBSCRIBE, for a filter that was subscribed"
event_words B07 = codes ": the UNSUBSCRIBE, for a filter that was never subscribed"
event_words B08 = []
event_words B09 = codes ": the SUBSCRIBE that matches"
event_words P01 = codes ": the SUBSCRIBE that matches"
event_words P02 = codes ": the SUBSCRIBE that matches"
event_words R01 = codes ": the SUBSCRIBE that matches"
event_words R02 = codes ": the SUBSCRIBE that matches"
event_words F01 = codes ": the CONNACK, with Retain Available 0"
event_words F02 = codes ": the CONNACK, with Wildcard Subscription Available 0"
event_words F03 = codes ": the CONNACK, with Subscription Identifier Available 0"
event_words F04 = codes ": the CONNACK, with Shared Subscription Available 0"
event_words F05 = codes ": the CONNECT, with a Will QoS above the announced maximum"
event_words F06 = codes ": the CONNECT, with Will Retain 1"
event_words V03 = []
event_words V04 = []
event_words V06 = []
event_words C24 = codes ": the REST, with no CONNACK before it"
event_words D01 = codes ": the REST, and the connection was still open"
event_words D02 = codes ": the REST, and the connection was still open"
event_words D03 = codes ": the REST, and the connection was still open"
event_words D05 = codes ": the REST, and the connection was still open"
event_words A01 = codes ": the CONNECT, with an Authentication Method, and no CONNACK before"
event_words A02 = codes ": the CONNECT, without an Authentication Method"
event_words A03 = codes ": the CONNECT, whose Authentication Method it must have"
event_words K01 = []
event_words K02 = []

-- with one number: the Session Expiry Interval in the DISCONNECT (MQTT 5.0, section 3.14.2.2.2)
abbrev pub event_words_on_one : Rule → ℕ → List ℕ
event_words_on_one C20 interval = codes ": the CONNECT, with Session Expiry Interval 0 or none, and here " ++ (decimal interval ++ codes " seconds")
event_words_on_one _ number = []

-- with two numbers: what is, and what is allowed
abbrev pub event_words_on_two : Rule → ℕ → ℕ → List ℕ
event_words_on_two C14 size most = codes ": " ++ (decimal size ++ (codes " bytes, at most " ++ (decimal most ++ codes " allowed")))
event_words_on_two C15 alias most = codes ": Topic Alias " ++ (decimal alias ++ (codes ", at most " ++ (decimal most ++ codes " allowed")))
event_words_on_two C17 qos most = codes ": QoS " ++ (decimal qos ++ (codes ", at most " ++ (decimal most ++ codes " allowed")))
event_words_on_two S05 other own = codes ": first sent as event " ++ (decimal other ++ (codes ", and this one as event " ++ (decimal own ++ codes " before it")))
event_words_on_two S07 count most = codes ": " ++ (decimal count ++ (codes " in flight, at most " ++ (decimal most ++ codes " allowed")))
event_words_on_two E7R asked answered = codes ": " ++ (decimal asked ++ (codes " asked, " ++ (decimal answered ++ codes " answered")))
event_words_on_two B02 qos most = codes ": QoS " ++ (decimal qos ++ (codes ", at most " ++ (decimal most ++ codes " granted")))
event_words_on_two B03 filters reasons = codes ": " ++ (decimal filters ++ (codes " filters, " ++ (decimal reasons ++ codes " Reason Codes")))
event_words_on_two B04 filters reasons = codes ": " ++ (decimal filters ++ (codes " filters, " ++ (decimal reasons ++ codes " Reason Codes")))
event_words_on_two K01 silence limit = codes ": nothing came from the client for " ++ (decimal silence ++ (codes " microseconds, and the limit is " ++ decimal limit))
event_words_on_two K02 silence limit = codes ": nothing came from the client for " ++ (decimal silence ++ (codes " microseconds, and the limit is " ++ decimal limit))
event_words_on_two _ first second = []

-- by the numbers that there are
abbrev pub words_after_event : Rule → Numbers → List ℕ
words_after_event rule Nothing = event_words rule
words_after_event rule (One a) = event_words_on_one rule a
words_after_event rule (Two a b) = event_words_on_two rule a b

-- ---- what is said where no event is to blame

-- Without a number: what never came. Of a packet that is at fault by itself nothing is said that its statement doesn't say.
abbrev pub lone_words : Rule → List ℕ
lone_words W01 = []
lone_words W02 = []
lone_words W03 = []
lone_words W04 = []
lone_words W05 = []
lone_words W06 = []
lone_words W07 = []
lone_words W08 = []
lone_words W09 = []
lone_words W10 = []
lone_words W11 = []
lone_words W12 = []
lone_words W13 = []
lone_words W14 = []
lone_words W15 = []
lone_words W16 = []
lone_words W17 = []
lone_words W18 = []
lone_words W19 = []
lone_words W20 = []
lone_words W21 = []
lone_words C01 = []
lone_words C02 = codes " (no CONNECT was sent before)"
lone_words C03 = []
lone_words C04 = codes " (no CONNECT was received before)"
lone_words C05 = codes " (no CONNACK was sent before)"
lone_words C06 = []
lone_words C07 = []
lone_words C08 = codes " (no session was begun)"
lone_words C09 = []
lone_words C10 = []
lone_words C11 = []
lone_words C12 = []
lone_words C13 = []
lone_words C14 = []
lone_words C15 = []
lone_words C16 = []
lone_words C17 = []
lone_words C18 = []
lone_words C19 = []
lone_words C20 = []
lone_words C21 = []
lone_words C22 = []
lone_words C23 = []
lone_words S01 = []
lone_words S02 = codes " (never sent in this session)"
lone_words S03 = []
lone_words S04 = []
lone_words S05 = []
lone_words S06 = []
lone_words S07 = []
lone_words E1A = codes " (never asked for in this session)"
lone_words E1R = []
lone_words E1O = []
lone_words E2A = codes " (never asked for in this session)"
lone_words E2R = []
lone_words E2O = []
lone_words E3A = codes " (never asked for in this session)"
lone_words E3R = []
lone_words E3O = []
lone_words E4A = codes " (never asked for in this session)"
lone_words E4R = []
lone_words E5A = codes " (never asked for in this session)"
lone_words E5R = []
lone_words E6A = codes " (never asked for in this session)"
lone_words E6R = []
lone_words E7R = []
lone_words L1 = codes " (never received in this session)"
lone_words L2 = []
lone_words L3 = []
lone_words B01 = []
lone_words B02 = []
lone_words B03 = []
lone_words B04 = []
lone_words B05 = []
lone_words B06 = []
lone_words B07 = []
lone_words B08 = []
lone_words B09 = []
lone_words P01 = []
lone_words P02 = []
lone_words R01 = []
lone_words R02 = []
lone_words F01 = []
lone_words F02 = []
lone_words F03 = []
lone_words F04 = []
lone_words F05 = []
lone_words F06 = []
lone_words V03 = []
lone_words V04 = []
lone_words V06 = []
lone_words C24 = []
lone_words D01 = []
lone_words D02 = []
lone_words D03 = []
lone_words D05 = []
lone_words A01 = []
lone_words A02 = []
lone_words A03 = []
lone_words K01 = []
lone_words K02 = []

-- with one number: the Topic Alias; how many Topic Filters stand
abbrev pub lone_words_on_one : Rule → ℕ → List ℕ
lone_words_on_one C16 alias = codes " (Topic Alias " ++ (decimal alias ++ codes " wasn't set on this connection)")
lone_words_on_one B01 filters = codes " (" ++ (decimal filters ++ codes " filters stand, and none matches)")
lone_words_on_one _ number = []

-- with two numbers: what is, and what is allowed if the peer announces nothing (MQTT 5.0, sections 3.1.2.11 and 3.2.2.3)
abbrev pub lone_words_on_two : Rule → ℕ → ℕ → List ℕ
lone_words_on_two C15 alias most = codes " (Topic Alias " ++ (decimal alias ++ (codes ", at most " ++ (decimal most ++ codes " allowed by default)")))
lone_words_on_two S07 count most = codes " (" ++ (decimal count ++ (codes " in flight, at most " ++ (decimal most ++ codes " allowed by default)")))
lone_words_on_two _ first second = []

-- by the numbers that there are
abbrev pub words_alone : Rule → Numbers → List ℕ
words_alone rule Nothing = lone_words rule
words_alone rule (One a) = lone_words_on_one rule a
words_alone rule (Two a b) = lone_words_on_two rule a b

-- ---- the words

-- by the event because of which a position is at fault, if there is one
abbrev pub words_on : Rule → Option ℕ → Numbers → List ℕ
words_on rule None numbers = words_alone rule numbers
words_on rule (Some position) numbers = codes " (because of event " ++ (decimal position ++ (words_after_event rule numbers ++ codes ")"))

-- What a fault of a statement conflicts with.
abbrev pub because_words : Rule → Evidence → List ℕ
because_words rule reason = words_on rule reason.because reason.numbers

-- the same of a fault that may have no reason, of which nothing is said then
abbrev pub reason_words : Rule → Option Evidence → List ℕ
reason_words rule None = []
reason_words rule (Some reason) = because_words rule reason
