-- The chosen statements of MQTT 5.0: one line each, and where each is false.
use Rattle.std.specs.Prelude.{ℕ, Bool, true, false, ◌&&◌, not, List, Option, Some}
use denote.Enum.Bare.{sameb}
use Rattle.mq_packet.specs.declared.rule.PacketRule.{PacketRule}
use Rattle.mq_packet.specs.declared.rule.PacketRule.TheVariants as packets
use Rattle.mq_packet.specs.contracts.rule.PacketRule.{the_type}
use Rattle.mq_rules.specs.declared.role.Role.{Role}
use Rattle.mq_rules.specs.declared.role.Tested.{Tested}
use Rattle.mq_rules.specs.declared.fate.Fate.{Fate}
use Rattle.mq_rules.specs.declared.rule.Rule.{Rule}
use Rattle.mq_rules.specs.declared.rule.Rule.TheVariants.{W01, W02, W03, W04, W05, W06, W07, W08, W09, W10, W11, W12, W13, W14, W15, W16, W17, W18, W19, W20, W21, C01, C02, C03, C04, C05, C06, C07, C08, C09, C10, C11, C12, C13, C14, C15, C16, C17, C18, C19, C20, C21, C22, C23, S01, S02, S03, S04, S05, S06, S07, E1A, E1R, E1O, E2A, E2R, E2O, E3A, E3R, E3O, E4A, E4R, E5A, E5R, E6A, E6R, E7R, L1, L2, L3, B01, B02, B03, B04, B05, B06, B07, B08, B09, P01, P02, R01, R02, F01, F02, F03, F04, F05, F06, V03, V04, V06, C24, D01, D02, D03, D05, A01, A02, A03, K01, K02}
use Rattle.mq_rules.specs.declared.note.Seen.{Seen}
use Rattle.mq_rules.specs.Words.{is_some_and}
use Rattle.mq_rules.specs.Notes.{sent_fault}
use Rattle.mq_rules.specs.Moments.{Moment, note, moments, moment, some, is_after}
use Rattle.mq_rules.specs.Connections.{number, fate, fate_under, accepts, is_beside, is_binding, couldnt_know, couldnt_know_resumed, is_placed_release}
use Rattle.mq_rules.specs.Pasts.{breaks_C01, breaks_C02, breaks_C03, breaks_C04, breaks_C05, breaks_C06, breaks_C07, breaks_C08, breaks_C09, breaks_C10, breaks_C11, breaks_C12, breaks_C13, breaks_C14, breaks_C15, breaks_C16, breaks_C17, breaks_C18, breaks_C19, breaks_C20, breaks_C21, breaks_C22, breaks_C23}
use Rattle.mq_rules.specs.FurtherPasts.{breaks_F01, breaks_F02, breaks_F03, breaks_F04, breaks_F05, breaks_F06, breaks_V03, breaks_V04, breaks_V06, breaks_A01, breaks_A02, breaks_A03}
use Rattle.mq_rules.specs.FurtherRests.{shows_C24, shows_D01, shows_D02, shows_D03, shows_D05}
use Rattle.mq_rules.specs.KeepAlive.{breaks_K01, breaks_K02}
use Rattle.mq_rules.specs.Identifiers.{breaks_S01, breaks_S02, breaks_S03, breaks_S04, breaks_S05, shows_S06, breaks_S07}
use Rattle.mq_rules.specs.Exchanges.{publish_puback, publish_pubrec, pubrec_pubrel, pubrel_pubcomp, subscribe_suback, unsubscribe_unsuback, breaks_A, breaks_O, shows_R, breaks_E7R}
use Rattle.mq_rules.specs.Releases.{breaks_L1, breaks_L2, breaks_L3}
use Rattle.mq_rules.specs.Subscriptions.{breaks_B01, breaks_B02, breaks_B03, breaks_B04, breaks_B05}
use Rattle.mq_rules.specs.FurtherSubscriptions.{breaks_B06, breaks_B07}
use Rattle.mq_rules.specs.MatchingSubscriptions.{breaks_B08, breaks_B09, breaks_P01, breaks_P02, breaks_R01, breaks_R02}
use Rattle.mq_rules.specs.Rules.{binds, is_further, is_on_times}

-- the bytes that the tested end sent break this packet rule
unfoldable pub breaks_bytes : PacketRule → Moment → Bool
breaks_bytes rule m = is_some_and (λ fault. sameb the_type rule fault.rule) (sent_fault (note m))

-- Where a statement is judged, and what makes it false there.
pub data Statement : Type 0 where
  -- by the bytes of one packet, wherever it was sent
  on_bytes : PacketRule → Statement
  -- by the past of a connection, at a moment of any connection
  on_past : (Moment → Bool) → Statement
  -- by the past of a session, at a moment of an accepted connection, which has this fate
  in_session : (Fate → Moment → Bool) → Statement
  -- by the past of a session, at a RELEASE; f is the fate of the latest connection, Void before the first
  at_release : (Fate → Moment → Bool) → Statement
  -- by the past of a session, at the second moment, as the first one shows, which is a later binding REST
  at_rest : (Moment → Moment → Bool) → Statement
  -- by the past of a connection, at the second moment, as the first one shows, which is a later one of that connection
  by_later : (Moment → Moment → Bool) → Statement

-- a predicate on a session, but where a client couldn't know of what it breaks; or couldn't know that a session is resumed; or where it isn't known to which session a RELEASE belongs
abbrev pub knowing : Role → (Fate → Moment → Bool) → Fate → Moment → Bool
knowing role breaks f m = breaks f m && not (couldnt_know role f m)

-- a predicate on answers: one that may be sent before the CONNACK is no fault where the end couldn't know
abbrev pub if_early : Bool → Role → (Fate → Moment → Bool) → Fate → Moment → Bool
if_early true role breaks = knowing role breaks
if_early false role breaks = breaks

abbrev pub knowing_resumed : Role → (Fate → Moment → Bool) → Fate → Moment → Bool
knowing_resumed role breaks f m = breaks f m && not (couldnt_know_resumed role f m)

abbrev pub where_placed : Role → (Fate → Moment → Bool) → Fate → Moment → Bool
where_placed role breaks f m = breaks f m && is_placed_release role f m

-- The statements.
abbrev pub statement : Role → Rule → Statement
statement role W01 = on_bytes packets.W01
statement role W02 = on_bytes packets.W02
statement role W03 = on_bytes packets.W03
statement role W04 = on_bytes packets.W04
statement role W05 = on_bytes packets.W05
statement role W06 = on_bytes packets.W06
statement role W07 = on_bytes packets.W07
statement role W08 = on_bytes packets.W08
statement role W09 = on_bytes packets.W09
statement role W10 = on_bytes packets.W10
statement role W11 = on_bytes packets.W11
statement role W12 = on_bytes packets.W12
statement role W13 = on_bytes packets.W13
statement role W14 = on_bytes packets.W14
statement role W15 = on_bytes packets.W15
statement role W16 = on_bytes packets.W16
statement role W17 = on_bytes packets.W17
statement role W18 = on_bytes packets.W18
statement role W19 = on_bytes packets.W19
statement role W20 = on_bytes packets.W20
statement role W21 = on_bytes packets.W21
statement role C01 = on_past (breaks_C01 role)
statement role C02 = on_past breaks_C02
statement role C03 = on_past breaks_C03
statement role C04 = on_past breaks_C04
statement role C05 = on_past breaks_C05
statement role C06 = on_past breaks_C06
statement role C07 = on_past breaks_C07
statement role C08 = on_past breaks_C08
statement role C09 = on_past breaks_C09
statement role C10 = on_past breaks_C10
statement role C11 = on_past breaks_C11
statement role C12 = on_past breaks_C12
statement role C13 = on_past breaks_C13
statement role C14 = on_past (breaks_C14 role)
statement role C15 = on_past (breaks_C15 role)
statement role C16 = on_past breaks_C16
statement role C17 = on_past breaks_C17
statement role C18 = on_past breaks_C18
statement role C19 = on_past breaks_C19
statement role C20 = on_past breaks_C20
statement role C21 = on_past breaks_C21
statement role C22 = on_past breaks_C22
statement role C23 = on_past (breaks_C23 role)
statement role S01 = in_session (knowing_resumed role (breaks_S01 role))
statement role S02 = in_session (knowing role (breaks_S02 role))
statement role S03 = in_session (λ f. breaks_S03)
statement role S04 = in_session (breaks_S04 role)
statement role S05 = in_session (breaks_S05 role)
statement role S06 = at_rest (shows_S06 role)
statement role S07 = in_session (λ f. breaks_S07 role)
statement role E1A = in_session (knowing role (breaks_A publish_puback role))
statement role E1R = at_rest (shows_R publish_puback)
statement role E1O = in_session (λ f. breaks_O publish_puback)
statement role E2A = in_session (knowing role (breaks_A publish_pubrec role))
statement role E2R = at_rest (shows_R publish_pubrec)
statement role E2O = in_session (λ f. breaks_O publish_pubrec)
statement role E3A = in_session (knowing role (breaks_A pubrec_pubrel role))
statement role E3R = at_rest (shows_R pubrec_pubrel)
statement role E3O = in_session (λ f. breaks_O pubrec_pubrel)
statement role E4A = in_session (breaks_A pubrel_pubcomp role)
statement role E4R = at_rest (shows_R pubrel_pubcomp)
statement role E5A = in_session (breaks_A subscribe_suback role)
statement role E5R = at_rest (shows_R subscribe_suback)
statement role E6A = in_session (breaks_A unsubscribe_unsuback role)
statement role E6R = at_rest (shows_R unsubscribe_unsuback)
statement role E7R = in_session (λ f. breaks_E7R role)
statement role L1 = at_release (where_placed role (breaks_L1 role))
statement role L2 = at_release (where_placed role (breaks_L2 role))
statement role L3 = in_session (breaks_L3 role)
statement role B01 = in_session (breaks_B01 role)
statement role B02 = in_session (breaks_B02 role)
statement role B03 = in_session (λ f. breaks_B03)
statement role B04 = in_session (λ f. breaks_B04)
statement role B05 = in_session (λ f. breaks_B05)
statement role B06 = in_session (breaks_B06 role)
statement role B07 = in_session (breaks_B07 role)
statement role B08 = in_session (breaks_B08 role)
statement role B09 = in_session (breaks_B09 role)
statement role P01 = in_session (breaks_P01 role)
statement role P02 = in_session (breaks_P02 role)
statement role R01 = in_session (breaks_R01 role)
statement role R02 = in_session (breaks_R02 role)
statement role F01 = on_past breaks_F01
statement role F02 = on_past breaks_F02
statement role F03 = on_past breaks_F03
statement role F04 = on_past breaks_F04
statement role F05 = on_past breaks_F05
statement role F06 = on_past breaks_F06
statement role V03 = on_past breaks_V03
statement role V04 = on_past breaks_V04
statement role V06 = on_past (breaks_V06 role)
statement role C24 = by_later shows_C24
statement role D01 = by_later shows_D01
statement role D02 = by_later shows_D02
statement role D03 = by_later shows_D03
statement role D05 = by_later shows_D05
statement role A01 = on_past breaks_A01
statement role A02 = on_past (breaks_A02 role)
statement role A03 = on_past (breaks_A03 role)
statement role K01 = on_past breaks_K01
statement role K02 = on_past breaks_K02

-- a statement on a packet's bytes, and one on the past of a connection
abbrev pub is_by_bytes : Statement → Bool
is_by_bytes (on_bytes rule) = true
is_by_bytes (on_past breaks) = false
is_by_bytes (in_session breaks) = false
is_by_bytes (at_release breaks) = false
is_by_bytes (at_rest shows) = false
is_by_bytes (by_later shows) = false

abbrev pub is_by_past : Statement → Bool
is_by_past (on_bytes rule) = false
is_by_past (on_past breaks) = true
is_by_past (in_session breaks) = false
is_by_past (at_release breaks) = false
is_by_past (at_rest shows) = false
is_by_past (by_later shows) = false

-- one that a later moment of the connection shows
abbrev pub is_by_later : Statement → Bool
is_by_later (on_bytes rule) = false
is_by_later (on_past breaks) = false
is_by_later (in_session breaks) = false
is_by_later (at_release breaks) = false
is_by_later (at_rest shows) = false
is_by_later (by_later shows) = true

abbrev pub is_on_bytes : Tested → Rule → Bool
is_on_bytes tested rule = is_by_bytes (statement tested.role rule)

-- one on the past of a connection that is always judged; a further one that needs no times; and one on times
abbrev pub is_on_past : Tested → Rule → Bool
is_on_past tested rule = is_by_past (statement tested.role rule) && not (is_further rule)

abbrev pub is_on_further : Tested → Rule → Bool
is_on_further tested rule = is_by_past (statement tested.role rule) && (is_further rule && not (is_on_times rule))

abbrev pub is_on_clock : Tested → Rule → Bool
is_on_clock tested rule = is_by_past (statement tested.role rule) && is_on_times rule

abbrev pub is_on_later : Tested → Rule → Bool
is_on_later tested rule = is_by_later (statement tested.role rule)

-- it is so at the moment under its connection's fate, if that is decided
abbrev pub is_so_under : (Fate → Moment → Bool) → Moment → Option Fate → Bool
is_so_under test m f = is_some_and (λ d. test d m) f

abbrev pub where_accepted : (Fate → Moment → Bool) → Fate → Moment → Bool
where_accepted breaks f m = accepts f && breaks f m

-- Whether it is so at position k of the log, if connections have these fates: a statement is false there.
abbrev pub is_so : Role → (ℕ → Option Fate) → Statement → List Seen → ℕ → Bool
is_so role fates (on_bytes rule) log k = is_some_and (breaks_bytes rule) (moment log k)
is_so role fates (on_past breaks) log k = is_some_and breaks (moment log k)
is_so role fates (in_session breaks) log k = is_some_and (λ m. is_so_under (where_accepted breaks) m (fates (number m))) (moment log k)
is_so role fates (at_release breaks) log k = is_some_and (λ m. is_so_under breaks m (fates (number m))) (moment log k)
is_so role fates (at_rest shows) log k = is_some_and (λ m. some (λ t. is_after t m && (is_binding role t && shows t m)) (moments log)) (moment log k)
is_so role fates (by_later shows) log k = is_some_and (λ m. some (λ t. is_after t m && (is_beside t m && shows t m)) (moments log)) (moment log k)

-- The statement binds the tested end, and is false at position k of the log.
unfoldable pub fails : Tested → List Seen → ℕ → Rule → Bool
fails tested log k rule = binds rule tested && is_so tested.role (λ c. fate tested.role c log) (statement tested.role rule) log k

-- The same, if the latest connection is taken to have this fate.
unfoldable pub fails_under : Tested → Fate → List Seen → ℕ → Rule → Bool
fails_under tested f log k rule = binds rule tested && is_so tested.role (fate_under tested.role (Some f) log) (statement tested.role rule) log k
