-- Where each statement is put to the test in a log: its places. A statement without faults is worth the more, the more places it has.
use Rattle.std.specs.Prelude.{ℕ, Bool, false, ◌&&◌, not, List, Option, Some, None, is_some}
use Rattle.mq_rules.specs.declared.role.Role.{Role}
use Rattle.mq_rules.specs.declared.role.Tested.{Tested}
use Rattle.mq_rules.specs.declared.fate.Fate.{Fate}
use Rattle.mq_rules.specs.declared.rule.Rule.{Rule}
use Rattle.mq_rules.specs.declared.rule.Rule.TheVariants.{W01, W02, W03, W04, W05, W06, W07, W08, W09, W10, W11, W12, W13, W14, W15, W16, W17, W18, W19, W20, W21, C01, C02, C03, C04, C05, C06, C07, C08, C09, C10, C11, C12, C13, C14, C15, C16, C17, C18, C19, C20, C21, C22, C23, S01, S02, S03, S04, S05, S06, S07, E1A, E1R, E1O, E2A, E2R, E2O, E3A, E3R, E3O, E4A, E4R, E5A, E5R, E6A, E6R, E7R, L1, L2, L3, B01, B02, B03, B04, B05, B06, B07, B08, B09, P01, P02, R01, R02, F01, F02, F03, F04, F05, F06, V03, V04, V06, C24, D01, D02, D03, D05, A01, A02, A03, K01, K02}
use Rattle.mq_rules.specs.declared.note.Seen.{Seen}
use Rattle.mq_rules.specs.Words.{is_some_and}
use Rattle.mq_rules.specs.Moments.{Moment, position, note, moments, moment, is_same, some, count}
use Rattle.mq_rules.specs.Connections.{fate, fate_under, connection}
use Rattle.mq_rules.specs.Pasts.{applies_C01, applies_C02, applies_C03, applies_C04, applies_C05, applies_C06, applies_C07, applies_C08, applies_C09, applies_C10, applies_C11, applies_C12, applies_C13, applies_C14, applies_C15, applies_C16, applies_C17, applies_C18, applies_C19, applies_C20, applies_C21, applies_C22, applies_C23}
use Rattle.mq_rules.specs.FurtherPasts.{applies_F01, applies_F02, applies_F03, applies_F04, applies_F05, applies_F06, applies_V03, applies_V04, applies_V06, applies_A01, applies_A02, applies_A03}
use Rattle.mq_rules.specs.FurtherRests.{applies_C24, applies_D01, applies_D02, applies_D03, applies_D05}
use Rattle.mq_rules.specs.KeepAlive.{applies_K01, applies_K02}
use Rattle.mq_rules.specs.Identifiers.{applies_S01, applies_S02, applies_S03, applies_S04, applies_S05, applies_S06, applies_S07}
use Rattle.mq_rules.specs.Exchanges.{Exchange, first_unanswered, publish_puback, publish_pubrec, pubrec_pubrel, pubrel_pubcomp, subscribe_suback, unsubscribe_unsuback, applies_A, applies_O, applies_R, applies_E7R}
use Rattle.mq_rules.specs.Releases.{applies_L1, applies_L2, applies_L3}
use Rattle.mq_rules.specs.Subscriptions.{applies_B01, applies_B02, applies_B03, applies_B04, applies_B05}
use Rattle.mq_rules.specs.FurtherSubscriptions.{applies_B06, applies_B07}
use Rattle.mq_rules.specs.MatchingSubscriptions.{applies_B08, applies_B09, applies_P01, applies_P02, applies_R01, applies_R02}
use Rattle.mq_rules.specs.Rules.{binds}
use Rattle.mq_rules.specs.Statements.{Statement, on_past, in_session, at_release, at_rest, by_later, knowing, knowing_resumed, where_placed, is_so}
use Rattle.mq_rules.specs.Steps.{shows}
use Rattle.mq_rules.specs.Under.{shows_with}

-- The occasion of each statement: when it is put to the test. It has the shape of the statement, and is judged at the same moments: where a statement isn't judged, since
-- the end couldn't know, or a RELEASE isn't placed, it isn't put to the test. Those on a packet's bytes (W) have none here, since a note doesn't keep the whole packet.
abbrev pub occasion : Role → Rule → Option Statement
occasion role W01 = None
occasion role W02 = None
occasion role W03 = None
occasion role W04 = None
occasion role W05 = None
occasion role W06 = None
occasion role W07 = None
occasion role W08 = None
occasion role W09 = None
occasion role W10 = None
occasion role W11 = None
occasion role W12 = None
occasion role W13 = None
occasion role W14 = None
occasion role W15 = None
occasion role W16 = None
occasion role W17 = None
occasion role W18 = None
occasion role W19 = None
occasion role W20 = None
occasion role W21 = None
occasion role C01 = Some (on_past applies_C01)
occasion role C02 = Some (on_past applies_C02)
occasion role C03 = Some (on_past applies_C03)
occasion role C04 = Some (on_past applies_C04)
occasion role C05 = Some (on_past applies_C05)
occasion role C06 = Some (on_past applies_C06)
occasion role C07 = Some (on_past applies_C07)
occasion role C08 = Some (on_past applies_C08)
occasion role C09 = Some (on_past applies_C09)
occasion role C10 = Some (on_past applies_C10)
occasion role C11 = Some (on_past applies_C11)
occasion role C12 = Some (on_past applies_C12)
occasion role C13 = Some (on_past applies_C13)
occasion role C14 = Some (on_past (applies_C14 role))
occasion role C15 = Some (on_past (applies_C15 role))
occasion role C16 = Some (on_past applies_C16)
occasion role C17 = Some (on_past applies_C17)
occasion role C18 = Some (on_past applies_C18)
occasion role C19 = Some (on_past applies_C19)
occasion role C20 = Some (on_past applies_C20)
occasion role C21 = Some (on_past applies_C21)
occasion role C22 = Some (on_past applies_C22)
occasion role C23 = Some (on_past (applies_C23 role))
occasion role S01 = Some (in_session (knowing_resumed role (applies_S01 role)))
occasion role S02 = Some (in_session (knowing role (applies_S02 role)))
occasion role S03 = Some (in_session (λ f. applies_S03))
occasion role S04 = Some (in_session (applies_S04 role))
occasion role S05 = Some (in_session (applies_S05 role))
occasion role S06 = Some (at_rest (applies_S06 role))
occasion role S07 = Some (in_session (λ f. applies_S07 role))
occasion role E1A = Some (in_session (knowing role (λ f. applies_A publish_puback)))
occasion role E1R = Some (at_rest (applies_R publish_puback))
occasion role E1O = Some (in_session (λ f. applies_O publish_puback))
occasion role E2A = Some (in_session (knowing role (λ f. applies_A publish_pubrec)))
occasion role E2R = Some (at_rest (applies_R publish_pubrec))
occasion role E2O = Some (in_session (λ f. applies_O publish_pubrec))
occasion role E3A = Some (in_session (knowing role (λ f. applies_A pubrec_pubrel)))
occasion role E3R = Some (at_rest (applies_R pubrec_pubrel))
occasion role E3O = Some (in_session (λ f. applies_O pubrec_pubrel))
occasion role E4A = Some (in_session (λ f. applies_A pubrel_pubcomp))
occasion role E4R = Some (at_rest (applies_R pubrel_pubcomp))
occasion role E5A = Some (in_session (λ f. applies_A subscribe_suback))
occasion role E5R = Some (at_rest (applies_R subscribe_suback))
occasion role E6A = Some (in_session (λ f. applies_A unsubscribe_unsuback))
occasion role E6R = Some (at_rest (applies_R unsubscribe_unsuback))
occasion role E7R = Some (in_session (λ f. applies_E7R role))
occasion role L1 = Some (at_release (where_placed role (λ f. applies_L1)))
occasion role L2 = Some (at_release (where_placed role (λ f. applies_L2)))
occasion role L3 = Some (in_session (applies_L3 role))
occasion role B01 = Some (in_session (applies_B01 role))
occasion role B02 = Some (in_session (applies_B02 role))
occasion role B03 = Some (in_session (λ f. applies_B03))
occasion role B04 = Some (in_session (λ f. applies_B04))
occasion role B05 = Some (in_session (λ f. applies_B05))
occasion role B06 = Some (in_session (applies_B06 role))
occasion role B07 = Some (in_session (applies_B07 role))
occasion role B08 = Some (in_session (applies_B08 role))
occasion role B09 = Some (in_session (applies_B09 role))
occasion role P01 = Some (in_session (applies_P01 role))
occasion role P02 = Some (in_session (applies_P02 role))
occasion role R01 = Some (in_session (applies_R01 role))
occasion role R02 = Some (in_session (applies_R02 role))
occasion role F01 = Some (on_past applies_F01)
occasion role F02 = Some (on_past applies_F02)
occasion role F03 = Some (on_past applies_F03)
occasion role F04 = Some (on_past applies_F04)
occasion role F05 = Some (on_past applies_F05)
occasion role F06 = Some (on_past applies_F06)
occasion role V03 = Some (on_past applies_V03)
occasion role V04 = Some (on_past applies_V04)
occasion role V06 = Some (on_past (applies_V06 role))
occasion role C24 = Some (by_later applies_C24)
occasion role D01 = Some (by_later applies_D01)
occasion role D02 = Some (by_later applies_D02)
occasion role D03 = Some (by_later applies_D03)
occasion role D05 = Some (by_later applies_D05)
occasion role A01 = Some (on_past applies_A01)
occasion role A02 = Some (on_past (applies_A02 role))
occasion role A03 = Some (on_past (applies_A03 role))
occasion role K01 = Some (on_past applies_K01)
occasion role K02 = Some (on_past applies_K02)

-- what an occasion says is so at position k of the log, if connections have these fates
abbrev pub occurs : Role → (ℕ → Option Fate) → Option Statement → List Seen → ℕ → Bool
occurs role fates None log k = false
occurs role fates (Some s) log k = is_so role fates s log k

-- The statement binds the tested end, and is put to the test at position k of the log: that is a place of it.
unfoldable pub applies : Tested → List Seen → ℕ → Rule → Bool
applies tested log k rule = binds rule tested && occurs tested.role (λ c. fate tested.role c log) (occasion tested.role rule) log k

-- How many places a statement has in the log.
unfoldable pub places : Tested → List Seen → Rule → ℕ
places tested log rule = count (λ m. applies tested log (position m) rule) (moments log)

-- ---- one event more

-- With this event an occasion turns out to be so at position k.
abbrev pub comes : Role → Option Statement → Seen → List Seen → ℕ → Bool
comes role None e past k = false
comes role (Some s) e past k = shows role s e past k

-- With this event position k turns out to be a place of the statement.
unfoldable pub adds_place : Tested → Seen → List Seen → ℕ → Rule → Bool
adds_place tested e past k rule = binds rule tested && comes tested.role (occasion tested.role rule) e past k

-- ---- where the latest connection is taken to have a fate

-- The statement binds the tested end, and is put to the test at position k of the log, if the latest connection is taken to have this fate, or none yet.
unfoldable pub applies_under : Tested → Option Fate → List Seen → ℕ → Rule → Bool
applies_under tested f log k rule = binds rule tested && occurs tested.role (fate_under tested.role f log) (occasion tested.role rule) log k

-- How many places it then has.
unfoldable pub places_under : Tested → Option Fate → List Seen → Rule → ℕ
places_under tested f log rule = count (λ m. applies_under tested f log (position m) rule) (moments log)

-- With this event, whose connection has this fate, an occasion on a session turns out to be so at position k.
abbrev pub comes_with : Role → Fate → Option Statement → Seen → List Seen → ℕ → Bool
comes_with role f None e past k = false
comes_with role f (Some s) e past k = shows_with role f s e past k

-- With this event, whose connection has this fate, position k turns out to be a place of the statement.
unfoldable pub adds_place_with : Tested → Fate → Seen → List Seen → ℕ → Rule → Bool
adds_place_with tested f e past k rule = binds rule tested && comes_with tested.role f (occasion tested.role rule) e past k

-- ---- causes that wait for a REST

-- the moment is a cause before which none under its identifier is unanswered
abbrev pub is_first : Exchange → Moment → Bool
is_first x m = is_some_and (λ i. not (is_some (first_unanswered x i m))) (x.cause (note m))

-- at position k of the log is such a cause, on the latest connection
abbrev pub is_first_here : Exchange → List Seen → ℕ → Bool
is_first_here x log k = is_some_and (λ m. is_first x m && some (is_same m) (connection log)) (moment log k)

-- How many of these there are which no REST has put to the test yet, for the statement that each cause is answered before a REST.
unfoldable pub waiting : Tested → Rule → Exchange → List Seen → ℕ
waiting tested rule x log = count (λ m. is_first_here x log (position m) && not (applies tested log (position m) rule)) (moments log)
