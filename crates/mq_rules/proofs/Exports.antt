-- The laws on statements, moments and faults that the crates above cite. They cite no other file of these proofs.
pub use Rattle.mq_rules.proofs.BareLaws.{bare-closed, bare-unbroken}
pub use Rattle.mq_rules.proofs.BoolLaws.{and-over, and-past, and_false, and_true, both_true, differ, not_true, option_or-none, or-turn, or_false, or_left, or_parts, or_right, same_test, there}
pub use Rattle.mq_rules.proofs.ConnLaws.{connection-next as connection-newest, first_found-next, kept-next, some-next}
pub use Rattle.mq_rules.proofs.CounterLaws.{apart as delivery-apart, full-counted, passes-counted, S07-before, S07-counted, S07-tried, used_up-counted}
pub use Rattle.mq_rules.proofs.DecidedLaws.{decided-fails, decided-within, fault_in-start, fault_in-step}
pub use Rattle.mq_rules.proofs.DropLaws.{fault_in-dropped}
pub use Rattle.mq_rules.proofs.FateLaws.{accepted-gives, begins-gives, begun-least, begun-open, begun-same, connection-next, fate-elsewhere, fate-next, fate-outcome, gives-decides, latest_fate-next, latest_fate-open, latest_fate-same, open-decides}
pub use Rattle.mq_rules.proofs.FatedLaws.{decided-under, fated-known, fated-later, fated-on, fated-open}
pub use Rattle.mq_rules.proofs.FaultKeyLaws.{fault_at-judged, fault_at-with_fault, on_err, same_told}
pub use Rattle.mq_rules.proofs.FoldLaws.{session_since-next, under-next}
pub use Rattle.mq_rules.proofs.GainLaws.{gains_either, gains_in, gains_nothing, gains_same, gains_then, within_all, within_either_first, within_either_second, within_first, within_in, within_nothing, within_same, within_second}
pub use Rattle.mq_rules.proofs.GivenLaws.{begun-closed, begun-open as begun-open-of-given, given-gives, number-within, rest-gives, rest-opens-nothing, rest-undecided}
pub use Rattle.mq_rules.proofs.GrowLaws.{grows-start}
pub use Rattle.mq_rules.proofs.ListingLaws.{entries-listed, listed-ascends, listed-there}
pub use Rattle.mq_rules.proofs.OnOpenLaws.{has_item, on_open-connected, on_open-fold}
pub use Rattle.mq_rules.proofs.OpenLaws.{on_connections}
pub use Rattle.mq_rules.proofs.OrderLaws.{orderly}
pub use Rattle.mq_rules.proofs.PartsLaws.{publish_tried}
pub use Rattle.mq_rules.proofs.PassedLaws.{earlier_over, passed-none, passed-opens, passed-stays, passed_over-back, passed_over-is}
pub use Rattle.mq_rules.proofs.PlacesLaws.{applies-nowhere, applies-step, count-either, count-most, count-same, from-zero, places-most, places-once, places-past, places-start, places-step, places-unbound, unmet}
pub use Rattle.mq_rules.proofs.PlainLaws.{beginning, grows-next, newest-first, next-place, within-beginning, within-next}
pub use Rattle.mq_rules.proofs.PositionLaws.{among-moment, among-some, among-within, earliest_since-is, earliest_since-there, latest-is, moment-among, moment-beginning, moment-newest, moment-older, moment-placed, moments-descend, none-first_found, session-descend, since-stands, some-among, stands-since, those-among, those-descend}
pub use Rattle.mq_rules.proofs.PropertyLaws.{none_from_no_bytes}
pub use Rattle.mq_rules.proofs.SessionLaws.{members-session, session-members}
pub use Rattle.mq_rules.proofs.StepLaws.{fails-kept, fails-nowhere, fails-step, fate-step, moment-newest as moment-newest-of-step, moment-next, moment-stays, moment-within}
pub use Rattle.mq_rules.proofs.SubjectLaws.{in_order-releases, in_order-turns, release-needs, resend-needs, taken-needs}
pub use Rattle.mq_rules.proofs.TurnLaws.{turned, turned_for}
pub use Rattle.mq_rules.proofs.UnderPlacesLaws.{applies-under-step, places-known, places-release, places-session, places-under-most, places-under-start, places-under-step}
pub use Rattle.mq_rules.proofs.WaitingLaws.{places-at-rest, places-awake, places-rest, waiting-most, waiting-next}
pub use Rattle.mq_rules.proofs.HistoryLaws.{begins-is, gives-is, history-left, history-next, session-gives, session-opens}
pub use Rattle.mq_rules.proofs.LateLaws.{in_order-late, late-turns, release-turns, rest-late}
pub use Rattle.mq_rules.proofs.TrialLaws.{bytes-most}
pub use Rattle.mq_rules.proofs.IdentifierCountLaws.{ids-but, ids-none, ids-same, ids-some, some-id, under-within}
pub use Rattle.mq_rules.proofs.KeptOrderLaws.{found_from-first, found_from-none, values-counted}
pub use Rattle.mq_rules.proofs.IdleLaws.{no-connack, no-disconnect, not-connack, not-connect, unchanged}
