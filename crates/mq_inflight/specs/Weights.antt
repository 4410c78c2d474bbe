-- How much each watcher of sessions really keeps: the sum of the lengths of its collections, and of the numbers of values in its tables by Packet Identifiers. A text in them is one item, and its bytes aren't counted.
use Rattle.std.specs.Prelude.{ℕ, ◌+◌}
use Rattle.indexmap.specs.IndexSet.{index_set_len}
use Rattle.mq_rules.specs.KeptOrder.{ids_kept}
use Rattle.mq_inflight.specs.declared.inflight.Inflight.{Inflight}

-- what is sent: the identifiers that are open, those in delivery beside them, those without an answer on a resumed connection,
-- those of void connections, those that a client used before the session began, and those of SUBSCRIBEs and of UNSUBSCRIBEs without an answer
abbrev pub inflight_weighs : Inflight → ℕ
inflight_weighs s =
    ids_kept s.entries + index_set_len s.stray + index_set_len s.unanswered + index_set_len s.void
    + index_set_len s.earlier.first + index_set_len s.subscribing + index_set_len s.unsubscribing
