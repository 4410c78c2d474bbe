-- How much each watcher of sessions really keeps: the sum of the lengths of its collections, and of the numbers of values in its tables by Packet Identifiers. A text in them is one item, and its bytes aren't counted.
use Rattle.std.specs.Prelude.{ℕ, ◌+◌, length}
use Rattle.std.specs.List.{sum_by}
use Rattle.indexmap.specs.IndexMap.{index_map_len}
use Rattle.mq_rules.specs.KeptOrder.{ids_kept}
use Rattle.mq_subscriptions.specs.declared.counts.Counts.{Counts}
use Rattle.mq_subscriptions.specs.declared.deletions.Deletions.{Deletions}
use Rattle.mq_subscriptions.specs.declared.grants.Grants.{Grants}
use Rattle.mq_subscriptions.specs.declared.matching.Matching.{Matching}
use Rattle.mq_subscriptions.specs.declared.subs.Deliveries.{Deliveries}
use Rattle.mq_subscriptions.specs.declared.subscribed.Subscriptions.{Subscriptions}
use Rattle.mq_subscriptions.specs.Burden.{at_least_one}
use Rattle.mq_subscriptions.specs.Deletings.{removes_weigh}
use Rattle.mq_subscriptions.specs.Standings.{SessionFilters, waits_weight}

-- the identifiers of packets without their answer
abbrev pub counts_weighs : {R : Type 0} → Counts R → ℕ
counts_weighs s = ids_kept s.counts

-- what SUBSCRIBEs without their answer ask for: an entry for each, with what its first filter asks for, and its other filters
abbrev pub grants_weigh : Grants → ℕ
grants_weigh s = sum_by (λ e. at_least_one (length e.1)) s.wanted.entries

-- filters: those that stand, the topics for which some were looked up, and the SUBSCRIBEs that wait, each with its filters
abbrev pub filters_weigh : SessionFilters → ℕ
filters_weigh f = length f.settled + f.found + sum_by waits_weight f.waiting

-- deliveries: the filters, and the topics by their Topic Alias
abbrev pub deliveries_weigh : Deliveries → ℕ
deliveries_weigh s = filters_weigh s.filters + index_map_len s.topics

-- requests: the filters that they have, the SUBSCRIBEs without their answer, each with its filters, and such UNSUBSCRIBEs, each with its filters and what is kept of these
abbrev pub deletions_weigh : Deletions → ℕ
deletions_weigh s = index_map_len s.states + sum_by (λ e. at_least_one (length e.1.filters)) s.waiting.entries + sum_by (λ e. removes_weigh e.1) s.removing.entries

-- subscriptions: the filters of each kind, those under each Subscription Identifier, and the SUBSCRIBEs without their answer, each with its filters
abbrev pub subscriptions_weigh : Subscriptions → ℕ
subscriptions_weigh s =
    (length s.settled.any + length s.settled.unidentified) + (length s.settled.retained + length s.settled.in_vain) + sum_by (λ e. length e.1) s.settled.identified.entries + sum_by (λ e. at_least_one (length e.1.filters)) s.waiting.entries

-- subscriptions that match: those of the session, and the topics by their Topic Alias
abbrev pub matching_weigh : Matching → ℕ
matching_weigh s = subscriptions_weigh s.subscriptions + index_map_len s.topics
