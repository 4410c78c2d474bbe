-- How much each watcher of sessions really keeps: the sum of the lengths of its collections, and of the numbers of values in its tables by Packet Identifiers. A text in them is one item, and its bytes aren't counted.
use Rattle.std.specs.Prelude.{ℕ, ◌+◌, length}
use Rattle.mq_rules.specs.KeptOrder.{ids_kept}
use Rattle.mq_exchanges.specs.declared.asked.Asked.{Asked}
use Rattle.mq_exchanges.specs.declared.owed.Owed.{Owed}
use Rattle.mq_exchanges.specs.declared.releases.Releases.{Releases}

-- an exchange: the identifiers with a cause in the session
abbrev pub asked_weighs : {X : Type 0} → Asked X → ℕ
asked_weighs s = ids_kept s.answered

-- an exchange: what is due, and the queue of its order
abbrev pub owed_weighs : {X : Type 0} → Owed X → ℕ
owed_weighs s = ids_kept s.due + length s.queue.items

-- messages of QoS 2: the identifiers that were received, those that were released, and those whose message needs a RELEASE
abbrev pub releases_weighs : Releases → ℕ
releases_weighs s = ids_kept s.brought + ids_kept s.released + ids_kept s.due
