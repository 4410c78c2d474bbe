use Rattle.std.proofs.Common.{◌≡◌, ◌||◌, ℕ, nat_eq}
use Rattle.std.specs.Prelude.{is_some}
use Rattle.std.specs.List.{list_any}
use Rattle.std.specs.FinMap as map
use Rattle.indexmap.specs.IndexMap.{get}
use Rattle.mq_evidence.specs.Rests.{shows_at}
use Rattle.mq_evidence.proofs.rests.Rests.of.Given as goal

-- with the faults that are left, all are kept
abbrev pub invariant-loop-key : goal.invariant-loop-key
invariant-loop-key l = (p : ℕ) → (list_any (shows_at p) l.key-iterator || is_some (get nat_eq l.connacks p)) ≡ list_any (shows_at p) (map.entries l.fn.faults)
