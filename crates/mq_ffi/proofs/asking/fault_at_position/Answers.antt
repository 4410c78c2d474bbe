use Rattle.std.proofs.Common.{◌==◌, ap, sym, ◌∙◌, List}
use Rattle.std.specs.FinMap as map
use Rattle.mq_ffi.specs.Asking.{Found, leaves, left_by, nth}
use Rattle.mq_ffi.proofs.AskingLaws.{filters_commute}
use Rattle.mq_ffi.proofs.asking.fault_at_position.Goals as goal

pub loop-key-init : goal.loop-key-init
loop-key-init c =
    ap (λ (xs : List Found). nth (left_by c.args.choice xs) c.args.index) (c.into_iter-key-iterator.ensures.into_iter_gives ∙ c.at-key-items.ensures.rest)
    ∙ ap (λ (xs : List Found). nth xs c.args.index)
    (filters_commute (λ found. leaves c.args.choice found.0.rule) (λ found. found.0.position == c.args.position) (map.entries c.args.faults.now))
