use Rattle.std.proofs.Common.{◌≡◌, arith, ap, ◌∙◌}
use Rattle.std.specs.List.{sum_by}
use Rattle.mq_rules.specs.Connections.{latest_fate}
use Rattle.mq_fates.specs.Holding.{settled, event_size, waiting}
use Rattle.mq_fates.proofs.WaitLaws.{held-waiting}
use Rattle.mq_fates.proofs.early.EarlyWatch.weight.Goals as goal

pub returns-clause-bounded : goal.returns-clause-bounded
returns-clause-bounded g c = λ tested taken past h.
    let s = c.args.self.now in
    let held : sum_by (λ e. event_size e.note) c.as_slice.result.now ≡ waiting tested.role past = ap (sum_by (λ e. event_size e.note)) c.as_slice.ensures.value ∙ held-waiting (g.W.Fated.agrees s.watcher tested) s.role s.fate s.history s.held.items tested past h in
    let rest = c.weight.ensures.bounded tested (latest_fate tested.role (settled tested.role past)) (settled tested.role past) h.so_far in
    omega (arith, c.saturating_add.ensures, c.held_size.ensures, held, rest)
