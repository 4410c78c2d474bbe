use Rattle.std.proofs.Common.{sym, ◌∙◌}
use Rattle.mq_rules.specs.KeptOrder.{value_under}
use Rattle.mq_rules.proofs.Exports.{under-within}
use Rattle.mq_inflight.specs.Using.{is_taken}
use Rattle.mq_inflight.proofs.ValuesLaws.{passes-value, passing-there}
use Rattle.mq_inflight.proofs.inflight.asking.is_any_taken.Goals as goal

pub returns-then-is_held : goal.returns-then-is_held
returns-then-is_held c =
    let test = is_taken c.args.since in
    let held = sym c.is_held.ensures ∙ c.if-is_held.true in
    sym (passes-value test _ (value_under c.args.entries.now) (under-within c.args.entries.now _ (passing-there test _ held)) held)
