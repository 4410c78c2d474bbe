use Rattle.std.proofs.Common.{◌≡◌, ◌<◌, ◌+◌, ◌-◌, ℕ, Some, ap, length, arith, subst, sym, ◌∙◌}
use Rattle.std.specs.Prelude.{is_some}
use Rattle.mq_rules.specs.FaultKeys.{FaultMap}
use Rattle.mq_rules.specs.KeptOrder.{IsFirst, found_from, value_under}
use Rattle.mq_rules.proofs.Exports.{under-within}
use Rattle.mq_fates.specs.Judgements.{blamed, Keeps}
use Rattle.mq_fates.proofs.Exports.{blamed-all, blamed-end, blamed-first, blamed-none, keeps_same, keeps_with_fault, left-all, left-first}
use Rattle.mq_exchanges.proofs.owed.blame.Goals as goal

pub loop-init : goal.loop-init
loop-init c = record {
  turns_held = blamed-all c.args.rule c.args.decided (value_under c.args.due.now) c.args.faults.now;
  kept = keeps_same c.args.faults.now;
  within = omega arith;
  counted = let all = left-all (value_under c.args.due.now) in omega (arith, all);
}

-- one fault is added, and those of the identifiers after it are left
pub loop-preserved : goal.loop-preserved
loop-preserved c =
    let due = value_under c.args.due.now in
    let so_far = c.loop.invariant in
    let i = c.from-next.result in
    let place = c.in-Some.place in
    let first : IsFirst due c.loop.next (Some (i, place)) = subst (λ (n : ℕ). IsFirst due c.loop.next (Some (n, place))) (sym c.from-next.ensures) c.in-Some.ensures in
    let small : i < 65536 = under-within c.args.due.now i (ap is_some first.1) in
    let left = left-first due c.loop.next i place so_far.within small first in
    record {
      turns_held =
          ap (blamed c.args.rule c.args.decided (found_from due (i + 1) (65536 - (i + 1)))) c.in_ok-add.ensures.ok
          ∙ sym (blamed-first c.args.rule c.args.decided due c.loop.next i place c.loop.faults so_far.within small first)
          ∙ so_far.turns_held;
      kept = subst (λ (m : FaultMap). Keeps c.args.faults.now m) (sym c.in_ok-add.ensures.ok) (keeps_with_fault c.args.faults.now c.loop.faults _ _ so_far.kept);
      within = omega (arith, small);
      counted = omega (arith, left, so_far.counted);
    }

-- nothing is left
pub returns-in_default-clause-ok : goal.returns-in_default-clause-ok
returns-in_default-clause-ok c = sym (blamed-none c.args.rule c.args.decided (value_under c.args.due.now) c.loop.next c.loop.faults c.in_default.ensures) ∙ c.loop.invariant.turns_held

pub returns-clause-ok : goal.returns-clause-ok
returns-clause-ok c =
    let places = found_from (value_under c.args.due.now) c.loop.next (65536 - c.loop.next) in
    let left : length places ≡ 0 = omega (arith, c.loop.invariant.counted, c.len-end.ensures, c.loop-test.false) in
    sym (blamed-end c.args.rule c.args.decided places c.loop.faults left) ∙ c.loop.invariant.turns_held
