use Rattle.std.proofs.Common.{[], refl, arith, ◌≤◌}
use Rattle.mq_rules.specs.declared.rule.Rule.TheVariants.{S06}
use Rattle.mq_rules.specs.Occasions.{places}
use Rattle.mq_rules.proofs.Exports.{places-most}
use Rattle.mq_inflight.proofs.inflight.resuming.ResumedPlaces.new.Goals as goal

pub returns : goal.returns
returns c = λ tested.
    let none : places tested [] S06 ≤ 0 = places-most tested [] S06 in
    record {
      places_are = omega (arith, none);
      due_are = λ r. refl;
      fresh_are = refl;
      opened_are = refl;
      settled_is = λ m h t. absurd h;
      settled_within = omega arith;
    }
