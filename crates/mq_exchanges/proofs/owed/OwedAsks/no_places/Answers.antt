use Rattle.std.proofs.Common.{◌≡◌, ◌≤◌, [], length, Some, arith, sym}
use Rattle.mq_rules.specs.declared.fate.Fate.TheVariants.{Void}
use Rattle.mq_rules.specs.Occasions.{places, waiting}
use Rattle.mq_rules.proofs.Exports.{places-most, places-under-start, waiting-most}
use Rattle.mq_exchanges.proofs.owed.OwedAsks.no_places.Goals as goal

pub returns : goal.returns
returns g c = λ tested.
    let x = g.X.Exchange.exchange in
    let settled = g.X.Exchange.settled in
    let none : places tested [] settled ≤ 0 = places-most tested [] settled in
    let idle : waiting tested settled x [] ≤ 0 = waiting-most tested settled x [] in (
      record { places_are = omega arith; waiting_are = λ bound accepting. omega arith },
      λ rule says. sym (places-under-start tested (Some Void) rule),
    )
