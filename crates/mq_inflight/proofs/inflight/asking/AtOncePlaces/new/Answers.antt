use Rattle.std.proofs.Common.{Some, sym}
use Rattle.mq_rules.specs.declared.fate.Fate.TheVariants.{Void}
use Rattle.mq_rules.specs.declared.rule.Rule.TheVariants.{S01, S02, S03, S04, S05}
use Rattle.mq_rules.proofs.Exports.{places-under-start}
use Rattle.mq_inflight.proofs.inflight.asking.AtOncePlaces.new.Goals as goal

pub returns : goal.returns
returns c = λ tested. record {
  taking = sym (places-under-start tested (Some Void) S01);
  resending = sym (places-under-start tested (Some Void) S02);
  repeating = sym (places-under-start tested (Some Void) S03);
  released = sym (places-under-start tested (Some Void) S04);
  ordering = sym (places-under-start tested (Some Void) S05);
}
