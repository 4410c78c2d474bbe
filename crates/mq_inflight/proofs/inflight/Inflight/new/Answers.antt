use Rattle.std.proofs.Common.{rules, ◌≡◌, Some, None, refl, sym, ◌∙◌}
use Rattle.mq_rules.specs.KeptOrder.{value_under}
use Rattle.mq_inflight.proofs.inflight.Inflight.new.Goals as goal

pub returns : goal.returns
returns c = record {
  same_role = refl;
  same_fate = refl;
  is_ordered = search rules;
  entries_are = search rules;
  delivering_are = search rules;
  stray_are = search rules;
  published_are = search rules;
  void_are = search rules;
  earlier_is = search rules;
  unanswered_are = search rules;
  subscribing_are = search rules;
  unsubscribing_are = search rules;
  resent_is = refl;
  is_ended = refl;
  opened_is = refl;
  same_peer = search rules;
  flying = search rules;
  bounds_are = search rules;
  bounded_is = refl;
  passed_are = λ i o h. absurd (let none : value_under c.new.result i ≡ None = search rules in let bad : None ≡ Some o = sym none ∙ h in cc);
  resent_are = search rules;
}
