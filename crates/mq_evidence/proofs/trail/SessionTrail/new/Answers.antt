use Rattle.std.proofs.Common.{refl, Some}
use Rattle.mq_rules.specs.declared.fate.Fate.TheVariants.{Void}
use Rattle.mq_evidence.proofs.trail.SessionTrail.new.Goals as goal

pub returns-clause-agrees : goal.returns-clause-agrees
returns-clause-agrees c = record {
  same_role = refl;
  any_are = c.new.ensures c.args.tested;
  begun_is = c.new-2.ensures;
  handshake_is = c.new-3.ensures;
  counters_are = c.new-4.ensures;
  senders_are = c.new-5.ensures;
  answering_are = c.new-6.ensures;
  waiting_are = c.new-7.ensures;
  received_are = c.new-8.ensures;
  overtaking_is = c.new-9.ensures c.args.tested.role (Some Void);
  subscriptions_are = c.kept_if.ensures.agrees;
  matching_are = c.matching_if.ensures.agrees;
}
