use Rattle.std.proofs.Common.{refl}
use Rattle.mq_rules.specs.ByIdentifier.{kept}
use Rattle.mq_evidence.specs.Exchange.{exchange_of}
use Rattle.mq_evidence.proofs.UnansweredLaws.{nothing-waits}
use Rattle.mq_evidence.proofs.unanswered.Unanswered.new.Goals as goal

pub returns : goal.returns
returns c = record {
  about = refl;
  in_order = λ descends. nothing-waits (exchange_of c.args.exchange) (kept c.new.result) c.new-2.result.entries c.new.ensures c.new-2.ensures.empty;
}
