use Rattle.std.proofs.lemmas.Nat.Bits.{shr_and_one}
use Rattle.mq_props.specs.Allowed.{occurs_in}
use Rattle.mq_props.proofs.SeenLemmas.{bit_test}
use Rattle.mq_props.proofs.seen.Seen.has.Goals as goal

pub returns : goal.returns
returns c = λ ps sees. rw (shr_and_one c.args.self.bits c.args.id, sees.same c.args.id) (bit_test (occurs_in c.args.id ps))
