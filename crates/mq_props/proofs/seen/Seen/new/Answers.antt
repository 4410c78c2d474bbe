use Rattle.std.proofs.lemmas.Nat.Bits.{bit_at-zero}
use Rattle.mq_props.proofs.seen.Seen.new.Goals as goal

pub returns : goal.returns
returns c = record { same = bit_at-zero }
