use Rattle.std.proofs.Common.{arith}
use Rattle.mq_props.proofs.Exact.{list_read}
use Rattle.mq_props.proofs.Pushes.{keeps_read}
use Rattle.mq_props.proofs.props.all_of.Goals as goal

pub of-requires : goal.of-requires
of-requires c =
    let read = c.in_ok-facts.ensures in
    let listed = list_read c.args.place c.args.at c.args.bytes.now read.0 (λ i. omega (arith, c.type_inv.bytes i)) c.requires.bound read.1 in
    keeps_read c.args.place c.in_ok-facts.facts c.args.bytes.now read.0 listed.1 listed.0 read.2

pub returns-clause-exact : goal.returns-clause-exact
returns-clause-exact c =
    let read = c.in_ok-facts.ensures in
    let same = (list_read c.args.place c.args.at c.args.bytes.now read.0 (λ i. omega (arith, c.type_inv.bytes i)) c.requires.bound read.1).0 in
    rw (c.of.ensures, same) read.1
