-- The properties that may be left out, in front of which this identifier and code stand.
use Rattle.std.proofs.lemmas.Result.{err_from_is_err_and}
use Rattle.mq_packet.specs.Entries.{acknowledgement}
use Rattle.mq_packet.proofs.reading.acknowledgement.read_after_code.Goals as goal

pub returns-in_err-properties-clause-read : goal.returns-in_err-properties-clause-read
returns-in_err-properties-clause-read c =
    let p = err_from_is_err_and c.from_residual.result c.from_residual.ensures.1 in
    rw (p.1, p.2) (rw c.place.ensures at (c.in_err-properties.ensures (acknowledgement c.args.kind c.args.identifier c.args.code)))

pub returns-clause-read : goal.returns-clause-read
returns-clause-read c = rw c.place.ensures at (c.in_ok-properties.ensures (acknowledgement c.args.kind c.args.identifier c.args.code))
