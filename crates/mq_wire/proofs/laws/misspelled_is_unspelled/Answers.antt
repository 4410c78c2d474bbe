use Rattle.mq_wire.proofs.MisspelledLaws.{misspelled_none, misspelled_once}
use Rattle.mq_wire.proofs.laws.misspelled_is_unspelled.Goals as goal

pub returns : goal.returns
returns c = record { none = misspelled_none; once = misspelled_once }
