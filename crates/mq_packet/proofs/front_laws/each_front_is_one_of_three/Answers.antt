-- What stands at the front of a stream is what is cut there.
use Rattle.mq_packet.specs.declared.frame.Cut.TheVariants.{Need, Frame, Lost}
use Rattle.mq_packet.proofs.FrontLaws.{cut_exactly, never_exactly, one_front}
use Rattle.mq_packet.proofs.front_laws.each_front_is_one_of_three.Goals as goal

pub returns-clause-need : goal.returns-clause-need
returns-clause-need c = λ bytes known. cut_exactly bytes known Need

pub returns-clause-frame : goal.returns-clause-frame
returns-clause-frame c = λ bytes first start end known. cut_exactly bytes known (Frame first start end)

pub returns-clause-lost : goal.returns-clause-lost
returns-clause-lost c = λ bytes known. cut_exactly bytes known Lost

pub returns-clause-never : goal.returns-clause-never
returns-clause-never c = never_exactly

pub returns-clause-one : goal.returns-clause-one
returns-clause-one c = one_front
