use Rattle.mq_judge.specs.Unjudged.{shown_in}
use Rattle.mq_judge.proofs.unjudged.Unjudged.add_shown.Goals as goal

pub returns : goal.returns
returns c = λ tested past was. c.add_to.ensures (shown_in tested.role past) was.shown
