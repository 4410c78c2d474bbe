use Rattle.mq_judge.proofs.GatheringLaws.{whole-all}
use Rattle.mq_judge.proofs.unjudged.Unjudged.add_whole.Goals as goal

pub returns : goal.returns
returns c = λ past fates was.
    whole-all c.args.tested past c.args.fate c.args.self.now _ _ _ _ _ _ _ _ _ fates was
    c.in_ok-add.ensures c.undecided.ensures c.in_ok-add-2.ensures c.shared_by.ensures c.in_ok-add-3.ensures c.unrested.ensures c.in_ok-add-4.ensures c.unreleased.ensures
