use Rattle.std.proofs.Common.{◌∙◌, ap}
use Rattle.std.specs.Option.{option_or}
use Rattle.mq_rules.specs.Under.{seen}
use Rattle.mq_judge.specs.Unjudged.{with_last}
use Rattle.mq_judge.proofs.GatheringLaws.{gathered-next}
use Rattle.mq_judge.proofs.unjudged.Unjudged.take_in.Goals as goal

pub returns : goal.returns
returns c = λ tested past fate fates was.
    let old = c.args.self.now in
    gathered-next tested (seen c.args.place c.args.note.now) past c.args.before c.args.after old _ fate fates
    (λ gaps so_far here. c.keep.ensures gaps so_far here ∙ ap (with_last gaps) c.shown_at.ensures)
    c.opened_after-self.ensures (c.or-self.ensures ∙ ap (option_or old.shared) c.shared_at.ensures) c.rested_after-self.ensures c.ended_after-self.ensures was
