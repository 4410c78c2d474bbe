use Rattle.std.proofs.Common.{◌∙◌, add-one, length, sym}
use Rattle.mq_rules.specs.Connections.{latest_fate}
use Rattle.mq_rules.specs.Notes.{note_of_bare}
use Rattle.mq_rules.specs.Under.{seen}
use Rattle.mq_judge.proofs.GatheringLaws.{gathered-bare}
use Rattle.mq_judge.proofs.WatchingLaws.{found-before, found-next}
use Rattle.mq_judge.proofs.watching.Watching.take_counted.Goals as goal

pub returns-in-Ok-clause-ok : goal.returns-in-Ok-clause-ok
returns-in-Ok-clause-ok c = λ past may was.
    let w = c.args.self.now in
    let e = seen c.args.at (note_of_bare c.args.bare) in
    let fate = latest_fate w.tested.role past in
    record {
      agree = c.in-Ok.ensures.agrees w.tested fate past may.follows may.on_connection was.agree;
      found = record {
        each = found-next w.tested e past w.faults c.step_counted.new.faults (c.in-Ok.ensures.grows w.tested fate past may.follows may.on_connection was.agree) was.found.each;
        count = may.follows.placed.0 ∙ add-one (length past);
      };
      gathered = λ on. gathered-bare w.tested c.args.at c.args.bare past w.unjudged (was.gathered (sym c.in-Ok.ensures.kind ∙ on));
    }

pub returns-in-Err-clause-memory : goal.returns-in-Err-clause-memory
returns-in-Err-clause-memory c = λ past may was.
    let w = c.args.self.now in
    let e = seen c.args.at (note_of_bare c.args.bare) in
    let fate = latest_fate w.tested.role past in
    record {
      each = found-before w.tested e past w.faults c.step_counted.new.faults c.drop_decided.new.self may (c.in-Err.ensures.memory w.tested fate past may.follows may.on_connection was.agree)
          c.drop_decided.ensures was.found.each;
      count = was.found.count;
    }
