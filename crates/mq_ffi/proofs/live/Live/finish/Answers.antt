use Rattle.std.proofs.Common.{refl, sym, ap, subst, ◌∙◌, Some, Ok, Err}
use Rattle.mq_judge.specs.Judging.{Follows, is_counting}
use Rattle.mq_judge.specs.declared.judge.Judge.{Judge}
use Rattle.mq_ffi.specs.declared.answer.Trouble.TheVariants as troubles
use Rattle.mq_ffi.specs.declared.live.Live.{Live}
use Rattle.mq_ffi.specs.declared.live.Source.TheVariants as sources
use Rattle.mq_ffi.proofs.LivingLaws.{ended_is_last, ends_from, if_none}
use Rattle.mq_ffi.proofs.live.Live.finish.Goals as goal

pub returns-in-Err : goal.returns-in-Err
returns-in-Err c =
    let old = c.args.self.now in
    let new : Live = record { judge = c.end.new.self; choice = old.choice; source = sources.Ended; refusal = Some c.in-Err.refusal; turn = old.turn } in
    record {
      given = refl;
      chosen = refl;
      for_ever = if_none old.refusal _ (sym c.is_some.ensures ∙ c.if-is_some.false);
      taken = λ log told. ends_from old.source log old new (Err troubles.Refused) (sym c.has_ended.ensures ∙ c.if-has_ended.false)
          (refl, (c.in-Err.refusal, refl, c.in-Err.ensures.verdict log told.follows), c.end.ensures.known log told.follows, c.end.ensures.further ∙ told.by_choice);
    }

pub returns-in-Ok : goal.returns-in-Ok
returns-in-Ok c =
    let old = c.args.self.now in
    let new : Live = record { judge = c.end.new.self; choice = old.choice; source = sources.Ended; refusal = old.refusal; turn = old.turn } in
    record {
      given = refl;
      chosen = refl;
      for_ever = if_none old.refusal _ (sym c.is_some.ensures ∙ c.if-is_some.false);
      taken = λ log told. let verdict = c.in-Ok.ensures.verdict log told.follows in
          let follows = subst (λ (j : Judge). Follows j log) (sym c.in-Ok.ensures.same) told.follows in
          ends_from old.source log old new (Ok c.in-Ok.events) (sym c.has_ended.ensures ∙ c.if-has_ended.false) (
            verdict.0,
            verdict.1,
            record {
              follows = follows;
              unrefused = told.unrefused;
              first = λ e. absurd (ended_is_last e);
              counting = ap is_counting c.in-Ok.ensures.same ∙ told.counting;
              by_choice = c.end.ensures.further ∙ told.by_choice;
            },
            refl,
          );
    }
