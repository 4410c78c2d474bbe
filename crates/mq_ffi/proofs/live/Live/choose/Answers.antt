use Rattle.std.proofs.Common.{refl, subst, sym, ◌∙◌, Option, Some, Ok}
use Rattle.mq_choice.specs.declared.choice.Choice.{Choice}
use Rattle.mq_ffi.specs.Living.{ChoosesFrom, ReadsList}
use Rattle.mq_ffi.specs.declared.live.Source.{Source}
use Rattle.mq_ffi.proofs.LivingLaws.{if_none, refused_choice}
use Rattle.mq_ffi.proofs.live.Live.choose.Goals as goal

pub returns-then-is_some : goal.returns-then-is_some
returns-then-is_some c = refused_choice c.args.list.now c.args.self.now (sym c.is_some.ensures ∙ c.if-is_some.true)

pub returns : goal.returns
returns c = record {
  for_ever = if_none c.args.self.now.refusal _ (sym c.is_some.ensures ∙ c.if-is_some.false);
  chosen = λ _. (
    Some c.in-Some.choice,
    subst (λ (o : Option Choice). ReadsList c.args.list.now o) c.in-Some.is c.read.ensures,
    subst (λ (s : Source). ChoosesFrom (Some c.in-Some.choice) s c.args.self.now c.by.result (Ok tt)) (sym c.in-Nothing.is)
        (refl, record { told = c.by.ensures.told; source = c.by.ensures.source; by = c.by.ensures.choice; limit = c.by.ensures.limit ∙ c.limit.ensures; given = c.by.ensures.turn }),
  );
}
