use Rattle.std.proofs.Common.{◌≡◌, ℕ, List, subst, sym, refl, ◌∙◌}
use Rattle.mq_trace.specs.Writing.{header_bytes}
use Rattle.mq_ffi.specs.declared.live.Live.{Live}
use Rattle.mq_ffi.specs.declared.live.Source.{Source}
use Rattle.mq_ffi.specs.declared.live.Source.TheVariants as sources
use Rattle.mq_ffi.specs.Living.{TakesIn, BeginsFrom}
use Rattle.mq_ffi.proofs.LivingLaws.{events_follow, if_none, takes}
use Rattle.mq_ffi.proofs.live.Live.begin.Goals as goal

pub returns : goal.returns
returns c =
    let old = c.args.self.now in
    let new : Live = record { judge = c.take_in.new.judge; choice = old.choice; source = sources.Events; refusal = c.take_in.new.refused; turn = old.turn } in
    record {
      for_ever = if_none old.refusal _ (sym c.is_some.ensures ∙ c.if-is_some.false);
      given = refl;
      chosen = refl;
      taken = λ log told. subst (λ (s : Source). BeginsFrom s log c.args.header old new c.take_in.result) (sym c.in-Nothing.is)
          (takes sources.Events log (header_bytes c.args.header) old new c.take_in.result events_follow told refl refl
          (subst (λ (b : List ℕ). TakesIn b old.judge c.take_in.new.judge old.refusal c.take_in.new.refused c.take_in.result) c.header_of.ensures c.take_in.ensures));
    }
