use Rattle.std.proofs.Common.{refl, subst, sym, ◌∙◌}
use Rattle.mq_ffi.specs.declared.live.Live.{Live}
use Rattle.mq_ffi.specs.declared.live.Source.{Source}
use Rattle.mq_ffi.specs.declared.live.Source.TheVariants as sources
use Rattle.mq_ffi.specs.Living.{TellsFrom}
use Rattle.mq_ffi.specs.Telling.{bytes_of}
use Rattle.mq_ffi.proofs.LivingLaws.{events_follow, if_none, takes}
use Rattle.mq_ffi.proofs.live.Live.tell.Goals as goal

pub returns : goal.returns
returns c =
    let old = c.args.self.now in
    let event = c.args.event in
    let new : Live = record { judge = c.take_event.new.judge; choice = old.choice; source = old.source; refusal = c.take_event.new.refused; turn = old.turn } in
    record {
      for_ever = if_none old.refusal _ (sym c.is_some.ensures ∙ c.if-is_some.false);
      given = refl;
      chosen = refl;
      taken = λ log told. subst (λ (s : Source). TellsFrom s log event old new c.take_event.result) (sym c.in-Events.is)
          (takes sources.Events log (bytes_of event) old new c.take_event.result events_follow told c.in-Events.is refl c.take_event.ensures);
    }
