use Rattle.std.proofs.Common.{refl, sym, ◌∙◌}
use Rattle.mq_ffi.specs.declared.live.Live.{Live}
use Rattle.mq_ffi.specs.declared.live.Source.TheVariants as sources
use Rattle.mq_ffi.proofs.LivingLaws.{feeds_from, feeds_some, if_none, log_follows, takes}
use Rattle.mq_ffi.proofs.live.Live.feed.Goals as goal

pub returns-else-is_empty : goal.returns-else-is_empty
returns-else-is_empty c =
    let old = c.args.self.now in
    let piece = c.args.bytes.now in
    let new : Live = record { judge = c.take_in.new.judge; choice = old.choice; source = sources.Log; refusal = c.take_in.new.refused; turn = old.turn } in
    record {
      for_ever = if_none old.refusal _ (sym c.is_some.ensures ∙ c.if-is_some.false);
      given = refl;
      chosen = refl;
      taken = λ log told. feeds_from old.source piece log old new c.take_in.result c.in-Nothing.is
          (feeds_some piece log old new c.take_in.result (sym c.is_empty.ensures ∙ c.if-is_empty.false)
          (takes sources.Log log piece old new c.take_in.result log_follows told refl refl c.take_in.ensures));
    }
