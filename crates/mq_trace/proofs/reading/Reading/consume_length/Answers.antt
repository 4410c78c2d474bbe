use Rattle.std.proofs.Common.{arith, ◌≡◌, ◌+◌, ◌∷◌, [], ap, sym, subst, ◌∙◌}
use Rattle.std.specs.Int.{w32, from_be_bytes}
use Rattle.mq_trace.specs.declared.head.Head.{Head}
use Rattle.mq_trace.specs.declared.reading.Reading.{Reading}
use Rattle.mq_trace.specs.declared.stage.Stage.TheVariants as stages
use Rattle.mq_trace.specs.Keeping.{IsSound, Advances}
use Rattle.mq_trace.specs.Stepping.{in_head}
use Rattle.mq_trace.proofs.StageLaws.{three_advance, three_sound}
use Rattle.mq_trace.proofs.EmissionLaws.{result_comes, result_stops}
use Rattle.mq_log.specs.Reception.{Declines}
use Rattle.mq_trace.proofs.reading.Reading.consume_length.Goals as goal

pub returns-clause-comes : goal.returns-clause-comes
returns-clause-comes g c =
    let r = c.args.self.now in
    let p = c.args in
    let is : c.skip_length-head.new.self ≡ in_head r (r.at + 3) p.kind 3 (from_be_bytes w32 (0 ∷ p.a ∷ p.b ∷ p.c ∷ [])) = c.skip_length-head.ensures.kept ∙ ap (λ (h : Head). record r { at = r.at + 3; stage = stages.Head h }) c.skip_length-head.ensures.head in
    let quiet : Advances r c.skip_length-head.new.self (p.a ∷ p.b ∷ p.c ∷ []) [] =
    subst (λ (x : Reading). Advances r x (p.a ∷ p.b ∷ p.c ∷ []) []) (sym is) (three_advance r p.kind p.a p.b p.c c.requires.sound c.requires.within (omega arith) (omega arith)) in
    result_comes g.S.Sink.agrees r c.skip_length-head.new.self _ (p.a ∷ p.b ∷ p.c ∷ []) (p.d ∷ []) _ _ _ quiet c.go_on_head.ensures.comes

pub returns-clause-stops : goal.returns-clause-stops
returns-clause-stops g c =
    let r = c.args.self.now in
    let p = c.args in
    let is : c.skip_length-head.new.self ≡ in_head r (r.at + 3) p.kind 3 (from_be_bytes w32 (0 ∷ p.a ∷ p.b ∷ p.c ∷ [])) = c.skip_length-head.ensures.kept ∙ ap (λ (h : Head). record r { at = r.at + 3; stage = stages.Head h }) c.skip_length-head.ensures.head in
    let quiet : Advances r c.skip_length-head.new.self (p.a ∷ p.b ∷ p.c ∷ []) [] =
    subst (λ (x : Reading). Advances r x (p.a ∷ p.b ∷ p.c ∷ []) []) (sym is) (three_advance r p.kind p.a p.b p.c c.requires.sound c.requires.within (omega arith) (omega arith)) in
    result_stops (Declines g.S.Sink.agrees g.S.Sink.refuses) r c.skip_length-head.new.self (p.a ∷ p.b ∷ p.c ∷ []) (p.d ∷ []) c.args.sink.now c.go_on_head.new.sink _ quiet (ap (λ (x : Reading). x.at) is) c.go_on_head.ensures.stops

pub go_on_head-requires-clause-sound : goal.go_on_head-requires-clause-sound
go_on_head-requires-clause-sound g c =
    let r = c.args.self.now in
    let p = c.args in
    let is : c.skip_length-head.new.self ≡ in_head r (r.at + 3) p.kind 3 (from_be_bytes w32 (0 ∷ p.a ∷ p.b ∷ p.c ∷ [])) = c.skip_length-head.ensures.kept ∙ ap (λ (h : Head). record r { at = r.at + 3; stage = stages.Head h }) c.skip_length-head.ensures.head in
    subst (λ (x : Reading). IsSound x) (sym is) (three_sound r p.kind p.a p.b p.c c.requires.sound c.requires.within (omega arith) (omega arith) (omega arith))
