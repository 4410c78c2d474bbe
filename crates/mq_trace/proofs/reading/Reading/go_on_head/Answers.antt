-- The next byte of a record's length, by what it is to its head.
use Rattle.std.proofs.Common.{arith, ◌≡◌, ◌+◌, ◌∷◌, ℕ, [], ◌∙◌, ap, sym, subst}
use Rattle.mq_log.specs.declared.refusal.Refusal.TheVariants as refusals
use Rattle.mq_log.specs.Reception.{Declines}
use Rattle.mq_trace.specs.declared.head.Head.{Head}
use Rattle.mq_trace.specs.declared.stage.Stage.TheVariants as stages
use Rattle.mq_trace.specs.Heads.{head_of}
use Rattle.mq_trace.specs.Keeping.{IsSound, Advances}
use Rattle.mq_trace.proofs.ReadingLaws.{comes_quietly}
use Rattle.mq_trace.proofs.StageLaws.{length_advances, length_sound, stops_refused}
use Rattle.mq_trace.proofs.MomentLaws.{length_refused}
use Rattle.mq_trace.proofs.reading.Reading.go_on_head.Goals as goal

pub returns-in-GoesOn-clause-sound : goal.returns-in-GoesOn-clause-sound
returns-in-GoesOn-clause-sound g c =
    let r = c.args.self.now in
    let h = c.args.head in
    subst (λ (x : Head). IsSound (record r { at = r.at + 1; stage = stages.Head x })) (sym c.in-GoesOn.ensures.1)
    (length_sound r h.kind h.count h.number c.args.byte c.requires.sound c.requires.within c.in-GoesOn.ensures.0 (omega arith))

pub returns-in-GoesOn-clause-comes : goal.returns-in-GoesOn-clause-comes
returns-in-GoesOn-clause-comes g c =
    let r = c.args.self.now in
    let h = c.args.head in
    comes_quietly g.S.Sink.agrees r _ (c.args.byte ∷ []) c.args.sink.now
    (subst (λ (x : Head). Advances r (record r { at = r.at + 1; stage = stages.Head x }) (c.args.byte ∷ []) []) (sym c.in-GoesOn.ensures.1)
    (length_advances r h.kind h.count h.number c.args.byte c.requires.sound c.requires.within c.in-GoesOn.ensures.0))

pub end_length-requires-clause-ends : goal.end_length-requires-clause-ends
end_length-requires-clause-ends g c =
    let h = c.args.head in
    record {
      so_far = h.number;
      within = c.requires.within ∙ ap (λ (n : ℕ). stages.Head (head_of h.kind n h.number)) c.in-Ends.ensures.0;
      is = c.in-Ends.ensures.1;
      allowed = c.in-Ends.ensures.2;
    }

pub returns-in-Barred-clause-stops : goal.returns-in-Barred-clause-stops
returns-in-Barred-clause-stops g c =
    let r = c.args.self.now in
    let h = c.args.head in
    let within : r.stage ≡ stages.Head (head_of h.kind 3 h.number) = c.requires.within ∙ ap (λ (n : ℕ). stages.Head (head_of h.kind n h.number)) c.in-Barred.ensures.0 in
    stops_refused (Declines g.S.Sink.agrees g.S.Sink.refuses) r c.args.byte c.args.sink.now (refusals.Length r.at) (length_refused r h.kind h.number c.args.byte c.requires.sound within c.in-Barred.ensures.1)
