use Rattle.std.proofs.Common.{rules, ◌≡◌, ◌+◌, ◌*◌, ◌∷◌, ℕ, [], ◌∙◌, true, false, Some, ap, sym, subst}
use Rattle.std.specs.Prelude.{◌==◌}
use Rattle.mq_trace.specs.declared.reading.Reading.{Reading}
use Rattle.mq_trace.specs.Keeping.{IsSound, Advances}
use Rattle.mq_log.specs.Refusals.{allows_length}
use Rattle.mq_trace.specs.Stepping.{in_moment, EndsHead}
use Rattle.mq_trace.proofs.ReadingLaws.{comes_quietly}
use Rattle.mq_trace.proofs.MomentLaws.{head_with, head_without, begins_moment, begins_moment_sound, ends_without}
use Rattle.mq_trace.proofs.reading.Reading.end_length.Goals as goal

pub returns-then-has_moments-clause-sound : goal.returns-then-has_moments-clause-sound
returns-then-has_moments-clause-sound g c =
    let r = c.args.self.now in
    let e = c.requires.ends in
    let allowed : allows_length r.header.version (Some c.args.kind) (e.so_far * 256 + c.args.byte) ≡ true = ap (allows_length r.header.version (Some c.args.kind)) (sym e.is) ∙ e.allowed in
    let timed : (r.header.version == 2) ≡ true = search rules in
    let is : c.begin_moment.new.self ≡ in_moment r (r.at + 1) c.args.kind (e.so_far * 256 + c.args.byte) 0 0 = c.begin_moment.ensures ∙ ap (λ (n : ℕ). in_moment r (r.at + 1) c.args.kind n 0 0) e.is in
    subst (λ (x : Reading). IsSound x) (sym is) (begins_moment_sound r c.args.kind e.so_far c.args.byte c.requires.sound e.within (head_with r.header.version timed) allowed)

pub returns-then-has_moments-clause-comes : goal.returns-then-has_moments-clause-comes
returns-then-has_moments-clause-comes g c =
    let r = c.args.self.now in
    let e = c.requires.ends in
    let allowed : allows_length r.header.version (Some c.args.kind) (e.so_far * 256 + c.args.byte) ≡ true = ap (allows_length r.header.version (Some c.args.kind)) (sym e.is) ∙ e.allowed in
    let timed : (r.header.version == 2) ≡ true = search rules in
    let is : c.begin_moment.new.self ≡ in_moment r (r.at + 1) c.args.kind (e.so_far * 256 + c.args.byte) 0 0 = c.begin_moment.ensures ∙ ap (λ (n : ℕ). in_moment r (r.at + 1) c.args.kind n 0 0) e.is in
    comes_quietly g.S.Sink.agrees r _ (c.args.byte ∷ []) c.args.sink.now (subst (λ (x : Reading). Advances r x (c.args.byte ∷ []) []) (sym is)
    (begins_moment r c.args.kind e.so_far c.args.byte c.requires.sound e.within (head_with r.header.version timed) allowed))

pub end_head-requires-clause-ends : goal.end_head-requires-clause-ends
end_head-requires-clause-ends g c =
    let r = c.args.self.now in
    let e = c.requires.ends in
    let allowed : allows_length r.header.version (Some c.args.kind) (e.so_far * 256 + c.args.byte) ≡ true = ap (allows_length r.header.version (Some c.args.kind)) (sym e.is) ∙ e.allowed in
    let untimed : (r.header.version == 2) ≡ false = search rules in
    let ends : EndsHead r c.args.kind c.args.length 0 c.args.byte = subst (λ (n : ℕ). EndsHead r c.args.kind n 0 c.args.byte) (sym e.is)
    (ends_without r c.args.kind e.so_far c.args.byte c.requires.sound e.within (head_without r.header.version untimed) allowed) in
    search (rules, ends)
