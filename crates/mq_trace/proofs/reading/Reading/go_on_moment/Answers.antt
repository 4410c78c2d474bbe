use Rattle.std.proofs.Common.{arith, rules, ◌+◌, ◌*◌, ◌∷◌, [], sym, subst}
use Rattle.mq_trace.specs.Keeping.{IsSound, Advances}
use Rattle.mq_trace.specs.Stepping.{in_moment, EndsHead}
use Rattle.mq_trace.proofs.ReadingLaws.{comes_quietly}
use Rattle.mq_trace.proofs.MomentLaws.{moment_small, moment_advances, moment_sound, ends_moment}
use Rattle.mq_trace.proofs.reading.Reading.go_on_moment.Goals as goal

pub end_head-requires-clause-ends : goal.end_head-requires-clause-ends
end_head-requires-clause-ends g c =
    let r = c.args.self.now in
    let ends : EndsHead r c.args.kind c.args.length (r.moment * 256 + c.args.byte) c.args.byte = ends_moment r c.args.kind c.args.length c.args.count c.requires.sound c.requires.within c.args.byte (omega arith) in
    search (rules, ends)

pub returns-clause-sound : goal.returns-clause-sound
returns-clause-sound g c =
    let r = c.args.self.now in
    let most = (moment_small r c.args.kind c.args.length c.args.count c.requires.sound c.requires.within).0 in
    subst (λ byte. IsSound (in_moment r (r.at + 1) c.args.kind c.args.length (c.args.count + 1) (r.moment * 256 + byte))) (sym c.from.ensures)
    (moment_sound r c.args.kind c.args.length c.args.count c.requires.sound c.requires.within c.args.byte (omega (arith, c.if-count-eq7.false)) (omega arith))

pub returns-clause-comes : goal.returns-clause-comes
returns-clause-comes g c =
    let r = c.args.self.now in
    let most = (moment_small r c.args.kind c.args.length c.args.count c.requires.sound c.requires.within).0 in
    comes_quietly g.S.Sink.agrees r _ (c.args.byte ∷ []) c.args.sink.now
    (subst (λ byte. Advances r (in_moment r (r.at + 1) c.args.kind c.args.length (c.args.count + 1) (r.moment * 256 + byte)) (c.args.byte ∷ []) []) (sym c.from.ensures)
    (moment_advances r c.args.kind c.args.length c.args.count c.requires.sound c.requires.within c.args.byte (omega (arith, c.if-count-eq7.false))))

pub overflow_mul-moment : goal.overflow_mul-moment
overflow_mul-moment g c =
    let small = (moment_small c.args.self.now c.args.kind c.args.length c.args.count c.requires.sound c.requires.within).1 in
    omega arith

pub overflow_add-moment : goal.overflow_add-moment
overflow_add-moment g c =
    let small = (moment_small c.args.self.now c.args.kind c.args.length c.args.count c.requires.sound c.requires.within).1 in
    omega arith
