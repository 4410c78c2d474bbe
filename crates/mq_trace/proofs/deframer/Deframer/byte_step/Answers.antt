-- What the next byte is, by the fixed header with it.
use Rattle.std.proofs.Common.{◌≡◌, ◌+◌, ◌≤◌, ◌++◌, [], ◌∷◌, length, sym, subst, arith, length-append}
use Rattle.mq_packet.proofs.Exports.{short_few}
use Rattle.mq_trace.specs.Keeping.{IsShort}
use Rattle.mq_trace.proofs.ByteLaws.{ends_byte, goes_byte}
use Rattle.mq_trace.proofs.deframer.Deframer.byte_step.Goals as goal
use Rattle.mq_trace.proofs.deframer.Deframer.byte_step.Goals.{else-length-count-via-then-length-count+else-size-limit, else-length-count-via-else-length-count}

pub returns-in-Short : goal.returns-in-Short
returns-in-Short c =
    let t = c.args.self.now.unfinished.items ++ c.args.byte ∷ [] in
    subst (IsShort c.args.limit t) c.in-Short.ensures.exact (short_few t (sym c.in-Short.ensures.exact))

pub returns-then-size-count : goal.returns-then-size-count
returns-then-size-count c =
    let u = c.args.self.now.unfinished.items in
    let longer : length (u ++ c.args.byte ∷ []) ≡ length u + 1 = length-append u (c.args.byte ∷ []) in
    let may : c.in-Whole.length ≡ length (u ++ c.args.byte ∷ []) → c.in-Whole.size ≤ c.args.limit
    = λ ends. elim c.else-length-count.branch [
      | else-length-count-via-then-length-count+else-size-limit w ↦ omega (arith, w.if-size-limit.false)
      | else-length-count-via-else-length-count w ↦ absurd (w.if-length-count.false (omega (arith, ends, longer, c.len-count.ensures.value)))
    ] in
    ends_byte c.args.limit u c.args.byte c.in-Whole.length c.in-Whole.size c.requires.unfinished.0 (sym c.in-Whole.ensures.exact) c.in-Whole.ensures.bounds.0 c.in-Whole.ensures.bounds.2 c.in-Whole.ensures.bounds.3 may
    (omega (arith, c.if-size-count.true, longer, c.len-count.ensures.value))

pub returns-else-size-count : goal.returns-else-size-count
returns-else-size-count c =
    let u = c.args.self.now.unfinished.items in
    let longer : length (u ++ c.args.byte ∷ []) ≡ length u + 1 = length-append u (c.args.byte ∷ []) in
    let may : c.in-Whole.length ≡ length (u ++ c.args.byte ∷ []) → c.in-Whole.size ≤ c.args.limit
    = λ ends. elim c.else-length-count.branch [
      | else-length-count-via-then-length-count+else-size-limit w ↦ omega (arith, w.if-size-limit.false)
      | else-length-count-via-else-length-count w ↦ absurd (w.if-length-count.false (omega (arith, ends, longer, c.len-count.ensures.value)))
    ] in
    goes_byte c.args.limit u c.args.byte c.in-Whole.length c.in-Whole.size c.requires.unfinished.0 (sym c.in-Whole.ensures.exact) c.in-Whole.ensures.bounds.2 may
    (λ same. c.if-size-count.false (omega (arith, same, longer, c.len-count.ensures.value)))
