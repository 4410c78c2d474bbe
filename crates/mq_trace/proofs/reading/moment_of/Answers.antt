use Rattle.std.proofs.Common.{arith, rules, ◌≡◌, ◌<◌, ◌≤◌, ℕ, true, false, length, sym, ap, ◌∙◌}
use Rattle.std.specs.Prelude.{◌==◌}
use Rattle.mq_log.specs.Framing.{moment_in, head_length}
use Rattle.mq_trace.proofs.MomentLaws.{head_with, head_without, moment_none, moment_eight}
use Rattle.mq_trace.proofs.reading.moment_of.Goals as goal

-- in version 2 there are all of these bytes
there : (version size i : ℕ) → (version == 2) ≡ true → head_length version ≤ size → i < 13 → i < size
there version size i timed within few = let is = head_with version timed in omega arith

pub returns-then-not-has_moments : goal.returns-then-not-has_moments
returns-then-not-has_moments c =
    let untimed : (c.args.version == 2) ≡ false = search rules in
    sym (ap (λ n. moment_in n c.args.bytes.now) (head_without c.args.version untimed) ∙ moment_none c.args.bytes.now)

pub bounds-bytes-5 : goal.bounds-bytes-5
bounds-bytes-5 c = there c.args.version (length c.args.bytes.now) 5 (search rules) c.requires (omega arith)

pub bounds-bytes-6 : goal.bounds-bytes-6
bounds-bytes-6 c = there c.args.version (length c.args.bytes.now) 6 (search rules) c.requires (omega arith)

pub bounds-bytes-7 : goal.bounds-bytes-7
bounds-bytes-7 c = there c.args.version (length c.args.bytes.now) 7 (search rules) c.requires (omega arith)

pub bounds-bytes-8 : goal.bounds-bytes-8
bounds-bytes-8 c = there c.args.version (length c.args.bytes.now) 8 (search rules) c.requires (omega arith)

pub bounds-bytes-9 : goal.bounds-bytes-9
bounds-bytes-9 c = there c.args.version (length c.args.bytes.now) 9 (search rules) c.requires (omega arith)

pub bounds-bytes-10 : goal.bounds-bytes-10
bounds-bytes-10 c = there c.args.version (length c.args.bytes.now) 10 (search rules) c.requires (omega arith)

pub bounds-bytes-11 : goal.bounds-bytes-11
bounds-bytes-11 c = there c.args.version (length c.args.bytes.now) 11 (search rules) c.requires (omega arith)

pub bounds-bytes-12 : goal.bounds-bytes-12
bounds-bytes-12 c = there c.args.version (length c.args.bytes.now) 12 (search rules) c.requires (omega arith)

pub returns : goal.returns
returns c =
    let bytes = c.args.bytes.now in
    let timed : (c.args.version == 2) ≡ true = search rules in
    let is : head_length c.args.version ≡ 13 = head_with c.args.version timed in
    let eight = moment_eight bytes (there c.args.version (length bytes) 12 timed c.requires (omega arith)) in
    let same : c.from_be_bytes.result ≡ moment_in 13 bytes = omega (arith, c.from_be_bytes.ensures, eight) in
    same ∙ sym (ap (λ n. moment_in n bytes) is)
