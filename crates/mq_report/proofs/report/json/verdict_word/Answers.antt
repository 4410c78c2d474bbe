use Rattle.std.proofs.Common.{◌≡◌, ℕ, ◌==◌, true, false, length, sym, ap, ◌∙◌, refl}
use Rattle.std.specs.FinMap as map
use Rattle.mq_report.proofs.report.json.verdict_word.Goals as goal

pub returns-then-is_empty : goal.returns-then-is_empty
returns-then-is_empty c =
    let none : (length (map.entries c.args.faults.now) == 0) ≡ true =
    ap (λ (n : ℕ). n == 0) (sym (map.len-entries c.args.faults.now)) ∙ sym c.is_empty.ensures ∙ c.if-is_empty.true in
    rw none refl

pub returns-else-is_empty : goal.returns-else-is_empty
returns-else-is_empty c =
    let some : (length (map.entries c.args.faults.now) == 0) ≡ false =
    ap (λ (n : ℕ). n == 0) (sym (map.len-entries c.args.faults.now)) ∙ sym c.is_empty.ensures ∙ c.if-is_empty.false in
    rw some refl
