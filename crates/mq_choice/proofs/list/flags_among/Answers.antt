use Rattle.std.proofs.Common.{◌≡◌, ◌∙◌, ◌<◌, ◌≤◌, ◌+◌, ap, sym, subst, arith, ℕ, Bool, List, false, length, slice_index_or, slice_set}
use Rattle.std.proofs.lemmas.List.{length-set}
use Rattle.std.proofs.lemmas.List.Edits.{fill_by_more}
use Rattle.mq_rules.specs.declared.rule.Rule.TheVariants.{W01}
use Rattle.mq_choice.specs.Lists.{chosen_by}
use Rattle.mq_choice.proofs.list.flags_among.Goals as goal

pub loop-number-preserved : goal.loop-number-preserved
loop-number-preserved c =
    let f : ℕ → Bool = λ i. chosen_by c.args.list.now (slice_index_or c.args.rules.now i W01) in
    let n : ℕ = c.loop-number.number in
    let flags : List Bool = c.loop-number.flags in
    let long : length flags ≡ 128 = c.loop-number.invariant.0 in (
      length-set flags n c.is_chosen.result ∙ long,
      subst (λ (v : Bool). (i : ℕ) → i < n + 1 → slice_index_or (slice_set flags n v) i false ≡ f i) (sym c.is_chosen.ensures)
          (fill_by_more f flags n false (omega (arith, long, c.loop-number-test.true, c.requires)) c.loop-number.invariant.1),
    )

pub returns : goal.returns
returns c = λ i below. c.loop-number.invariant.1 i (omega (arith, below, c.loop-number-test.false))
