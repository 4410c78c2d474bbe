use Rattle.std.proofs.Common.{◌≡◌, ◌∷◌, [], ◌++◌, ◌%◌, ◌/◌, ◌==◌, cond, true, false, arith, ap, sym, ◌∙◌, rules, string_bytes}
use Rattle.std.proofs.lemmas.Bool.{eq-eqb, ne_eqb}
use Rattle.std.proofs.lemmas.Bool.Decides.{nat_tests}
use Rattle.mq_filters.specs.Patterning.{fill}
use Rattle.mq_filters.proofs.PatternLaws.{fill-none, fill-hash, fill-cut, fill-last, appended, on-ok}
use Rattle.mq_filters.proofs.patterns.fill.Goals as goal

pub returns-then-pattern-eq2 : goal.returns-then-pattern-eq2
returns-then-pattern-eq2 c =
    let before = string_bytes c.loop-pattern.filter in
    let written : string_bytes c.push_str.new.self ≡ before ++ (35 ∷ []) = search rules in
    written ∙ ap (λ t. before ++ t) (sym (fill-hash c.loop-pattern.pattern c.loop-pattern.topic.now (eq-eqb (c.loop-pattern.pattern % 3) 2 c.if-pattern-eq2.true))) ∙ c.loop-pattern.invariant.0

pub returns-in_default : goal.returns-in_default
returns-in_default c =
    let before = string_bytes c.loop-pattern.filter in
    on-ok c.push_last.result (λ written.
    written
    ∙ ap (λ t. before ++ t) (sym (fill-last c.loop-pattern.pattern c.loop-pattern.topic.now (rw c.in_default.is at c.split_once.ensures.cases) (ne_eqb (c.loop-pattern.pattern % 3) 2 c.if-pattern-eq2.false)))
    ∙ c.loop-pattern.invariant.0) c.push_last.ensures

pub loop-pattern-preserved : goal.loop-pattern-preserved
loop-pattern-preserved c =
    let before = string_bytes c.loop-pattern.filter in
    let pattern = c.loop-pattern.pattern in
    let rest = fill (pattern / 3) c.in-Some.others.now in
    let level = cond (pattern % 3 == 1) (43 ∷ []) c.in-Some.level.now in
    let written : string_bytes c.push_str-in-loop-pattern.new.self ≡ before ++ level = search rules in
    let more : string_bytes c.push_str-in-loop-pattern-2.new.self ≡ string_bytes c.push_str-in-loop-pattern.new.self ++ (47 ∷ []) = search rules in (
      ap (λ t. t ++ rest) (more ∙ ap (λ t. t ++ (47 ∷ [])) written)
          ∙ appended before level rest
          ∙ ap (λ t. before ++ t) (sym (fill-cut pattern c.loop-pattern.topic.now c.in-Some.level c.in-Some.others c.in-Some.ensures.cases (ne_eqb (pattern % 3) 2 c.if-pattern-eq2.false)))
          ∙ c.loop-pattern.invariant.0,
      search rules,
    )

pub returns : goal.returns
returns c =
    let before = string_bytes c.loop-pattern.filter in
    let topic = c.loop-pattern.topic.now in
    let written : string_bytes c.push_str-2.new.self ≡ before ++ topic = search rules in
    let none : c.loop-pattern.pattern ≡ 0 = grind (arith, nat_tests) in
    written ∙ ap (λ t. before ++ t) (sym (ap (λ s. fill s topic) none ∙ fill-none topic)) ∙ c.loop-pattern.invariant.0
