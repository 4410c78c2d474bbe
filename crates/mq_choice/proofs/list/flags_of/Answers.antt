use Rattle.std.proofs.Common.{◌≡◌, ◌≤◌, ◌<◌, ◌∙◌, ℕ, ap, arith, length, nat_lt, refl, true, subst, sym, List, slice_index_or}
use Rattle.std.proofs.lemmas.Bool.{ltb-true}
use Rattle.mq_rules.specs.Rules.{all_rules, lines}
use Rattle.mq_rules.specs.declared.rule.Rule.{Rule}
use Rattle.mq_rules.specs.declared.rule.Rule.TheVariants.{W01}
use Rattle.mq_choice.specs.Choices.{number_of}
use Rattle.mq_choice.specs.Lists.{chosen_by}
use Rattle.mq_choice.proofs.NumberLaws.{few, numbered, within}
use Rattle.mq_choice.proofs.list.flags_of.Goals as goal

pub flags_among-requires : goal.flags_among-requires
flags_among-requires c = subst (λ (rules : List Rule). length rules ≤ 128) (sym c.all.ensures) few

pub returns : goal.returns
returns c = λ rule.
    let i : ℕ = number_of rule in
    c.flags_among.ensures i (subst (λ (rules : List Rule). i < length rules) (sym c.all.ensures) (within rule))
    ∙ ap (λ (rules : List Rule). chosen_by c.args.list.now (slice_index_or rules i W01)) c.all.ensures ∙ ap (chosen_by c.args.list.now) (numbered rule)
