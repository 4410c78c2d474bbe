use Rattle.std.proofs.Common.{rules, ◌≡◌, ◌∙◌, ap, arith, cond, false, fold, refl, sym, List, ℕ, Bool}
use Rattle.std.specs.Prelude.{◌&&◌, not}
use borrow.Author.Tests.{tests}
use Rattle.std.proofs.lemmas.Iterator.Consumers.{fold_from_yields_List}
use Rattle.std.proofs.lemmas.Iterator.Splits.{YieldsList-from_str_split}
use Rattle.mq_rules.specs.declared.rule.Rule.{Rule}
use Rattle.mq_choice.specs.Lists.{after_word, before_words, chosen_by, words_of}
use Rattle.mq_choice.proofs.list.is_chosen.Goals as goal

same : (list : List ℕ) (rule : Rule) (before : Bool) → before ≡ before_words list rule → fold (after_word rule) before (words_of list) ≡ chosen_by list rule
unfolding chosen_by
same list rule before is = ap (λ b. fold (after_word rule) b (words_of list)) is

pub returns : goal.returns
returns c =
    fold_from_yields_List _ (after_word c.args.rule) _ _ c.fold.ensures.ran
    (YieldsList-from_str_split 44 c.args.list.now (omega arith) c.split.ensures.text c.split.ensures.has_more c.split.ensures.pattern) (λ a x b q k. search (rules, tests))
    ∙ same c.args.list.now c.args.rule _ (search (rules, tests))
