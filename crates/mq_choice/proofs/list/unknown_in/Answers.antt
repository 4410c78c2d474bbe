use Rattle.std.proofs.Common.{rules, arith, not, List, ℕ}
use borrow.Author.Tests.{tests}
use Rattle.std.proofs.lemmas.Iterator.Search.{find_from_yields_List}
use Rattle.std.proofs.lemmas.Iterator.Splits.{YieldsList-from_str_split}
use Rattle.mq_choice.specs.Lists.{is_known}
use Rattle.mq_choice.proofs.list.unknown_in.Goals as goal

pub returns : goal.returns
returns c = find_from_yields_List (λ (word : List ℕ). not (is_known word)) _ _ _ c.find.ensures.ran
    (YieldsList-from_str_split 44 c.args.list.now (omega arith) c.split.ensures.text c.split.ensures.has_more c.split.ensures.pattern) (λ x b q k. search (rules, tests))
