use Rattle.std.proofs.Common.{rules, ◌∙◌}
use borrow.Author.Tests.{tests}
use Rattle.std.proofs.lemmas.Iterator.Search.{all_from_yields_List}
use Rattle.std.proofs.lemmas.Iterator.Splits.{YieldsList-from_slice_split}
use Rattle.mq_explain.specs.Citing.{is_citation_of, is_separator}
use Rattle.mq_explain.proofs.citations.is_cited_by.Goals as goal

pub returns : goal.returns
returns c = all_from_yields_List (is_citation_of c.args.rule) _ _ _ c.all.ensures.ran
    (YieldsList-from_slice_split _ is_separator c.args.word.now (c.split.ensures.rest ∙ c.as_bytes.ensures.value) c.split.ensures.done c.split.ensures.closure
    (λ x b q k. search (rules, tests))) (λ x b q k. search (rules, tests))
