use Rattle.std.proofs.Common.{rules, ◌∙◌}
use Rattle.std.specs.Str.{str_eq_ignore_ascii_case}
use borrow.Author.Tests.{tests}
use Rattle.std.proofs.lemmas.Iterator.Search.{any_from_yields_List}
use Rattle.std.proofs.lemmas.Iterator.Splits.{YieldsList-from_slice_split}
use Rattle.mq_explain.specs.Citing.{is_separator}
use Rattle.mq_explain.proofs.citations.is_among.Goals as goal

pub returns : goal.returns
returns c = any_from_yields_List (λ citation. str_eq_ignore_ascii_case citation c.args.one.now) _ _ _ c.any.ensures.ran
    (YieldsList-from_slice_split _ is_separator c.args.citations.now (c.split.ensures.rest ∙ c.as_bytes.ensures.value) c.split.ensures.done c.split.ensures.closure
    (λ x b q k. search (rules, tests))) (λ x b q k. search (rules, tests))
