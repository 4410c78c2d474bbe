use Rattle.std.proofs.Common.{◌≡◌, [], drop, fold, string_bytes}
use Rattle.mq_explain.specs.Citing.{with_cited}
use Rattle.mq_explain.proofs.citations.explanations_among.Given as goal

abbrev pub invariant-loop-rule : goal.invariant-loop-rule
invariant-loop-rule l =
    fold (with_cited l.word) (string_bytes l.text) (drop l.rule-index l.rules) ≡ fold (with_cited l.word) [] l.rules
