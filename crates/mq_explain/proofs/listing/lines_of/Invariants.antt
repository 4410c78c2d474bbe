use Rattle.std.proofs.Common.{◌≡◌, ◌++◌, string_bytes, drop}
use Rattle.std.specs.List.{flat_map}
use Rattle.mq_explain.specs.Listing.{listed_line}
use Rattle.mq_choice.specs.Choices.{in_choice}
use Rattle.mq_explain.proofs.listing.lines_of.Given as goal

abbrev pub invariant-loop-rule : goal.invariant-loop-rule
invariant-loop-rule l =
    string_bytes l.text ++ flat_map (listed_line (in_choice l.choice) l.role) (drop l.rule-index l.rules) ≡ flat_map (listed_line (in_choice l.choice) l.role) l.rules
