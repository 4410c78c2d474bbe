use Rattle.std.proofs.Common.{◌≡◌, ◌++◌, string_bytes, drop}
use Rattle.std.specs.List.{flat_map}
use Rattle.mq_explain.specs.Listing.{spaced_code}
use Rattle.mq_explain.proofs.listing.add_codes.Given as goal

abbrev pub invariant-loop-rule : goal.invariant-loop-rule
invariant-loop-rule l =
    string_bytes l.text ++ flat_map spaced_code (drop l.rule-index l.rules) ≡ string_bytes l.fn.text ++ flat_map spaced_code l.rules
