use Rattle.std.proofs.Common.{◌≡◌, ◌++◌}
use Rattle.mq_rules.specs.Notes.{subscription_identifiers_in}
use Rattle.mq_rules.proofs.identifier_list.IdentifierList.of.Given as goal

-- what was found, and what is left to be found, are all identifiers
abbrev pub invariant-loop-property : goal.invariant-loop-property
invariant-loop-property l = l.identifiers ++ subscription_identifiers_in l.property-iterator ≡ subscription_identifiers_in l.fn.properties.items
