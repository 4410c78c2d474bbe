use Rattle.mq_rules.proofs.NamingLaws.{sentences_differ, codes_named, small_codes_named}
use Rattle.mq_rules.proofs.naming.each_statement_is_named.Goals as goal

pub returns-clause-differ : goal.returns-clause-differ
returns-clause-differ c = sentences_differ

pub returns-clause-named : goal.returns-clause-named
returns-clause-named c = codes_named

pub returns-clause-small : goal.returns-clause-small
returns-clause-small c = small_codes_named
