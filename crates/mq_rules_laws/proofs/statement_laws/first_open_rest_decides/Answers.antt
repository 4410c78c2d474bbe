use Rattle.mq_rules_laws.proofs.FirstRestLaws.{excessive-earlier, malformed-earlier, mistaken-earlier, repeated-earlier}
use Rattle.mq_rules_laws.proofs.statement_laws.first_open_rest_decides.Goals as goal

pub returns-clause-malformed : goal.returns-clause-malformed
returns-clause-malformed c = malformed-earlier

pub returns-clause-repeated : goal.returns-clause-repeated
returns-clause-repeated c = repeated-earlier

pub returns-clause-mistaken : goal.returns-clause-mistaken
returns-clause-mistaken c = mistaken-earlier

pub returns-clause-excessive : goal.returns-clause-excessive
returns-clause-excessive c = excessive-earlier
