use Rattle.mq_rules_laws.proofs.FirstRestLaws.{rest-earlier, rest-first, first-rest, first-decides, R-at}
use Rattle.mq_rules_laws.proofs.statement_laws.first_rest_decides.Goals as goal

pub returns-clause-earlier : goal.returns-clause-earlier
returns-clause-earlier c = λ role x log k t u k_in t_in u_in. rest-earlier log k k_in role x t u t_in u_in

pub returns-clause-first : goal.returns-clause-first
returns-clause-first c = λ role k log t. (rest-first role k log t, first-rest role k log t)

pub returns-clause-shown : goal.returns-clause-shown
returns-clause-shown c = λ role x log k k_in. first-decides log k k_in role x

pub returns-clause-at : goal.returns-clause-at
returns-clause-at c = R-at
