use Rattle.mq_host.proofs.misuse.Misuse.report.Goals as goal

pub returns-in-NoRole-clause-printed : goal.returns-in-NoRole-clause-printed
returns-in-NoRole-clause-printed g c = rw c.in-NoRole.is c.refuse_word.ensures.printed

pub returns-in-NoRole-clause-failed : goal.returns-in-NoRole-clause-failed
returns-in-NoRole-clause-failed g c = rw c.in-NoRole.is c.refuse_word.ensures.failed

pub returns-in-NoStatement-clause-printed : goal.returns-in-NoStatement-clause-printed
returns-in-NoStatement-clause-printed g c = rw c.in-NoStatement.is c.refuse_statement.ensures.printed

pub returns-in-NoFaults-clause-printed : goal.returns-in-NoFaults-clause-printed
returns-in-NoFaults-clause-printed g c = rw c.in-NoFaults.is c.write_misuse-in-NoFaults.ensures.printed

pub returns-in-NoFaultsForAll-clause-printed : goal.returns-in-NoFaultsForAll-clause-printed
returns-in-NoFaultsForAll-clause-printed g c = rw c.in-NoFaultsForAll.is c.write_misuse-in-NoFaultsForAll.ensures.printed

pub returns-in-NoFile-clause-printed : goal.returns-in-NoFile-clause-printed
returns-in-NoFile-clause-printed g c = rw c.in-NoFile.is c.write_misuse-in-NoFile.ensures.printed

pub returns-in-NoNumber-clause-printed : goal.returns-in-NoNumber-clause-printed
returns-in-NoNumber-clause-printed g c = rw c.in-NoNumber.is c.refuse_word-in-NoNumber.ensures.printed

pub returns-in-NoFileForWhy-clause-printed : goal.returns-in-NoFileForWhy-clause-printed
returns-in-NoFileForWhy-clause-printed g c = rw c.in-NoFileForWhy.is c.write_misuse-in-NoFileForWhy.ensures.printed

pub returns-in-TwoReports-clause-printed : goal.returns-in-TwoReports-clause-printed
returns-in-TwoReports-clause-printed g c = rw c.in-TwoReports.is c.write_misuse-in-TwoReports.ensures.printed

pub returns-in-OutExists-clause-printed : goal.returns-in-OutExists-clause-printed
returns-in-OutExists-clause-printed g c = rw c.in-OutExists.is c.refuse_word-in-OutExists.ensures.printed

pub returns-in-OutExists-clause-failed : goal.returns-in-OutExists-clause-failed
returns-in-OutExists-clause-failed g c = rw c.in-OutExists.is c.refuse_word-in-OutExists.ensures.failed
