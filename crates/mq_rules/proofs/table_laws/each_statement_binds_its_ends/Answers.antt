use Rattle.mq_rules.proofs.TableLaws.{client_bound, server_bound, ends_cited, releases_needed, further_on_request, timed_on_times}
use Rattle.mq_rules.proofs.table_laws.each_statement_binds_its_ends.Goals as goal

pub returns-clause-client : goal.returns-clause-client
returns-clause-client c = client_bound

pub returns-clause-server : goal.returns-clause-server
returns-clause-server c = server_bound

pub returns-clause-cited : goal.returns-clause-cited
returns-clause-cited c = ends_cited

pub returns-clause-released : goal.returns-clause-released
returns-clause-released c = releases_needed

pub returns-clause-further : goal.returns-clause-further
returns-clause-further c = further_on_request

pub returns-clause-timed : goal.returns-clause-timed
returns-clause-timed c = timed_on_times
