use Rattle.mq_rules.proofs.Exports.{members-session, session-members}
use Rattle.mq_rules_laws.proofs.session_laws.session_by_positions.Goals as goal

pub returns : goal.returns
returns c = λ role f log m. (session-members role f log m, λ h. members-session role f log m h.0 h.1)
