use Rattle.std.proofs.Common.{◌==◌, Some, None, subst}
use Rattle.mq_rules.specs.Words.{only}
use Rattle.mq_rules.specs.Notes.{refuses}
use Rattle.mq_exchanges.specs.Receiving.{IsReceived}
use Rattle.mq_exchanges.proofs.ReceivingLaws.{received-unseen}
use Rattle.mq_exchanges.proofs.releases.Releases.send_pubrec.Goals as goal

pub returns : goal.returns
returns c = λ e tested taken past m does follows known u.
    let s = c.args.self.now in
    let t = c.take.new.self in
    let i = c.args.i in
    let code = c.args.code in
    received-unseen tested s t taken e past m None (only (code == 16) (Some i)) (only (refuses code) (Some i)) does follows known u
    (subst (λ o. IsReceived None o (only (refuses code) (Some i)) s t) c.unmatched_by.ensures (subst (λ o. IsReceived None c.unmatched_by.result o s t) c.refused_by.ensures c.in_ok-take.ensures))
