use Rattle.std.specs.Prelude.{is_some}
use Rattle.std.proofs.Common.{arith, ap, sym, cond, ◌+◌, ◌∙◌}
use Rattle.mq_rules.specs.Notes.{sent_packet}
use Rattle.mq_rules.specs.Keeping.{kept}
use Rattle.mq_connections.specs.Trying.{harmless_tests, harmless_places, tally_places, tried_by_harmless}
use Rattle.mq_connections.proofs.HarmlessTestsLaws.{harmless-here, none-more, none-received, tally-passes}
use Rattle.mq_connections.proofs.conn.counting.CountingConn.count_harmless.Goals as goal

pub returns-then-not-is_packet_sent-clause-counts : goal.returns-then-not-is_packet_sent-clause-counts
returns-then-not-is_packet_sent-clause-counts c = λ tested taken past e same is here placed was rule tallied.
    let counts = harmless_places c.args.self.now.harmless in
    let harmless = harmless-here c.args.self.now.conn tested taken past e.note here is in
    let none = ap (λ n. is_some (sent_packet n)) same ∙ sym c.is_packet_sent.ensures ∙ c.if-not-is_packet_sent.true in
    tally-passes rule tallied counts counts tested e past (tally_places c.args.self.now.others rule) harmless
    (λ one below. none-more (tried_by_harmless (harmless_tests tested.role (kept tested.role past) e.note) one) (counts one) (none-received tested.role (kept tested.role past) e.note one harmless none))
    (was rule tallied)

pub returns-clause-counts : goal.returns-clause-counts
returns-clause-counts c = λ tested taken past e same is here placed was rule tallied.
    let counts = harmless_places c.args.self.now.harmless in
    let tests = c.of-tests.ensures ∙ (λ i. harmless_tests (here.same_role i) (here.same_state i) (sym same i)) in
    tally-passes rule tallied counts (harmless_places c.count.new.self) tested e past (tally_places c.args.self.now.others rule)
    (harmless-here c.args.self.now.conn tested taken past e.note here is)
    (λ one below. c.count.ensures one (omega (arith, below, placed)) ∙ ap (λ t. cond (tried_by_harmless t one) 1 0 + counts one) tests)
    (was rule tallied)
