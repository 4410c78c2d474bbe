use Rattle.std.proofs.Common.{subst, Bool, Option}
use Rattle.std.specs.BTreeSet.{contains}
use Rattle.std.specs.Ordering.{nat_cmp}
use Rattle.mq_rules.specs.declared.packet_note.PacketNote.{PacketNote}
use Rattle.mq_rules.specs.declared.packet_note.PublishNote.{PublishNote}
use Rattle.mq_rules.specs.declared.packet_note.ConnackNote.{ConnackNote}
use Rattle.mq_rules.specs.declared.packet_note.DisconnectNote.{DisconnectNote}
use Rattle.mq_rules.specs.declared.note.ItemNote.{ItemNote}
use Rattle.mq_rules.specs.Growing.{Judges, JudgesWithin}
use Rattle.mq_connections.specs.Finding.{item_verdicts, packet_verdicts, publish_verdicts, connack_verdicts, disconnect_verdicts, rest_verdicts, is_among, is_found}
use Rattle.mq_rules.proofs.Exports.{on_err}
use Rattle.mq_connections.proofs.JudgeLaws.{judged-all, refused-item, refused-packet, refused-publish, refused-connack, refused-disconnect, refused-rest}
use Rattle.mq_connections.proofs.conn.Conn.judge.Goals as goal

pub returns-clause-ok : goal.returns-clause-ok
returns-clause-ok c =
    judged-all c.args.self.now.role c.args.self.now.state (contains nat_cmp c.args.self.now.aliases) c.args.note.now c.args.place c.args.faults.now c.judge_item.new.faults c.judge_packet.new.faults c.judge_publish.new.faults c.judge_connack.new.faults c.judge_disconnect.new.faults c.judge_rest.new.faults
    (subst (λ (o : Option ItemNote). Judges (is_among (item_verdicts c.args.self.now.role c.args.self.now.state o)) c.args.place c.args.faults.now c.judge_item.new.faults) c.sent_item.ensures c.in_ok-judge_item.ensures.ok)
    (subst (λ (o : Option PacketNote). Judges (is_among (packet_verdicts c.args.self.now.role c.args.self.now.state o)) c.args.place c.judge_item.new.faults c.judge_packet.new.faults) c.sent_packet.ensures c.in_ok-judge_packet.ensures.ok)
    (subst (λ (o : Option PublishNote). Judges (is_among (publish_verdicts c.args.self.now.role c.args.self.now.state (contains nat_cmp c.args.self.now.aliases) o)) c.args.place c.judge_packet.new.faults c.judge_publish.new.faults) c.sent_publish.ensures c.in_ok-judge_publish.ensures.ok)
    (subst (λ (o : Option ConnackNote). Judges (is_among (connack_verdicts c.args.self.now.role c.args.self.now.state o)) c.args.place c.judge_publish.new.faults c.judge_connack.new.faults) c.sent_connack.ensures c.in_ok-judge_connack.ensures.ok)
    (subst (λ (o : Option DisconnectNote). Judges (is_among (disconnect_verdicts c.args.self.now.role c.args.self.now.state o)) c.args.place c.judge_connack.new.faults c.judge_disconnect.new.faults) c.sent_disconnect.ensures c.in_ok-judge_disconnect.ensures.ok)
    (subst (λ (o : Bool). Judges (is_among (rest_verdicts c.args.self.now.role c.args.self.now.state o)) c.args.place c.judge_disconnect.new.faults c.judge_rest.new.faults) c.is_rest.ensures c.in_ok-judge_rest.ensures.ok)

pub returns-in_err-judge_item-clause-memory : goal.returns-in_err-judge_item-clause-memory
returns-in_err-judge_item-clause-memory c =
    on_err c.from_residual.result (JudgesWithin (is_found c.args.self.now.role c.args.self.now.state (contains nat_cmp c.args.self.now.aliases) c.args.note.now) c.args.place c.args.faults.now c.judge_item.new.faults)
    (refused-item c.args.self.now.role c.args.self.now.state (contains nat_cmp c.args.self.now.aliases) c.args.note.now c.args.place c.args.faults.now c.judge_item.new.faults
    (subst (λ (o : Option ItemNote). JudgesWithin (is_among (item_verdicts c.args.self.now.role c.args.self.now.state o)) c.args.place c.args.faults.now c.judge_item.new.faults) c.sent_item.ensures c.in_err-judge_item.ensures.memory))

pub returns-in_err-judge_packet-clause-memory : goal.returns-in_err-judge_packet-clause-memory
returns-in_err-judge_packet-clause-memory c =
    on_err c.from_residual-in_err-judge_packet.result (JudgesWithin (is_found c.args.self.now.role c.args.self.now.state (contains nat_cmp c.args.self.now.aliases) c.args.note.now) c.args.place c.args.faults.now c.judge_packet.new.faults)
    (refused-packet c.args.self.now.role c.args.self.now.state (contains nat_cmp c.args.self.now.aliases) c.args.note.now c.args.place c.args.faults.now c.judge_item.new.faults c.judge_packet.new.faults
    (subst (λ (o : Option ItemNote). Judges (is_among (item_verdicts c.args.self.now.role c.args.self.now.state o)) c.args.place c.args.faults.now c.judge_item.new.faults) c.sent_item.ensures c.in_ok-judge_item.ensures.ok)
    (subst (λ (o : Option PacketNote). JudgesWithin (is_among (packet_verdicts c.args.self.now.role c.args.self.now.state o)) c.args.place c.judge_item.new.faults c.judge_packet.new.faults) c.sent_packet.ensures c.in_err-judge_packet.ensures.memory))

pub returns-in_err-judge_publish-clause-memory : goal.returns-in_err-judge_publish-clause-memory
returns-in_err-judge_publish-clause-memory c =
    on_err c.from_residual-in_err-judge_publish.result (JudgesWithin (is_found c.args.self.now.role c.args.self.now.state (contains nat_cmp c.args.self.now.aliases) c.args.note.now) c.args.place c.args.faults.now c.judge_publish.new.faults)
    (refused-publish c.args.self.now.role c.args.self.now.state (contains nat_cmp c.args.self.now.aliases) c.args.note.now c.args.place c.args.faults.now c.judge_item.new.faults c.judge_packet.new.faults c.judge_publish.new.faults
    (subst (λ (o : Option ItemNote). Judges (is_among (item_verdicts c.args.self.now.role c.args.self.now.state o)) c.args.place c.args.faults.now c.judge_item.new.faults) c.sent_item.ensures c.in_ok-judge_item.ensures.ok)
    (subst (λ (o : Option PacketNote). Judges (is_among (packet_verdicts c.args.self.now.role c.args.self.now.state o)) c.args.place c.judge_item.new.faults c.judge_packet.new.faults) c.sent_packet.ensures c.in_ok-judge_packet.ensures.ok)
    (subst (λ (o : Option PublishNote). JudgesWithin (is_among (publish_verdicts c.args.self.now.role c.args.self.now.state (contains nat_cmp c.args.self.now.aliases) o)) c.args.place c.judge_packet.new.faults c.judge_publish.new.faults) c.sent_publish.ensures c.in_err-judge_publish.ensures.memory))

pub returns-in_err-judge_connack-clause-memory : goal.returns-in_err-judge_connack-clause-memory
returns-in_err-judge_connack-clause-memory c =
    on_err c.from_residual-in_err-judge_connack.result (JudgesWithin (is_found c.args.self.now.role c.args.self.now.state (contains nat_cmp c.args.self.now.aliases) c.args.note.now) c.args.place c.args.faults.now c.judge_connack.new.faults)
    (refused-connack c.args.self.now.role c.args.self.now.state (contains nat_cmp c.args.self.now.aliases) c.args.note.now c.args.place c.args.faults.now c.judge_item.new.faults c.judge_packet.new.faults c.judge_publish.new.faults c.judge_connack.new.faults
    (subst (λ (o : Option ItemNote). Judges (is_among (item_verdicts c.args.self.now.role c.args.self.now.state o)) c.args.place c.args.faults.now c.judge_item.new.faults) c.sent_item.ensures c.in_ok-judge_item.ensures.ok)
    (subst (λ (o : Option PacketNote). Judges (is_among (packet_verdicts c.args.self.now.role c.args.self.now.state o)) c.args.place c.judge_item.new.faults c.judge_packet.new.faults) c.sent_packet.ensures c.in_ok-judge_packet.ensures.ok)
    (subst (λ (o : Option PublishNote). Judges (is_among (publish_verdicts c.args.self.now.role c.args.self.now.state (contains nat_cmp c.args.self.now.aliases) o)) c.args.place c.judge_packet.new.faults c.judge_publish.new.faults) c.sent_publish.ensures c.in_ok-judge_publish.ensures.ok)
    (subst (λ (o : Option ConnackNote). JudgesWithin (is_among (connack_verdicts c.args.self.now.role c.args.self.now.state o)) c.args.place c.judge_publish.new.faults c.judge_connack.new.faults) c.sent_connack.ensures c.in_err-judge_connack.ensures.memory))

pub returns-in_err-judge_disconnect-clause-memory : goal.returns-in_err-judge_disconnect-clause-memory
returns-in_err-judge_disconnect-clause-memory c =
    on_err c.from_residual-in_err-judge_disconnect.result (JudgesWithin (is_found c.args.self.now.role c.args.self.now.state (contains nat_cmp c.args.self.now.aliases) c.args.note.now) c.args.place c.args.faults.now c.judge_disconnect.new.faults)
    (refused-disconnect c.args.self.now.role c.args.self.now.state (contains nat_cmp c.args.self.now.aliases) c.args.note.now c.args.place c.args.faults.now c.judge_item.new.faults c.judge_packet.new.faults c.judge_publish.new.faults c.judge_connack.new.faults c.judge_disconnect.new.faults
    (subst (λ (o : Option ItemNote). Judges (is_among (item_verdicts c.args.self.now.role c.args.self.now.state o)) c.args.place c.args.faults.now c.judge_item.new.faults) c.sent_item.ensures c.in_ok-judge_item.ensures.ok)
    (subst (λ (o : Option PacketNote). Judges (is_among (packet_verdicts c.args.self.now.role c.args.self.now.state o)) c.args.place c.judge_item.new.faults c.judge_packet.new.faults) c.sent_packet.ensures c.in_ok-judge_packet.ensures.ok)
    (subst (λ (o : Option PublishNote). Judges (is_among (publish_verdicts c.args.self.now.role c.args.self.now.state (contains nat_cmp c.args.self.now.aliases) o)) c.args.place c.judge_packet.new.faults c.judge_publish.new.faults) c.sent_publish.ensures c.in_ok-judge_publish.ensures.ok)
    (subst (λ (o : Option ConnackNote). Judges (is_among (connack_verdicts c.args.self.now.role c.args.self.now.state o)) c.args.place c.judge_publish.new.faults c.judge_connack.new.faults) c.sent_connack.ensures c.in_ok-judge_connack.ensures.ok)
    (subst (λ (o : Option DisconnectNote). JudgesWithin (is_among (disconnect_verdicts c.args.self.now.role c.args.self.now.state o)) c.args.place c.judge_connack.new.faults c.judge_disconnect.new.faults) c.sent_disconnect.ensures c.in_err-judge_disconnect.ensures.memory))

pub returns-in_err-judge_rest-clause-memory : goal.returns-in_err-judge_rest-clause-memory
returns-in_err-judge_rest-clause-memory c =
    on_err c.from_residual-in_err-judge_rest.result (JudgesWithin (is_found c.args.self.now.role c.args.self.now.state (contains nat_cmp c.args.self.now.aliases) c.args.note.now) c.args.place c.args.faults.now c.judge_rest.new.faults)
    (refused-rest c.args.self.now.role c.args.self.now.state (contains nat_cmp c.args.self.now.aliases) c.args.note.now c.args.place c.args.faults.now c.judge_item.new.faults c.judge_packet.new.faults c.judge_publish.new.faults c.judge_connack.new.faults c.judge_disconnect.new.faults c.judge_rest.new.faults
    (subst (λ (o : Option ItemNote). Judges (is_among (item_verdicts c.args.self.now.role c.args.self.now.state o)) c.args.place c.args.faults.now c.judge_item.new.faults) c.sent_item.ensures c.in_ok-judge_item.ensures.ok)
    (subst (λ (o : Option PacketNote). Judges (is_among (packet_verdicts c.args.self.now.role c.args.self.now.state o)) c.args.place c.judge_item.new.faults c.judge_packet.new.faults) c.sent_packet.ensures c.in_ok-judge_packet.ensures.ok)
    (subst (λ (o : Option PublishNote). Judges (is_among (publish_verdicts c.args.self.now.role c.args.self.now.state (contains nat_cmp c.args.self.now.aliases) o)) c.args.place c.judge_packet.new.faults c.judge_publish.new.faults) c.sent_publish.ensures c.in_ok-judge_publish.ensures.ok)
    (subst (λ (o : Option ConnackNote). Judges (is_among (connack_verdicts c.args.self.now.role c.args.self.now.state o)) c.args.place c.judge_publish.new.faults c.judge_connack.new.faults) c.sent_connack.ensures c.in_ok-judge_connack.ensures.ok)
    (subst (λ (o : Option DisconnectNote). Judges (is_among (disconnect_verdicts c.args.self.now.role c.args.self.now.state o)) c.args.place c.judge_connack.new.faults c.judge_disconnect.new.faults) c.sent_disconnect.ensures c.in_ok-judge_disconnect.ensures.ok)
    (subst (λ (o : Bool). JudgesWithin (is_among (rest_verdicts c.args.self.now.role c.args.self.now.state o)) c.args.place c.judge_disconnect.new.faults c.judge_rest.new.faults) c.is_rest.ensures c.in_err-judge_rest.ensures.memory))
