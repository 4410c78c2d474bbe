use Rattle.std.proofs.Common.{ap, sym, ◌∙◌, ◌&&◌, ◌||◌, not, true}
use Rattle.std.specs.Prelude.{is_some, option_map}
use Rattle.mq_rules.specs.declared.role.Role.{Role}
use Rattle.mq_rules.specs.Notes.{is_open, connack_of, is_received_pingreq, is_sent_pingresp}
use Rattle.mq_rules.specs.Moments.{position, note, latest, those}
use Rattle.mq_rules.specs.Connections.{connection, first_connack}
use Rattle.mq_rules.specs.Identifiers.{counts}
use Rattle.mq_rules.specs.Counter.{in_flight}
use Rattle.mq_evidence.specs.Counters.{asks_ping, answers_ping, counted_by, counted, flown}
use Rattle.mq_evidence.specs.Stretches.{again_next}
use Rattle.mq_evidence.proofs.StretchLaws.{again-kept}
use Rattle.mq_evidence.proofs.CounterLaws.{greeted-next, count-next, connection-longer, flown-next, flying-below, count-below}
use Rattle.mq_evidence.proofs.counters.Counters.take.Goals as goal

pub returns : goal.returns
returns c = λ role m comes before.
    let at = c.args.turn.position in
    let n = c.args.note.now in
    let old = c.args.self.now in
    let ms = connection m.past in
    let flying = in_flight (those (counts role) ms) in
    let opens = c.is_open-opens.ensures ∙ ap is_open (sym comes.same) in
    let asks = c.is_received_pingreq-asks.ensures ∙ ap is_received_pingreq (sym comes.same) in
    let answers = c.is_sent_pingresp-answers.ensures ∙ ap is_sent_pingresp (sym comes.same) in
    let greets = c.is_connack-greets.ensures ∙ ap (λ (r : Role). is_some (connack_of r n)) before.same_role ∙ ap (λ x. is_some (connack_of role x)) (sym comes.same) in
    let counting = c.counts-counted_now.ensures ∙ ap (λ (r : Role). counted_by r old.greeted) before.same_role ∙ ap (counted_by role) before.greeted_is in
    record {
      same_role = before.same_role;
      greeted_is = c.greeted_after-self.ensures
          ∙ ap (λ b. (not b && old.greeted) || c.is_connack-greets.result) opens
          ∙ ap (λ b. (not (is_open (note m)) && b) || c.is_connack-greets.result) before.greeted_is
          ∙ ap (λ b. (not (is_open (note m)) && is_some (first_connack role ms)) || b) greets
          ∙ sym (greeted-next role m.event m.past);
      flying = c.flown-self.ensures (flying-below role m at old.in_flight comes.at before.flying)
          ∙ ap (λ b. flown b n old.in_flight) counting
          ∙ ap (λ x. flown (counted_by role (is_some (first_connack role ms))) x old.in_flight) (sym comes.same)
          ∙ ap (flown (counted_by role (is_some (first_connack role ms))) (note m)) before.flying
          ∙ sym (flown-next role m.event m.past);
      asked = c.counted-self.ensures (count-below asks_ping m at old.pingreqs comes.at before.asked)
          ∙ ap (λ b. counted b c.is_open-opens.result old.pingreqs) asks
          ∙ ap (λ b. counted (asks_ping m) b old.pingreqs) opens
          ∙ ap (counted (asks_ping m) (is_open (note m))) before.asked
          ∙ sym (count-next asks_ping m.event m.past);
      asked_at = again-kept asks_ping (is_open (note m)) true c.is_received_pingreq-asks.result at old.pingreq_at c.keep_again-self.result m ms comes.at (sym asks) before.asked_at
          (c.keep_again-self.ensures ∙ ap (λ b. again_next b true c.is_received_pingreq-asks.result at old.pingreq_at) opens)
          ∙ ap (λ xs. option_map position (latest asks_ping xs)) (connection-longer m.event m.past);
      answered = c.counted-self-2.ensures (count-below answers_ping m at old.pingresps comes.at before.answered)
          ∙ ap (λ b. counted b c.is_open-opens.result old.pingresps) answers
          ∙ ap (λ b. counted (answers_ping m) b old.pingresps) opens
          ∙ ap (counted (answers_ping m) (is_open (note m))) before.answered
          ∙ sym (count-next answers_ping m.event m.past);
    }
