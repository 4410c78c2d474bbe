use Rattle.std.proofs.Common.{◌≡◌, ap, sym, ◌∙◌, ◌&&◌, ◌||◌, not, cond, None, Some, Option, ℕ}
use Rattle.std.specs.Prelude.{is_some, option_map, unwrap_or, ◌==◌}
use Rattle.std.specs.Option.{option_or}
use Rattle.mq_rules.specs.declared.role.Role.{Role}
use Rattle.mq_rules.specs.declared.packet_note.ConnectNote.{ConnectNote}
use Rattle.mq_rules.specs.declared.packet_note.ConnackNote.{ConnackNote}
use Rattle.mq_rules.specs.Notes.{is_open, connect_of, connack_of}
use Rattle.mq_rules.specs.Moments.{newest, first_given}
use Rattle.mq_rules.specs.Connections.{connection}
use Rattle.mq_rules.specs.KeepAlive.{client_item, is_heard, keep_alive_by}
use Rattle.mq_rules.specs.Under.{seen}
use Rattle.mq_evidence.specs.declared.hearing.Heard.{Heard}
use Rattle.mq_evidence.specs.Hearing.{heard_at, asked_seconds}
use Rattle.mq_evidence.proofs.HearingLaws.{given-next, asked-next, unanswered, heard-next}
use Rattle.mq_evidence.proofs.hearing.Hearing.take.Goals as goal

pub returns : goal.returns
returns c = λ role past is before.
    let n = c.args.note.now in
    let e = seen c.args.at n in
    let m = newest e past in
    let old = c.args.self.now in
    let opens : c.is_open-opens.result ≡ is_open n = c.is_open-opens.ensures in
    let asks : c.asked_by-asked.result ≡ option_map (λ (d : ConnectNote). d.keep_alive) (connect_of role n) = c.asked_by-asked.ensures ∙ ap (λ (r : Role). option_map (λ (d : ConnectNote). d.keep_alive) (connect_of r n)) before.same_role in
    let gives : c.given_by-given.result ≡ keep_alive_by role m = c.given_by-given.ensures
    ∙ ap (λ (r : Role). option_map (λ (a : ConnackNote). cond (a.code == 0) (unwrap_or a.server_keep_alive (unwrap_or old.asked 0)) 0) (connack_of r n)) before.same_role
    ∙ ap (λ (o : Option ℕ). option_map (λ (a : ConnackNote). cond (a.code == 0) (unwrap_or a.server_keep_alive (unwrap_or o 0)) 0) (connack_of role n)) before.asked_is in
    let hears : c.is_heard-hears.result ≡ is_heard role m = c.is_heard-hears.ensures
    ∙ ap (λ (r : Role). is_some (client_item r n) || (is_some (connack_of r n) && not c.is_some.result)) before.same_role
    ∙ ap (λ b. is_some (client_item role n) || (is_some (connack_of role n) && not b)) (c.is_some.ensures ∙ ap is_some before.given_is)
    ∙ ap (λ b. is_some (client_item role n) || (is_some (connack_of role n) && b)) (unanswered role (connection past)) in
    record {
      same_role = before.same_role;
      asked_is = c.first_after-self-2.ensures
          ∙ ap (λ b. option_or (cond b None old.asked) c.asked_by-asked.result) opens
          ∙ ap (λ o. option_or (cond (is_open n) None o) c.asked_by-asked.result) before.asked_is
          ∙ ap (λ o. option_or (cond (is_open n) None (asked_seconds role (connection past))) o) asks
          ∙ sym (asked-next role e past);
      given_is = c.first_after-self.ensures
          ∙ ap (λ b. option_or (cond b None old.given) c.given_by-given.result) opens
          ∙ ap (λ o. option_or (cond (is_open n) None o) c.given_by-given.result) before.given_is
          ∙ ap (λ o. option_or (cond (is_open n) None (first_given (keep_alive_by role) (connection past))) o) gives
          ∙ sym (given-next (keep_alive_by role) e past);
      heard_is = c.heard_after-self.ensures
          ∙ ap (λ (p : ℕ). cond c.is_heard-hears.result (Some (place p)) (cond c.is_open-opens.result None old.heard)) is
          ∙ ap (λ b. cond b (Some (heard_at m)) (cond c.is_open-opens.result None old.heard)) hears
          ∙ ap (λ b. cond (is_heard role m) (Some (heard_at m)) (cond b None old.heard)) opens
          ∙ ap (λ o. cond (is_heard role m) (Some (heard_at m)) (cond (is_open n) None o)) before.heard_is
          ∙ sym (heard-next role e past);
    }
  where
    place : ℕ → Heard
    place p = record { position = p; moment = c.args.at.moment }
