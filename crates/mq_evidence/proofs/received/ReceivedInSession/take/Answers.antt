use Rattle.std.proofs.Common.{ap, ◌∙◌, false}
use Rattle.mq_rules.specs.ByIdentifier.{kept}
use Rattle.mq_rules.specs.Words.{is_id}
use Rattle.mq_rules.specs.Notes.{received_exactly_once, released_id, sent_as, ended_in}
use Rattle.mq_evidence.specs.Stretches.{last_next, first_next}
use Rattle.mq_evidence.proofs.StretchLaws.{latest-kept, earliest-kept}
use Rattle.mq_evidence.proofs.received.ReceivedInSession.take.Goals as goal

pub returns : goal.returns
returns c = λ m ms comes before.
    let t = c.args.turn in
    let n = c.args.note.now in
    let old = c.args.self.now in
    record {
      brought_are = latest-kept t.begins t.inside t.position n m ms comes.at comes.same received_exactly_once (kept old.brought) (kept c.keep_in_session.new.positions) before.brought_are
          (λ i. c.in_ok-keep_in_session.ensures i ∙ ap (λ o. last_next t.begins t.inside (is_id i o) false t.position (kept old.brought i)) c.received_exactly_once-brings.ensures);
      firsts_are = earliest-kept t.begins t.inside t.position n m ms comes.at comes.same received_exactly_once (sent_as ended_in) (kept old.firsts) (kept c.keep_earliest.new.positions) before.firsts_are
          (λ i. c.in_ok-keep_earliest.ensures i
          ∙ ap (λ o. first_next t.begins t.inside (is_id i o) (is_id i c.ender-ender.result) t.position (kept old.firsts i)) c.received_exactly_once-brings.ensures
          ∙ ap (λ o. first_next t.begins t.inside (is_id i (received_exactly_once n)) (is_id i o) t.position (kept old.firsts i)) c.ender-ender.ensures);
      enders_are = latest-kept t.begins t.inside t.position n m ms comes.at comes.same (sent_as ended_in) (kept old.enders) (kept c.keep_in_session-2.new.positions) before.enders_are
          (λ i. c.in_ok-keep_in_session-2.ensures i ∙ ap (λ o. last_next t.begins t.inside (is_id i o) false t.position (kept old.enders i)) c.ender-ender.ensures);
      releases_are = latest-kept t.begins t.inside t.position n m ms comes.at comes.same released_id (kept old.releases) (kept c.keep_in_session-3.new.positions) before.releases_are
          (λ i. c.in_ok-keep_in_session-3.ensures i ∙ ap (λ o. last_next t.begins t.inside (is_id i o) false t.position (kept old.releases i)) c.released_identifier-release.ensures);
    }
