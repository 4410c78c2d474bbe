use Rattle.std.proofs.Common.{ap, ◌∙◌, false}
use Rattle.mq_rules.specs.ByIdentifier.{kept}
use Rattle.mq_rules.specs.Words.{is_id}
use Rattle.mq_rules.specs.Notes.{opener_of, closer_of, sent_as, pubrel_in}
use Rattle.mq_evidence.specs.Stretches.{last_next}
use Rattle.mq_evidence.proofs.StretchLaws.{latest-kept, unended-kept}
use Rattle.mq_evidence.proofs.senders.SentInSession.take.Goals as goal

pub returns : goal.returns
returns c = λ m ms comes before.
    let t = c.args.turn in
    let n = c.args.note.now in
    let old = c.args.self.now in
    record {
      openers_are = latest-kept t.begins t.inside t.position n m ms comes.at comes.same opener_of (kept old.openers) (kept c.keep_latest.new.positions) before.openers_are
          (λ i. c.in_ok-keep_latest.ensures i ∙ ap (λ o. last_next t.begins t.inside (is_id i o) false t.position (kept old.openers i)) c.opener-opener.ensures);
      held_are = unended-kept t.begins t.inside t.position n m ms comes.at comes.same opener_of closer_of (kept old.held) (kept c.keep_latest-2.new.positions) before.held_are
          (λ i. c.in_ok-keep_latest-2.ensures i
          ∙ ap (λ o. last_next t.begins t.inside (is_id i o) (is_id i c.closer-closer.result) t.position (kept old.held i)) c.opener-opener.ensures
          ∙ ap (λ o. last_next t.begins t.inside (is_id i (opener_of n)) (is_id i o) t.position (kept old.held i)) c.closer-closer.ensures);
      closers_are = latest-kept t.begins t.inside t.position n m ms comes.at comes.same closer_of (kept old.closers) (kept c.keep_latest-3.new.positions) before.closers_are
          (λ i. c.in_ok-keep_latest-3.ensures i ∙ ap (λ o. last_next t.begins t.inside (is_id i o) false t.position (kept old.closers i)) c.closer-closer.ensures);
      pubrels_are = latest-kept t.begins t.inside t.position n m ms comes.at comes.same (sent_as pubrel_in) (kept old.pubrels) (kept c.keep_latest-4.new.positions) before.pubrels_are
          (λ i. c.in_ok-keep_latest-4.ensures i ∙ ap (λ o. last_next t.begins t.inside (is_id i o) false t.position (kept old.pubrels i)) c.sent_pubrel-pubrel.ensures);
    }
