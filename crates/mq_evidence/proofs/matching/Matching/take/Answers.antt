use Rattle.std.specs.List.{list_any}
use Rattle.mq_filters.specs.Standings.{allows}
use Rattle.mq_evidence.proofs.MatchingLaws.{requests-kept}
use Rattle.mq_evidence.proofs.matching.Matching.take.Goals as goal

pub returns : goal.returns
returns c = λ m s comes before. record {
  topics_are = c.in_ok-take.ensures m s comes before.topics_are;
  requests_are = λ test first.
      let turn = c.args.turn in
      let any = list_any (allows test first) in
      requests-kept test first turn.begins turn.inside turn.position c.args.note.now m s.session (any c.args.self.now.requests) (any c.begin.new.requests) (any c.take_request.new.requests) comes.at comes.same
      (before.requests_are test first) (c.begin.ensures test first) (c.in_ok-take_request.ensures test first);
}
