use Rattle.std.proofs.Common.{ap}
use Rattle.std.specs.List.{list_any}
use Rattle.mq_filters.specs.Standings.{allows}
use Rattle.mq_evidence.proofs.matching.Matching.new.Goals as goal

pub returns : goal.returns
returns c = record { topics_are = c.new.ensures; requests_are = λ test first. ap (list_any (allows test first)) c.new-2.ensures }
