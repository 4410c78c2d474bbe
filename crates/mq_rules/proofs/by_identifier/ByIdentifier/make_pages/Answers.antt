use Rattle.std.proofs.Common.{◌∙◌, ap, arith}
use Rattle.mq_rules.specs.ByIdentifier.{value_at}
use Rattle.mq_rules.proofs.ByIdentifierLaws.{value_at-push}
use Rattle.mq_rules.proofs.by_identifier.ByIdentifier.make_pages.Goals as goal

-- a page more, which keeps nothing
pub returns-in_ok-push-clause-same : goal.returns-in_ok-push-clause-same
returns-in_ok-push-clause-same g c = λ p s. ap (λ pages. value_at pages p s) c.in_ok-push.ensures.items ∙ value_at-push c.loop.self.pages.items _ c.new.ensures p s ∙ c.loop.invariant.1 p s

pub loop-preserved : goal.loop-preserved
loop-preserved g c = (omega (arith, c.in_ok-push.ensures.len, c.push.new.self.ok, c.loop.self.pages.ok), λ p s. ap (λ pages. value_at pages p s) c.in_ok-push.ensures.items ∙ value_at-push c.loop.self.pages.items _ c.new.ensures p s ∙ c.loop.invariant.1 p s)
