use Rattle.std.proofs.Common.{ap, ◌∙◌, subst, List}
use Rattle.std.specs.List.{list_any, sum_by}
use Rattle.mq_subscriptions.specs.Standings.{Waits, waits_of}
use Rattle.mq_subscriptions.proofs.AwaitedLaws.{TakesAny, TakesSum, waiting-any, waiting-sums}
use Rattle.mq_subscriptions.proofs.awaited.Awaited.wait.Goals as goal

pub returns-clause-any : goal.returns-clause-any
returns-clause-any c = λ t.
    ap (λ es. list_any t (waits_of es)) c.in_ok-insert.ensures.entries
    ∙ waiting-any c.args.identifier c.take-earlier.result c.args.request c.in_ok-requests.requests c.args.self.now c.take-earlier.new.requests.entries
    (subst (λ (old : List Waits). TakesAny c.args.identifier c.take-earlier.result old c.take-earlier.new.requests.entries) c.self.view_is c.take-earlier.ensures.any)
    c.take-earlier.ensures.apart c.in_ok-requests.ensures t

pub returns-clause-sums : goal.returns-clause-sums
returns-clause-sums c = λ weigh.
    ap (λ es. sum_by weigh (waits_of es)) c.in_ok-insert.ensures.entries
    ∙ waiting-sums c.args.identifier c.take-earlier.result c.args.request c.in_ok-requests.requests c.args.self.now c.take-earlier.new.requests.entries
    (subst (λ (old : List Waits). TakesSum c.args.identifier c.take-earlier.result old c.take-earlier.new.requests.entries) c.self.view_is c.take-earlier.ensures.sums)
    c.take-earlier.ensures.apart c.in_ok-requests.ensures weigh
