use Rattle.std.proofs.Common.{◌≡◌, ◌||◌, Bool, true, false, List, [], refl, sym, ap, ◌∙◌}
use Rattle.std.specs.Prelude.{unwrap_or}
use Rattle.std.specs.List.{list_any}
use Rattle.mq_rules.specs.Subscriptions.{Standing}
use Rattle.mq_filters.specs.Standings.{allows}
use Rattle.mq_subscriptions.specs.Standings.{with_codes}
use Rattle.mq_subscriptions.proofs.filters.answer.Goals as goal

right-none : (b : Bool) → b ≡ (b || false)
right-none true = refl
right-none false = refl

-- where none waits under the identifier, nothing is settled
pub returns-in-None-clause-settled : goal.returns-in-None-clause-settled
returns-in-None-clause-settled c = λ among qos.
    let old = list_any (allows among qos) c.args.settled.now in
    let t : List Standing → Bool = λ filters. list_any (allows among qos) (with_codes filters c.args.codes.now) in
    right-none old ∙ ap (λ b. old || b) (ap (λ o. list_any t (unwrap_or o [])) (sym c.in-None.is) ∙ c.answer.ensures.taken t)
