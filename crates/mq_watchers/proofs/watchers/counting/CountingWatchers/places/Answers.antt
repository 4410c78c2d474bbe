use Rattle.std.proofs.Common.{◌≡◌, Bool, true, false, cond, Option, Some, None, sym, ap, ◌∙◌}
use Rattle.std.specs.Option.{option_or}
use Rattle.mq_rules.specs.Occasions.{places}
use Rattle.mq_watchers.proofs.JudgingLaws.{counted-session, counted-past}
use Rattle.mq_watchers.proofs.watchers.counting.CountingWatchers.places.Goals as goal

pub returns-then-tests : goal.returns-then-tests
returns-then-tests c = λ tested taken past was.
    counted-session tested c.args.rule past c.places.result (sym c.tests.ensures ∙ c.if-tests.true) (c.places.ensures tested taken past was.1.1.1.1.1 (sym c.tests.ensures ∙ c.if-tests.true))

pub returns : goal.returns
returns c = λ tested taken past was.
    c.or-3.ensures
    ∙ ap (option_or c.places-2.result) (c.or-2.ensures ∙ ap (option_or c.places-3.result) c.or.ensures)
    ∙ (λ i. option_or (c.places-2.ensures tested taken past was.1.1.1.0 i) (option_or (c.places-3.ensures tested taken past was.1.1.1.1.0 i) (option_or (c.places-4.ensures tested taken past was.1.1.0 i) (c.places-5.ensures tested taken past was.1.0 i))))
    ∙ counted-past tested c.args.rule past (sym c.tests.ensures ∙ c.if-tests.false)
