use Rattle.std.proofs.Common.{ap, sym, ◌==◌, ◌∙◌, List}
use Rattle.std.specs.FinMap as map
use Rattle.mq_ffi.specs.Asking.{Found, leaves, left_by}
use Rattle.mq_ffi.proofs.AskingLaws.{filters_commute}
use Rattle.mq_ffi.proofs.ShownLaws.{none_yet, shown_stays}
use Rattle.mq_ffi.proofs.laws.what_an_event_shows_stays.Goals as goal

pub returns-clause-stays : goal.returns-clause-stays
returns-clause-stays c = λ choice further log more known later k l event within.
    filters_commute (λ found. found.1.decided == event) (λ found. leaves choice found.0.rule) (map.entries later)
    ∙ ap (left_by choice) (shown_stays further log more known later k l event within)
    ∙ sym (filters_commute (λ found. found.1.decided == event) (λ found. leaves choice found.0.rule) (map.entries known))

pub returns-clause-none_yet : goal.returns-clause-none_yet
returns-clause-none_yet c = λ choice further log known k event beyond.
    filters_commute (λ found. found.1.decided == event) (λ found. leaves choice found.0.rule) (map.entries known)
    ∙ ap (left_by choice) (none_yet further log known k event beyond)
