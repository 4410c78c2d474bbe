use Rattle.std.proofs.Common.{◌-◌, sym, ap, ◌∙◌}
use Rattle.std.specs.Prelude.{option_map, unwrap_or}
use Rattle.mq_rules.specs.KeepAlive.{time}
use Rattle.mq_plain.specs.Finding.{moment_in}
use Rattle.mq_plain.proofs.further.silences.silence_at.Goals as goal

pub returns-in-Some : goal.returns-in-Some
returns-in-Some c =
    c.moments_since.ensures
    ∙ ap (λ o. unwrap_or (option_map (λ m. c.args.event.now.place.moment - time m) o) 0) (ap moment_in (sym c.in-Some.is) ∙ c.latest_moment.ensures)

pub returns-in-None : goal.returns-in-None
returns-in-None c =
    ap (λ o. unwrap_or (option_map (λ m. c.args.event.now.place.moment - time m) o) 0) (ap moment_in (sym c.in-None.is) ∙ c.latest_moment.ensures)
