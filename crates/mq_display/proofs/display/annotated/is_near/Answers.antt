use Rattle.std.proofs.Common.{◌∙◌, ◌-◌, Option, ℕ, sym, ap, nat_le}
use Rattle.std.specs.FinMap as map
use Rattle.mq_rules.specs.FaultKeys.{first_from}
use Rattle.mq_display.specs.Display.{is_near}
use Rattle.mq_display.proofs.NearLaws.{is_close, near_is}
use Rattle.mq_display.proofs.display.annotated.is_near.Goals as goal

pub returns-in-Some-first_from : goal.returns-in-Some-first_from
returns-in-Some-first_from c =
    let faults = map.entries c.args.faults.now in
    ap (λ n. nat_le n c.in-Some.count) c.saturating_sub-in-Some-first_from.ensures
    ∙ ap (is_close c.in-Some.count c.args.position)
    (sym c.in-Some-first_from.is ∙ c.first_from.ensures ∙ ap (λ (n : ℕ). first_from n faults) c.saturating_sub.ensures)
    ∙ near_is c.in-Some.count c.args.position c.args.faults.now ∙ ap (λ (a : Option ℕ). is_near a faults c.args.position) (sym c.in-Some.is)

pub returns-in-None : goal.returns-in-None
returns-in-None c =
    let faults = map.entries c.args.faults.now in
    ap (is_close c.in-Some.count c.args.position) (sym c.in-None.is ∙ c.first_from.ensures ∙ ap (λ (n : ℕ). first_from n faults) c.saturating_sub.ensures)
    ∙ near_is c.in-Some.count c.args.position c.args.faults.now ∙ ap (λ (a : Option ℕ). is_near a faults c.args.position) (sym c.in-Some.is)
