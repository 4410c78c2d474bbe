use Rattle.std.proofs.Common.{◌≡◌, ◌||◌, Bool, Option, Some, true, false, ap, refl, sym, ◌∙◌}
use Rattle.std.specs.Prelude.{is_some, cond}
use Rattle.mq_rules.specs.ByIdentifier.{is_kept, kept}
use Rattle.mq_evidence.proofs.tables.keep_earlier.Goals as goal

either : (b : Bool) (o : Option (Unit {0})) → is_some (cond b (Some tt) o) ≡ (b || is_some o)
either true o = refl
either false o = refl

pub returns-in_ok-insert_all : goal.returns-in_ok-insert_all
returns-in_ok-insert_all c = λ i.
    ap is_some (c.in_ok-insert_all.ensures.ok i)
    ∙ either (is_some (kept c.args.before.now i)) (kept c.args.earlier.now i)
    ∙ ap (λ b. cond b (is_some (kept c.args.before.now i) || is_kept c.args.earlier.now i) (is_kept c.args.earlier.now i)) (sym c.if-begins.true)
