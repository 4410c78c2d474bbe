use Rattle.std.proofs.Common.{◌≡◌, ℕ, subst, sym, ◌∙◌, Option, None}
use Rattle.mq_ffi.specs.declared.live.Live.{Live}
use Rattle.mq_ffi.specs.Calling.{Makes, MakesFor}
use Rattle.mq_ffi.specs.Holding.{held}
use Rattle.mq_ffi.proofs.CallingLaws.{empty}
use Rattle.mq_ffi.proofs.calls.make.Goals as goal

pub fill-requires : goal.fill-requires
fill-requires c = empty (held c.args.judge.now) (sym c.is_held.ensures ∙ c.if-is_held.false)

pub returns-in-Some : goal.returns-in-Some
returns-in-Some c =
    let none : held c.args.judge.now ≡ None = empty (held c.args.judge.now) (sym c.is_held.ensures ∙ c.if-is_held.false) in
    subst (λ (old : Option Live). Makes c.args.limit old (held c.fill.new.judge) c.fill.result) (sym none)
    (subst (λ (limit : Option ℕ). MakesFor limit (held c.fill.new.judge) c.fill.result) (sym c.in-Some.is ∙ c.limit_by.ensures) c.fill.ensures)
