use Rattle.std.proofs.Common.{◌≡◌, subst, sym, Option, Some}
use Rattle.mq_ffi.specs.declared.live.Live.{Live}
use Rattle.mq_ffi.specs.Calling.{MakesWith}
use Rattle.mq_ffi.proofs.calls.fill.Goals as goal

pub returns-in-Ok : goal.returns-in-Ok
returns-in-Ok c =
    let is : c.in-Ok.live.value ≡ c.new.result = c.in-Ok.ensures.ok in
    subst (λ (new : Option Live). MakesWith c.args.limit new c.code_of.result) (sym c.put.ensures)
    (subst (λ (live : Live). MakesWith c.args.limit (Some live) c.code_of.result) (sym is) (c.code_of.ensures, c.new.ensures.told, c.new.ensures.limit, c.new.ensures.turn, c.new.ensures.choice))

pub returns : goal.returns
returns c = subst (λ (new : Option Live). MakesWith c.args.limit new c.code_of-in-Err.result) (sym c.requires) c.code_of-in-Err.ensures
