use Rattle.std.proofs.Common.{◌≡◌, ℕ, List, ap, length, subst, sym, refl, ◌∙◌, Option, Some}
use Rattle.std.specs.FinMap as map
use Rattle.mq_choice.specs.declared.choice.Choice.{Choice}
use Rattle.mq_judge.specs.Judging.{AreFaultsOf, Knows}
use Rattle.mq_ffi.specs.declared.live.Live.{Live}
use Rattle.mq_ffi.specs.Asking.{CountsFaults, left_by}
use Rattle.mq_ffi.specs.Calling.{AskedInto}
use Rattle.mq_ffi.specs.Holding.{held}
use Rattle.mq_ffi.proofs.calls.fault_count.Goals as goal

pub returns : goal.returns
returns c =
    let asks = CountsFaults c.count_left.result in
    let asked : asks c.in-Some.live.value c.in-Some.live.value c.code_of-2.result = record {
      same = refl;
      answer = c.code_of-2.ensures;
      faults = c.known.result.now;
      known = subst (λ (l : Live). (taken : List ℕ) → Knows l.judge taken → AreFaultsOf l.judge.further taken c.known.result.now) c.deref.ensures c.known.ensures;
      counted = subst (λ (choice : Choice). c.count_left.result ≡ length (left_by choice (map.entries c.known.result.now))) (c.choice.ensures ∙ ap (λ (l : Live). l.choice) c.deref-2.ensures) c.count_left.ensures;
    } in
    subst (λ (o : Option Live). AskedInto (c.count_left.result ≡ c.args.faults.now) asks o (held c.put.new.self) c.code_of-2.result) c.in-Some.ensures.taken
    (subst (λ (o : Option Live). AskedInto (c.count_left.result ≡ c.args.faults.now) asks (Some c.in-Some.live.value) o c.code_of-2.result) (sym c.put.ensures) asked)
