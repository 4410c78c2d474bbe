use Rattle.std.proofs.Common.{◌≡◌, ℕ, List, ap, subst, sym, refl, ◌∙◌, Option, Some}
use Rattle.std.specs.FinMap as map
use Rattle.mq_choice.specs.declared.choice.Choice.{Choice}
use Rattle.mq_judge.specs.Judging.{AreFaultsOf, Knows}
use Rattle.mq_ffi.specs.declared.live.Live.{Live}
use Rattle.mq_ffi.specs.Asking.{AsksFault, ShowsRow, fault_asked, left_by}
use Rattle.mq_ffi.specs.Calling.{AskedInto}
use Rattle.mq_ffi.specs.Holding.{held}
use Rattle.mq_ffi.proofs.AskingLaws.{shows_row}
use Rattle.mq_ffi.proofs.calls.asked_fault.Goals as goal

pub returns : goal.returns
returns c =
    let asks = AsksFault (fault_asked c.args.which) c.args.fault.now c.write_found-answer.new.fault in
    let given : c.choice.result ≡ c.in-Some.live.value.choice = c.choice.ensures ∙ ap (λ (l : Live). l.choice) c.deref-2.ensures in
    let asked : asks c.in-Some.live.value c.in-Some.live.value c.write_found-answer.result = record {
      same = refl;
      faults = c.known.result.now;
      known = subst (λ (l : Live). (taken : List ℕ) → Knows l.judge taken → AreFaultsOf l.judge.further taken c.known.result.now) c.deref.ensures c.known.ensures;
      shown = subst (λ (choice : Choice). ShowsRow (fault_asked c.args.which (left_by choice (map.entries c.known.result.now))) c.args.fault.now c.write_found-answer.new.fault c.write_found-answer.result) given (shows_row _ c.asked_of.result c.args.fault.now c.write_found-answer.new.fault c.write_found-answer.result c.asked_of.ensures c.write_found-answer.ensures);
    } in
    subst (λ (o : Option Live). AskedInto (c.write_found-answer.new.fault ≡ c.args.fault.now) asks o (held c.put.new.self) c.write_found-answer.result) c.in-Some.ensures.taken
    (subst (λ (o : Option Live). AskedInto (c.write_found-answer.new.fault ≡ c.args.fault.now) asks (Some c.in-Some.live.value) o c.write_found-answer.result) (sym c.put.ensures) asked)
