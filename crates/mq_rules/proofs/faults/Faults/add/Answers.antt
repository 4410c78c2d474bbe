use Rattle.std.proofs.Common.{◌≡◌, sym, ap, ◌∙◌, true, false, None}
use Rattle.std.specs.Prelude.{is_some}
use Rattle.std.specs.FinMap as map
use Rattle.mq_rules.proofs.FaultKeyLaws.{get-entries_of, one_more, with_fault-there, with_fault-new, on_err}
use Rattle.mq_rules.proofs.faults.Faults.add.Goals as goal

pub returns-then-contains_key-clause-ok : goal.returns-then-contains_key-clause-ok
returns-then-contains_key-clause-ok c =
    let has : is_some (map.get c.args.self.now c.args.key) ≡ true =
    ap (λ m. is_some (map.get m c.args.key)) (sym c.self.view_is) ∙ ap is_some (get-entries_of _ c.args.key) ∙ sym c.contains_key.ensures ∙ c.if-contains_key.true in
    with_fault-there c.args.key c.args.fault c.args.self.now has

pub returns-clause-ok : goal.returns-clause-ok
returns-clause-ok c =
    let lacks : is_some (map.get c.args.self.now c.args.key) ≡ false =
    ap (λ m. is_some (map.get m c.args.key)) (sym c.self.view_is) ∙ ap is_some (get-entries_of _ c.args.key) ∙ sym c.contains_key.ensures ∙ c.if-contains_key.false in
    one_more c.self.inside.found.entries _ c.args.key c.args.fault c.in_ok-insert.ensures.updates.0
    ∙ ap (λ m. map.insert m c.args.key c.args.fault) c.self.view_is ∙ with_fault-new c.args.key c.args.fault c.args.self.now lacks

pub returns-in_err-insert-clause-absent : goal.returns-in_err-insert-clause-absent
returns-in_err-insert-clause-absent c =
    let none : map.get c.args.self.now c.args.key ≡ None =
    ap (λ m. map.get m c.args.key) (sym c.self.view_is) ∙ get-entries_of _ c.args.key ∙ c.in_err-insert.ensures.absent in
    on_err c.from_residual.result (map.get c.args.self.now c.args.key ≡ None) none
