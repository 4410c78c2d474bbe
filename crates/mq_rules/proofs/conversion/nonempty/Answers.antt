use Rattle.std.proofs.Common.{rules, ◌≡◌, length, sym, ◌∙◌}
use Rattle.std.proofs.lemmas.List.{nil_from_length}
use Rattle.mq_rules.proofs.PropertyLaws.{none_from_no_bytes}
use Rattle.mq_rules.proofs.conversion.nonempty.Goals as goal

pub returns-then-is_empty : goal.returns-then-is_empty
returns-then-is_empty c =
    let none : length c.as_bytes.result.now ≡ 0 = search rules in
    sym (none_from_no_bytes c.args.list.now.place c.args.list.now.items c.as_bytes.ensures.allowed
    (sym c.as_bytes.ensures.spelled ∙ nil_from_length c.as_bytes.result.now none))
