use Rattle.std.proofs.Common.{◌≡◌, List, ℕ, Ok, rules, refl, ap, subst, ◌∙◌}
use Rattle.std.proofs.lemmas.Result.{err_from_is_err_and}
use Rattle.mq_wire.specs.Left.{Left}
use Rattle.mq_packet.specs.Reading.{decode_fault}
use Rattle.mq_packet.proofs.CodeLaws.{Goes, begins, goes_on, fails, ends, code_shorter}
use Rattle.mq_packet.proofs.reading.lists.code_list.Goals as goal

pub loop-rest-init : goal.loop-rest-init
loop-rest-init c = begins c.args.table.now c.starting_at-rest.result

pub loop-rest-smaller : goal.loop-rest-smaller
loop-rest-smaller c = code_shorter c.args.table.now c.loop-rest.rest c.in_ok-reason_code.field-0 c.reason_code.new.cursor c.in_ok-reason_code.ensures

pub loop-rest-preserved : goal.loop-rest-preserved
loop-rest-preserved c =
    goes_on c.args.table.now c.starting_at-rest.result c.loop-rest.rest c.reason_code.new.cursor c.in_ok-reason_code.field-0 c.loop-rest.invariant
    c.in_ok-reason_code.ensures

pub returns-in_err-reason_code : goal.returns-in_err-reason_code
returns-in_err-reason_code c =
    let p = err_from_is_err_and c.from_residual.result c.from_residual.ensures.1 in
    let start : c.starting_at-rest.result ≡ c.args.cursor = rw (c.starting_at-rest.ensures, c.rest-bytes.ensures, c.at-at.ensures.place) refl in
    rw (p.1, p.2)
    (fails c.args.table.now c.args.cursor c.loop-rest.rest (decode_fault c.in_err-reason_code.field-0.0)
    (subst (λ (l : Left). Goes c.args.table.now l c.loop-rest.rest) start c.loop-rest.invariant)
    (λ none. let t = rw c.loop-rest-test.true at (c.is_empty.ensures.1 none) in cc)
    c.in_err-reason_code.ensures)

pub returns : goal.returns
returns c =
    let start : c.starting_at-rest.result ≡ c.args.cursor = rw (c.starting_at-rest.ensures, c.rest-bytes.ensures, c.at-at.ensures.place) refl in
    let same : c.args.cursor.rest ≡ c.of.result = rw (c.of.ensures, c.rest-bytes.ensures) refl in
    ends c.args.table.now c.args.cursor c.loop-rest.rest
    (subst (λ (l : Left). Goes c.args.table.now l c.loop-rest.rest) start c.loop-rest.invariant)
    (c.is_empty.ensures.0 (search rules))
    ∙ ap (λ (codes : List ℕ). Ok codes) same
