use Rattle.std.proofs.lemmas.Result.{err_from_is_err_and}
use Rattle.std.proofs.Common.{rules}
use Rattle.mq_packet.specs.Reading.{decode_fault}
use Rattle.mq_packet.specs.Elements.{filter_view}
use Rattle.mq_packet.proofs.FilterLaws.{filters_none, begins, goes_on, fails, ends, filter_shorter}
use Rattle.mq_packet.proofs.reading.lists.check_filters.Goals as goal

pub returns-then-is_empty : goal.returns-then-is_empty
returns-then-is_empty c =
    (let none = filters_none c.args.asks c.args.cursor (c.is_empty.ensures.0 (search rules)) in
    search (rules, none))

pub loop-cursor-init : goal.loop-cursor-init
loop-cursor-init c = begins c.args.asks c.args.cursor (λ none. let t = rw c.if-is_empty.false at (c.is_empty.ensures.1 none) in cc)

pub loop-cursor-smaller : goal.loop-cursor-smaller
loop-cursor-smaller c = filter_shorter c.args.asks c.args.cursor c.loop-cursor.cursor c.requires c.loop-cursor.invariant (filter_view c.in_ok-asked_filter.field-0) c.asked_filter.new.cursor c.in_ok-asked_filter.ensures

pub loop-cursor-preserved : goal.loop-cursor-preserved
loop-cursor-preserved c =
    goes_on c.args.asks c.args.cursor c.loop-cursor.cursor c.requires c.loop-cursor.invariant (filter_view c.in_ok-asked_filter.field-0) c.asked_filter.new.cursor c.in_ok-asked_filter.ensures

pub returns-in_err-asked_filter : goal.returns-in_err-asked_filter
returns-in_err-asked_filter c =
    let p = err_from_is_err_and c.from_residual.result c.from_residual.ensures.1 in
    rw (p.1, p.2)
    (fails c.args.asks c.args.cursor c.loop-cursor.cursor c.requires c.loop-cursor.invariant (decode_fault c.in_err-asked_filter.field-0.0)
    (λ none. let t = rw c.loop-cursor-test.true at (c.is_empty-in-loop-cursor.ensures.1 none) in cc)
    c.in_err-asked_filter.ensures)

pub returns : goal.returns
returns c = ends c.args.asks c.args.cursor c.loop-cursor.cursor c.requires c.loop-cursor.invariant (c.is_empty-in-loop-cursor.ensures.0 (search rules))
