use Rattle.std.proofs.Common.{◌≡◌, ℕ, true, eqb, List, length, ap, ◌∙◌}
use Rattle.mq_wire.specs.Left.{Left}
use Rattle.mq_props.proofs.Loop.{begins, goes_on, shorter_now}
use Rattle.mq_props.proofs.list.facts_of.Goals as goal

pub loop-rest-init : goal.loop-rest-init
loop-rest-init c = (begins c.args.place (record { at = c.args.at; rest = c.args.bytes.now }) c.new-facts.result c.new-facts.ensures, c.requires)

pub loop-rest-smaller : goal.loop-rest-smaller
loop-rest-smaller c =
    let start : Left = record { at = c.args.at; rest = c.args.bytes.now } in
    let left : Left = record { at = c.loop-rest.start; rest = c.loop-rest.rest.now } in
    rw c.rest-rest.ensures (shorter_now c.args.place start left c.in_ok-later.cursor c.loop-rest.facts c.in_ok-later.later c.loop-rest.invariant.0 c.in_ok-later.ensures)

pub loop-rest-preserved : goal.loop-rest-preserved
loop-rest-preserved c =
    let start : Left = record { at = c.args.at; rest = c.args.bytes.now } in
    let left : Left = record { at = c.loop-rest.start; rest = c.loop-rest.rest.now } in (
      rw (c.at-start.ensures.place, c.rest-rest.ensures)
          (goes_on c.args.place start left c.in_ok-later.cursor c.loop-rest.facts c.in_ok-later.later c.loop-rest.invariant.0 (λ none. let e : c.is_empty.result ≡ true = c.is_empty.ensures ∙ ap (λ (bytes : List ℕ). eqb (length bytes) 0) none in let t = rw e at c.loop-rest-test.true in cc) c.in_ok-later.ensures),
      rw c.rest-rest.ensures c.at-start.ensures.bound,
    )
