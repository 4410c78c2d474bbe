use Rattle.std.specs.Prelude.{◌∷◌, reverse}
use Rattle.mq_rules.specs.Connections.{begun}
use Rattle.mq_rules.specs.Steps.{turns}
use Rattle.mq_rules.specs.Growing.{GainsWithin}
use Rattle.mq_rules.proofs.Exports.{on_err}
use Rattle.mq_plain.specs.Owed.{owed_on}
use Rattle.mq_plain.proofs.OwedLaws.{later-at, later-plain}
use Rattle.mq_plain.proofs.RestLaws.{own_of, shown-none, shown-gains, shown-within, blames-of, blames_within-of}
use Rattle.mq_plain.proofs.further.showing.judge_later.Goals as goal

pub returns-then-not-shows-clause-ok : goal.returns-then-not-shows-clause-ok
returns-then-not-shows-clause-ok g c = λ binds_it placed.
    let tested = c.args.tested in
    let own = g.T.LaterStatement in
    let laws = g.met.T.LaterStatement in
    let e = c.args.event.now in
    let past = reverse c.args.before.now in
    let says = laws.says tested.role in
    shown-none tested own.judged (turns tested e past) c.is_showing-shows.result (owed_on own.owing (begun past)) e past e.place.position c.args.faults.now
    (later-plain tested own.judged own.shows says)
    (later-at tested own.judged own.shows own.owing own.due e past c.args.binds c.is_showing-shows.result says laws.parts binds_it c.is_showing-shows.ensures) c.if-not-shows.true

pub returns-in_err-blame-clause-memory : goal.returns-in_err-blame-clause-memory
returns-in_err-blame-clause-memory g c = λ binds_it placed.
    let tested = c.args.tested in
    let own = g.T.LaterStatement in
    let laws = g.met.T.LaterStatement in
    let e = c.args.event.now in
    let past = reverse c.args.before.now in
    let says = laws.says tested.role in
    on_err c.from_residual-in_err-blame.result (GainsWithin (own_of own.judged (turns tested e past)) tested (e ∷ past) e.place.position c.args.faults.now c.blame.new.faults)
    (shown-within tested own.judged (turns tested e past) c.is_showing-shows.result (owed_on own.owing (begun past)) e past c.in_ok-places.places.items e.place.position c.args.faults.now c.blame.new.faults
    (later-plain tested own.judged own.shows says)
    (later-at tested own.judged own.shows own.owing own.due e past c.args.binds c.is_showing-shows.result says laws.parts binds_it c.is_showing-shows.ensures) c.if-not-shows.false
    (c.in_ok-places.ensures placed)
    (blames_within-of c.rule.result own.judged e.place.position c.deref.result.now c.in_ok-places.places.items c.args.faults.now c.blame.new.faults c.rule.ensures c.deref.ensures.value c.in_err-blame.ensures.memory))

pub returns-clause-ok : goal.returns-clause-ok
returns-clause-ok g c = λ binds_it placed.
    let tested = c.args.tested in
    let own = g.T.LaterStatement in
    let laws = g.met.T.LaterStatement in
    let e = c.args.event.now in
    let past = reverse c.args.before.now in
    let says = laws.says tested.role in
    shown-gains tested own.judged (turns tested e past) c.is_showing-shows.result (owed_on own.owing (begun past)) e past c.in_ok-places.places.items e.place.position c.args.faults.now c.blame.new.faults
    (later-plain tested own.judged own.shows says)
    (later-at tested own.judged own.shows own.owing own.due e past c.args.binds c.is_showing-shows.result says laws.parts binds_it c.is_showing-shows.ensures) c.if-not-shows.false
    (c.in_ok-places.ensures placed)
    (blames-of c.rule.result own.judged e.place.position c.deref.result.now c.in_ok-places.places.items c.args.faults.now c.blame.new.faults c.rule.ensures c.deref.ensures.value c.in_ok-blame.ensures.ok)
