use Rattle.std.specs.Prelude.{◌∷◌, ◌&&◌, reverse}
use Rattle.mq_rules.specs.Moments.{newest}
use Rattle.mq_rules.specs.Connections.{is_binding}
use Rattle.mq_rules.specs.Rules.{binds}
use Rattle.mq_rules.specs.Under.{turns_with}
use Rattle.mq_rules.specs.Growing.{GainsWithin}
use Rattle.mq_rules.proofs.Exports.{on_err}
use Rattle.mq_plain.proofs.RestLaws.{own_of, rest-plain, rest-at, shown-none, shown-gains, shown-within, unbound, unbinding, judged-here, blames-of, blames_within-of}
use Rattle.mq_plain.proofs.resting.judge_rest.Goals as goal

pub returns-then-not-binds-clause-ok : goal.returns-then-not-binds-clause-ok
returns-then-not-binds-clause-ok g c = λ binds_it comes.
    let turn = c.args.turn in
    let rule = g.T.RestStatement.judged in
    let shows = g.T.RestStatement.shows turn.tested.role in
    let says = g.met.T.RestStatement.says turn.tested.role in
    let e = c.args.event.now in
    let past = reverse c.args.before.now in
    shown-none turn.tested rule (turns_with turn.tested turn.fate e past) (binds rule turn.tested && is_binding turn.tested.role (newest e past)) (shows (newest e past)) e past turn.decided c.args.faults.now
    (rest-plain turn.tested rule shows says) (rest-at turn.tested rule shows turn.fate e past says)
    (unbound turn.tested rule c.args.binds (is_binding turn.tested.role (newest e past)) binds_it c.if-not-binds.true)

pub returns-then-not-turn-clause-ok : goal.returns-then-not-turn-clause-ok
returns-then-not-turn-clause-ok g c = λ binds_it comes.
    let turn = c.args.turn in
    let rule = g.T.RestStatement.judged in
    let shows = g.T.RestStatement.shows turn.tested.role in
    let says = g.met.T.RestStatement.says turn.tested.role in
    let e = c.args.event.now in
    let past = reverse c.args.before.now in
    shown-none turn.tested rule (turns_with turn.tested turn.fate e past) (binds rule turn.tested && is_binding turn.tested.role (newest e past)) (shows (newest e past)) e past turn.decided c.args.faults.now
    (rest-plain turn.tested rule shows says) (rest-at turn.tested rule shows turn.fate e past says)
    (unbinding turn.tested rule e past turn.rests comes.is_resting c.if-not-turn.true)

pub returns-in_err-blame-clause-memory : goal.returns-in_err-blame-clause-memory
returns-in_err-blame-clause-memory g c = λ binds_it comes.
    let turn = c.args.turn in
    let rule = g.T.RestStatement.judged in
    let shows = g.T.RestStatement.shows turn.tested.role in
    let says = g.met.T.RestStatement.says turn.tested.role in
    let e = c.args.event.now in
    let past = reverse c.args.before.now in
    let fails = turns_with turn.tested turn.fate e past in
    on_err c.from_residual-in_err-blame.result (GainsWithin (own_of rule fails) turn.tested (e ∷ past) turn.decided c.args.faults.now c.blame.new.faults)
    (shown-within turn.tested rule fails (binds rule turn.tested && is_binding turn.tested.role (newest e past)) (shows (newest e past)) e past c.in_ok-places.places.items turn.decided c.args.faults.now c.blame.new.faults
    (rest-plain turn.tested rule shows says) (rest-at turn.tested rule shows turn.fate e past says)
    (judged-here turn.tested rule e past c.args.binds turn.rests binds_it c.if-not-binds.false comes.is_resting c.if-not-turn.false)
    (c.in_ok-places.ensures comes.is_placed.1)
    (blames_within-of c.rule.result rule turn.decided c.deref.result.now c.in_ok-places.places.items c.args.faults.now c.blame.new.faults c.rule.ensures c.deref.ensures.value c.in_err-blame.ensures.memory))

pub returns-clause-ok : goal.returns-clause-ok
returns-clause-ok g c = λ binds_it comes.
    let turn = c.args.turn in
    let rule = g.T.RestStatement.judged in
    let shows = g.T.RestStatement.shows turn.tested.role in
    let says = g.met.T.RestStatement.says turn.tested.role in
    let e = c.args.event.now in
    let past = reverse c.args.before.now in
    shown-gains turn.tested rule (turns_with turn.tested turn.fate e past) (binds rule turn.tested && is_binding turn.tested.role (newest e past)) (shows (newest e past)) e past c.in_ok-places.places.items turn.decided c.args.faults.now c.blame.new.faults
    (rest-plain turn.tested rule shows says) (rest-at turn.tested rule shows turn.fate e past says)
    (judged-here turn.tested rule e past c.args.binds turn.rests binds_it c.if-not-binds.false comes.is_resting c.if-not-turn.false)
    (c.in_ok-places.ensures comes.is_placed.1)
    (blames-of c.rule.result rule turn.decided c.deref.result.now c.in_ok-places.places.items c.args.faults.now c.blame.new.faults c.rule.ensures c.deref.ensures.value c.in_ok-blame.ensures.ok)
