use Rattle.std.proofs.Common.{◌≡◌, [], List, map, subst, sym}
use Rattle.std.specs.Prelude.{IfSome}
use Rattle.std.proofs.lemmas.Result.{err_from_is_err_and}
use Rattle.mq_log.specs.Events.{Placed, events}
use Rattle.mq_log.proofs.Exports.{events-nothing}
use Rattle.mq_rules.specs.Notes.{seen, seen_in, tested_by}
use Rattle.mq_report.specs.Stopping.{IsJudged}
use Rattle.mq_trail.specs.declared.following.Following.{Following}
use Rattle.mq_trail.specs.declared.second_reading.Rereading.{Rereading}
use Rattle.mq_trace.specs.Tracing.{Traced}
use Rattle.mq_trail.specs.Following.{HasFollowed}
use Rattle.mq_trail.proofs.SecondReadingLaws.{fed-whole, fed-cut, fed-partly}
use Rattle.mq_trail.proofs.second_reading.follow_as.Given as given
use Rattle.mq_trail.proofs.second_reading.follow_as.Goals as goal

abbrev tracer_of : Rereading → Traced
tracer_of r = r.tracer

-- the sink, and what its events say of it
abbrev Sink : given.Over → Type 0
Sink g = Following g.row.W.Denot g.row.K.Denot

abbrev agrees : (g : given.Over) → Sink g → List Placed → Type 0
agrees g s received = HasFollowed g.W.Watch.agrees g.K.Watched.tested s.watcher (map seen received)

pub feed_log-requires-clause-follows : goal.feed_log-requires-clause-follows
feed_log-requires-clause-follows g c = (
  c.new.ensures.follows,
  subst (agrees g c.new-following.result) (sym events-nothing)
      (subst (λ (w : g.row.W.Denot). HasFollowed g.W.Watch.agrees g.K.Watched.tested w []) (sym c.new-following.ensures) c.requires),
)

pub returns-in_err-feed_log : goal.returns-in_err-feed_log
returns-in_err-feed_log g c =
    let p = err_from_is_err_and c.from_residual.result c.from_residual.ensures.1 in
    rw (p.1, p.2) (fed-partly tracer_of (agrees g) _ c.in_err-feed_log.ensures.some c.new.ensures.limit)

pub returns-in_err-named : goal.returns-in_err-named
returns-in_err-named g c =
    let p = err_from_is_err_and c.from_residual-in_err-named.result c.from_residual-in_err-named.ensures.1 in
    rw (p.1, p.2) (fed-cut tracer_of (agrees g) _ c.in_ok-feed_log.ensures.all c.new.ensures.limit c.in_err-named.ensures)

pub returns : goal.returns
unfolding seen_in
returns g c =
    subst (λ (w : g.row.W.Denot). IfSome (g.R.Read.remaining c.args.reader.now) (λ log. IsJudged log × (c.in_ok-named.named ≡ tested_by c.args.tested.further log) × HasFollowed g.W.Watch.agrees g.K.Watched.tested w (map seen (events log)))) (sym c.into_watcher.ensures)
    (fed-whole tracer_of (agrees g) c.args.tested.further c.in_ok-named.named c.in_ok-feed_log.ensures.all c.new.ensures.limit c.in_ok-named.ensures)
