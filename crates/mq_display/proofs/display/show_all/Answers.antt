use Rattle.std.proofs.Common.{◌≡◌, ◌∙◌, List, sym, ap, subst}
use Rattle.std.proofs.lemmas.Result.{err_from_is_err_and}
use Rattle.mq_log.specs.Events.{Placed}
use Rattle.mq_log.specs.declared.refusal.Refusal.{Refusal}
use Rattle.mq_log.proofs.Exports.{events-nothing}
use Rattle.mq_display.specs.Outgoing.{Carries}
use Rattle.mq_display.specs.declared.display.Display.{Display}
use Rattle.mq_display.specs.Views.{IsStateAfter, text_by}
use Rattle.mq_display.proofs.DisplayLaws.{shown-nothing, show-kept, show-unwritten, show-ended, show-refused}
use Rattle.mq_display.proofs.display.show_all.Given as given
use Rattle.mq_display.proofs.display.show_all.Goals as goal

-- the sink, and what its events say of it
abbrev Sink : given.Over → Type 0
Sink g = Display g.row.W.Denot g.row.K.Denot

abbrev received : (g : given.Over) → Sink g → List Placed → Type 0
received g s earlier = (s.out.now.writer.ghost_name ≡ g.K.Given.name) × (text_by g.K.Given.timed s.view ≡ g.K.Given.text) × IsStateAfter earlier s.view
    × Carries g.W.Write.contents g.K.Given.held (g.K.Given.text earlier) s.out.now × (s.out.ghost_name ≡ g.K.Given.direction)

abbrev refuses : (g : given.Over) → Sink g → List Placed → Refusal → Type 0
refuses g s earlier own = ⊥

pub feed_log-fed-requires-clause-follows : goal.feed_log-fed-requires-clause-follows
feed_log-fed-requires-clause-follows g c =
    let fresh = c.requires.fresh in
    let s = c.args.display.now in (
      c.requires.follows.0,
      λ foreseen. (
        c.requires.name,
        c.requires.text,
        subst (λ (earlier : List Placed). IsStateAfter earlier s.view) (sym events-nothing) fresh.2,
        shown-nothing s.out.now.failed _ _ _ _ fresh.0 c.requires.held (ap g.K.Given.text events-nothing ∙ c.requires.empty) fresh.1,
        c.requires.direction,
      ),
    )

pub returns-in_err-write_last-clause-shows : goal.returns-in_err-write_last-clause-shows
returns-in_err-write_last-clause-shows g c =
    let s = c.feed_log-fed.new.sink in
    let p = err_from_is_err_and c.from_residual.result c.from_residual.ensures.1 in
    let failed = c.in_err-write_last.ensures.failed in
    rw (p.1, p.2, failed.0) (show-unwritten (received g) (refuses g) (λ sink. sink.out.now.failed) g.K.Given.timed g.K.Given.text _ _ c.requires.timed c.feed_log-fed.new.feeder s _
    c.requires.follows.1 g.K.Given.held (g.W.Write.contents s.out.now.writer.now) s.out.now.lines (λ earlier a. a.3) (λ earlier own b. b)
    (g.W.Write.contents c.write_last.new.self.writer.now) c.feed_log-fed.result c.feed_log-fed.ensures.all c.feed_log-fed.ensures.some failed.1)

pub returns-in-Err-clause-shows : goal.returns-in-Err-clause-shows
returns-in-Err-clause-shows g c =
    let s = c.feed_log-fed.new.sink in
    let written = c.in_ok-write_last.ensures.written in
    show-refused (received g) (refuses g) (λ sink. sink.out.now.failed) g.K.Given.timed g.K.Given.text _ _ c.requires.timed c.feed_log-fed.new.feeder s _
    c.requires.follows.1 g.K.Given.held (g.W.Write.contents s.out.now.writer.now) s.out.now.lines (λ earlier a. a.3) (λ earlier own b. b)
    (g.W.Write.contents c.write_last.new.self.writer.now) c.in-Err.refusal c.in-Err.ensures.some written.0 written.1

pub returns-in-Ok-clause-shows : goal.returns-in-Ok-clause-shows
returns-in-Ok-clause-shows g c =
    let s = c.feed_log-fed.new.sink in
    let written = c.in_ok-write_last.ensures.written in
    show-ended (received g) (refuses g) (λ sink. sink.out.now.failed) g.K.Given.timed g.K.Given.text _ _ c.requires.timed c.feed_log-fed.new.feeder s _
    c.requires.follows.1 g.K.Given.held (g.W.Write.contents s.out.now.writer.now) s.out.now.lines (λ earlier a. a.3) (λ earlier own b. b)
    (g.W.Write.contents c.write_last.new.self.writer.now) c.end.result c.in-Ok.ensures.all written.0 written.1 c.end.ensures.ok c.end.ensures.refused

pub returns-in_err-write_last-clause-writer : goal.returns-in_err-write_last-clause-writer
returns-in_err-write_last-clause-writer g c =
    let s = c.feed_log-fed.new.sink in
    show-kept (received g) (refuses g) (λ sink. sink.out.now.failed) g.K.Given.timed g.K.Given.text _ _ c.requires.timed c.feed_log-fed.new.feeder s _
    c.requires.follows.1 g.K.Given.held (g.W.Write.contents s.out.now.writer.now) s.out.now.lines (λ earlier a. a.3) (λ earlier own b. b)
    (c.write_last.new.self.writer.ghost_name ≡ c.args.display.now.out.now.writer.ghost_name) (λ earlier a. c.write_last.ensures.same ∙ a.0 ∙ sym c.requires.name) c.feed_log-fed.result
    c.feed_log-fed.ensures.all c.feed_log-fed.ensures.some

pub returns-in_err-write_last-clause-direction : goal.returns-in_err-write_last-clause-direction
returns-in_err-write_last-clause-direction g c =
    let s = c.feed_log-fed.new.sink in
    show-kept (received g) (refuses g) (λ sink. sink.out.now.failed) g.K.Given.timed g.K.Given.text _ _ c.requires.timed c.feed_log-fed.new.feeder s _
    c.requires.follows.1 g.K.Given.held (g.W.Write.contents s.out.now.writer.now) s.out.now.lines (λ earlier a. a.3) (λ earlier own b. b)
    (s.out.ghost_name ≡ c.args.display.now.out.ghost_name) (λ earlier a. a.4 ∙ sym c.requires.direction) c.feed_log-fed.result
    c.feed_log-fed.ensures.all c.feed_log-fed.ensures.some

pub returns-in-Ok-clause-writer : goal.returns-in-Ok-clause-writer
returns-in-Ok-clause-writer g c =
    let s = c.feed_log-fed.new.sink in
    show-kept (received g) (refuses g) (λ sink. sink.out.now.failed) g.K.Given.timed g.K.Given.text _ _ c.requires.timed c.feed_log-fed.new.feeder s _
    c.requires.follows.1 g.K.Given.held (g.W.Write.contents s.out.now.writer.now) s.out.now.lines (λ earlier a. a.3) (λ earlier own b. b)
    (c.write_last.new.self.writer.ghost_name ≡ c.args.display.now.out.now.writer.ghost_name) (λ earlier a. c.write_last.ensures.same ∙ a.0 ∙ sym c.requires.name) c.feed_log-fed.result
    c.feed_log-fed.ensures.all c.feed_log-fed.ensures.some

pub returns-in-Ok-clause-direction : goal.returns-in-Ok-clause-direction
returns-in-Ok-clause-direction g c =
    let s = c.feed_log-fed.new.sink in
    show-kept (received g) (refuses g) (λ sink. sink.out.now.failed) g.K.Given.timed g.K.Given.text _ _ c.requires.timed c.feed_log-fed.new.feeder s _
    c.requires.follows.1 g.K.Given.held (g.W.Write.contents s.out.now.writer.now) s.out.now.lines (λ earlier a. a.3) (λ earlier own b. b)
    (s.out.ghost_name ≡ c.args.display.now.out.ghost_name) (λ earlier a. a.4 ∙ sym c.requires.direction) c.feed_log-fed.result
    c.feed_log-fed.ensures.all c.feed_log-fed.ensures.some

pub returns-in-Err-clause-writer : goal.returns-in-Err-clause-writer
returns-in-Err-clause-writer g c =
    let s = c.feed_log-fed.new.sink in
    show-kept (received g) (refuses g) (λ sink. sink.out.now.failed) g.K.Given.timed g.K.Given.text _ _ c.requires.timed c.feed_log-fed.new.feeder s _
    c.requires.follows.1 g.K.Given.held (g.W.Write.contents s.out.now.writer.now) s.out.now.lines (λ earlier a. a.3) (λ earlier own b. b)
    (c.write_last.new.self.writer.ghost_name ≡ c.args.display.now.out.now.writer.ghost_name) (λ earlier a. c.write_last.ensures.same ∙ a.0 ∙ sym c.requires.name) c.feed_log-fed.result
    c.feed_log-fed.ensures.all c.feed_log-fed.ensures.some

pub returns-in-Err-clause-direction : goal.returns-in-Err-clause-direction
returns-in-Err-clause-direction g c =
    let s = c.feed_log-fed.new.sink in
    show-kept (received g) (refuses g) (λ sink. sink.out.now.failed) g.K.Given.timed g.K.Given.text _ _ c.requires.timed c.feed_log-fed.new.feeder s _
    c.requires.follows.1 g.K.Given.held (g.W.Write.contents s.out.now.writer.now) s.out.now.lines (λ earlier a. a.3) (λ earlier own b. b)
    (s.out.ghost_name ≡ c.args.display.now.out.ghost_name) (λ earlier a. a.4 ∙ sym c.requires.direction) c.feed_log-fed.result
    c.feed_log-fed.ensures.all c.feed_log-fed.ensures.some
