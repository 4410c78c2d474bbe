use Rattle.std.proofs.Common.{rules, ◌≡◌, ◌+◌, ◌∷◌, [], None, Some, ap, sym, ◌∙◌, subst}
use Rattle.std.proofs.lemmas.Bool.{eqb-true}
use Rattle.mq_trace.specs.declared.reading.Reading.{Reading}
use Rattle.mq_trace.specs.Keeping.{IsSound, Advances, unfinished_by}
use Rattle.mq_trace.specs.Stepping.{leaving}
use Rattle.mq_log.specs.declared.kind.Direction.TheVariants as directions
use Rattle.mq_log.specs.Framing.{direction_of}
use Rattle.mq_log.specs.Events.{opened, closed, rested, event_of_head}
use Rattle.mq_log.specs.Refusals.{allows_length}
use Rattle.mq_log.specs.Reception.{Declines}
use Rattle.mq_trace.specs.declared.stage.Stage.TheVariants as stages
use Rattle.mq_trace.proofs.ReadingLaws.{comes_quietly}
use Rattle.mq_trace.proofs.EndLaws.{body_advances, body_begins_sound, mark_emits, release_advances, release_sound}
use Rattle.mq_trace.proofs.EmissionLaws.{emitted_comes, emitted_stops}
use Rattle.mq_trace.proofs.reading.Reading.end_head.Goals as goal

pub returns-in-Sent-clause-sound : goal.returns-in-Sent-clause-sound
returns-in-Sent-clause-sound g c =
    let r = c.args.self.now in
    let is : c.begin_body.new.self ≡ leaving (record r { at = r.at + 1; moment = c.args.moment }) directions.Sent c.args.length = search rules in
    subst (λ (x : Reading). IsSound x) (sym is) (body_begins_sound r c.args.kind c.args.length c.args.moment c.args.byte c.requires.sound c.requires.ends directions.Sent (ap (λ k. direction_of (Some k)) c.in-Sent.is))

pub returns-in-Sent-clause-comes : goal.returns-in-Sent-clause-comes
returns-in-Sent-clause-comes g c =
    let r = c.args.self.now in
    let is : c.begin_body.new.self ≡ leaving (record r { at = r.at + 1; moment = c.args.moment }) directions.Sent c.args.length = search rules in
    comes_quietly g.S.Sink.agrees r _ (c.args.byte ∷ []) c.args.sink.now (subst (λ (x : Reading). Advances r x (c.args.byte ∷ []) []) (sym is)
    (body_advances r c.args.kind c.args.length c.args.moment c.args.byte c.requires.sound c.requires.ends directions.Sent (ap (λ k. direction_of (Some k)) c.in-Sent.is) (ap (event_of_head (unfinished_by r)) c.in-Sent.is)))

pub returns-in-Recv-clause-sound : goal.returns-in-Recv-clause-sound
returns-in-Recv-clause-sound g c =
    let r = c.args.self.now in
    let is : c.begin_body-in-Recv.new.self ≡ leaving (record r { at = r.at + 1; moment = c.args.moment }) directions.Recv c.args.length = search rules in
    subst (λ (x : Reading). IsSound x) (sym is) (body_begins_sound r c.args.kind c.args.length c.args.moment c.args.byte c.requires.sound c.requires.ends directions.Recv (ap (λ k. direction_of (Some k)) c.in-Recv.is))

pub returns-in-Recv-clause-comes : goal.returns-in-Recv-clause-comes
returns-in-Recv-clause-comes g c =
    let r = c.args.self.now in
    let is : c.begin_body-in-Recv.new.self ≡ leaving (record r { at = r.at + 1; moment = c.args.moment }) directions.Recv c.args.length = search rules in
    comes_quietly g.S.Sink.agrees r _ (c.args.byte ∷ []) c.args.sink.now (subst (λ (x : Reading). Advances r x (c.args.byte ∷ []) []) (sym is)
    (body_advances r c.args.kind c.args.length c.args.moment c.args.byte c.requires.sound c.requires.ends directions.Recv (ap (λ k. direction_of (Some k)) c.in-Recv.is) (ap (event_of_head (unfinished_by r)) c.in-Recv.is)))

pub returns-in-Open-clause-comes : goal.returns-in-Open-clause-comes
returns-in-Open-clause-comes g c =
    let r = c.args.self.now in
    let s = c.end_mark.ensures in
    emitted_comes g.S.Sink.agrees r _ c.args.moment c.args.byte opened _ _ _ (mark_emits r c.args.kind c.args.length c.args.moment c.args.byte c.requires.sound c.requires.ends opened (ap (event_of_head (unfinished_by r)) c.in-Open.is)) s.met s.kept s.receives

pub returns-in-Open-clause-stops : goal.returns-in-Open-clause-stops
returns-in-Open-clause-stops g c =
    let r = c.args.self.now in
    let s = c.end_mark.ensures in
    emitted_stops (Declines g.S.Sink.agrees g.S.Sink.refuses) r c.args.moment c.args.byte opened _ _ _ (mark_emits r c.args.kind c.args.length c.args.moment c.args.byte c.requires.sound c.requires.ends opened (ap (event_of_head (unfinished_by r)) c.in-Open.is)) s.err

pub returns-in-Close-clause-comes : goal.returns-in-Close-clause-comes
returns-in-Close-clause-comes g c =
    let r = c.args.self.now in
    let s = c.end_close.ensures in
    emitted_comes g.S.Sink.agrees r _ c.args.moment c.args.byte (closed (unfinished_by r)) _ _ _ (mark_emits r c.args.kind c.args.length c.args.moment c.args.byte c.requires.sound c.requires.ends (closed (unfinished_by r)) (ap (event_of_head (unfinished_by r)) c.in-Close.is)) s.met s.kept s.receives

pub returns-in-Close-clause-stops : goal.returns-in-Close-clause-stops
returns-in-Close-clause-stops g c =
    let r = c.args.self.now in
    let s = c.end_close.ensures in
    emitted_stops (Declines g.S.Sink.agrees g.S.Sink.refuses) r c.args.moment c.args.byte (closed (unfinished_by r)) _ _ _ (mark_emits r c.args.kind c.args.length c.args.moment c.args.byte c.requires.sound c.requires.ends (closed (unfinished_by r)) (ap (event_of_head (unfinished_by r)) c.in-Close.is)) s.err

pub returns-in-Rest-clause-comes : goal.returns-in-Rest-clause-comes
returns-in-Rest-clause-comes g c =
    let r = c.args.self.now in
    let s = c.end_mark-in-Rest.ensures in
    emitted_comes g.S.Sink.agrees r _ c.args.moment c.args.byte rested _ _ _ (mark_emits r c.args.kind c.args.length c.args.moment c.args.byte c.requires.sound c.requires.ends rested (ap (event_of_head (unfinished_by r)) c.in-Rest.is)) s.met s.kept s.receives

pub returns-in-Rest-clause-stops : goal.returns-in-Rest-clause-stops
returns-in-Rest-clause-stops g c =
    let r = c.args.self.now in
    let s = c.end_mark-in-Rest.ensures in
    emitted_stops (Declines g.S.Sink.agrees g.S.Sink.refuses) r c.args.moment c.args.byte rested _ _ _ (mark_emits r c.args.kind c.args.length c.args.moment c.args.byte c.requires.sound c.requires.ends rested (ap (event_of_head (unfinished_by r)) c.in-Rest.is)) s.err

pub returns-in-Release-clause-sound : goal.returns-in-Release-clause-sound
returns-in-Release-clause-sound g c =
    let r = c.args.self.now in
    let is : c.begin_release.new.self ≡ record r { at = r.at + 1; stage = stages.Release None; moment = c.args.moment } = c.begin_release.ensures in
    subst (λ (x : Reading). IsSound x) (sym is) (release_sound r c.args.kind c.args.length c.args.moment c.args.byte c.requires.sound c.requires.ends)

pub returns-in-Release-clause-comes : goal.returns-in-Release-clause-comes
returns-in-Release-clause-comes g c =
    let r = c.args.self.now in
    let two = eqb-true c.args.length 2 (ap (λ k. allows_length r.header.version (Some k) c.args.length) (sym c.in-Release.is) ∙ c.requires.ends.allowed) in
    let is : c.begin_release.new.self ≡ record r { at = r.at + 1; stage = stages.Release None; moment = c.args.moment } = c.begin_release.ensures in
    comes_quietly g.S.Sink.agrees r _ (c.args.byte ∷ []) c.args.sink.now (subst (λ (x : Reading). Advances r x (c.args.byte ∷ []) []) (sym is)
    (release_advances r c.args.kind c.args.length c.args.moment c.args.byte c.requires.sound c.requires.ends c.in-Release.is (ap (event_of_head (unfinished_by r)) c.in-Release.is) two))
