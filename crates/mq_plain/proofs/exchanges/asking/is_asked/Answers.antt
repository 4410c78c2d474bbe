use Rattle.std.proofs.Common.{rules, ◌≡◌, ◌==◌, ◌&&◌, ◌≤◌, [], ◌∷◌, ◌++◌, None, sym, ap, ◌∙◌, subst}
use Rattle.std.specs.Prelude.{reverse}
use Rattle.std.proofs.lemmas.List.{reverse-append}
use Rattle.mq_rules.specs.Words.{is_id}
use Rattle.mq_rules.specs.Moments.{since}
use Rattle.mq_rules.specs.Connections.{begun, number, session, has_session, accepted}
use Rattle.mq_rules.specs.Exchanges.{causes, answers}
use Rattle.mq_plain.specs.Lookback.{answer_by}
use Rattle.mq_plain.proofs.AskedLaws.{asked_on, asks_in, answers_in, latest_before, within_before}
use Rattle.mq_plain.proofs.exchanges.asking.is_asked.Goals as goal

pub loop-event-preserved : goal.loop-event-preserved
loop-event-preserved g c =
    let x = g.X.Exchange.exchange in
    let i = c.args.identifier in
    let n = begun (reverse c.args.before.now) in
    let e = c.in-Some.event.now in
    let rest = c.in-Some.rest.now in
    let parts : c.loop-event.earlier.now ≡ rest ++ e ∷ [] = search rules in
    let front : reverse c.loop-event.earlier.now ≡ e ∷ reverse rest = ap reverse parts ∙ reverse-append rest (e ∷ []) in
    let laws = g.met.X.Exchange in
    let f = c.loop-event.fate in
    let is_in = c.is_accepted-is_in.result in
    let accepts : is_in ≡ accepted f = c.is_accepted-is_in.ensures in
    let latest : c.loop-event.is_latest ≡ (begun (e ∷ reverse rest) == n) = c.loop-event.invariant.latest ∙ ap (λ es. begun es == n) front in
    let within : begun (e ∷ reverse rest) ≤ n = subst (λ es. begun es ≤ n) front c.loop-event.invariant.within in
    let asks : (is_in && is_id i (x.cause e.note)) ≡ (has_session c.args.role f e (reverse rest) && is_id i (x.cause e.note))
    = ap (λ b. b && is_id i (x.cause e.note)) accepts ∙ asks_in x.cause laws.is_received c.args.role f e (reverse rest) i in
    let ends : (is_in && (is_id i (x.answer e.note) && c.loop-event.is_latest)) ≡ (has_session c.args.role f e (reverse rest) && (is_id i (x.answer e.note) && (begun (e ∷ reverse rest) == n)))
    = ap (λ b. b && (is_id i (x.answer e.note) && c.loop-event.is_latest)) accepts ∙ answers_in x.answer laws.is_sent c.args.role f e (reverse rest) i c.loop-event.is_latest
    ∙ ap (λ b. has_session c.args.role f e (reverse rest) && (is_id i (x.answer e.note) && b)) latest in
    let none : answer_by (is_in && is_id i (x.cause e.note)) (is_in && (is_id i (x.answer e.note) && c.loop-event.is_latest)) ≡ None = sym c.answer_of_event.ensures ∙ c.in_default-answer_of_event.is in
    record {
      left = sym (ap (λ es. since (causes x i) (λ m. answers x i m && (number m == n)) (session c.args.role f es)) front
          ∙ asked_on (causes x i) (λ m. answers x i m && (number m == n)) c.args.role f c.fate_before-fate.result e (reverse rest) c.begins_at.result
          (is_in && is_id i (x.cause e.note)) (is_in && (is_id i (x.answer e.note) && c.loop-event.is_latest)) asks ends none
          c.begins_at.ensures c.if-begins_at.false c.fate_before-fate.ensures)
          ∙ c.loop-event.invariant.left;
      latest = c.stays_latest-is_latest.ensures ∙ latest_before n e (reverse rest) c.loop-event.is_latest within latest;
      within = within_before n e (reverse rest) within;
    }
