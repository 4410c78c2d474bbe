use Rattle.std.proofs.Common.{◌≡◌, ℕ, Option, Some, false, cond, ◌≤◌, ◌&&◌, ◌∷◌, arith, subst, sym, ap, ◌∙◌}
use Rattle.mq_rules.specs.KeptOrder.{value_under, values_of}
use Rattle.mq_rules.specs.declared.rule.Rule.TheVariants.{S06}
use Rattle.mq_rules.specs.Rules.{same_rule}
use Rattle.mq_rules.specs.FaultKeys.{FaultMap}
use Rattle.mq_rules.proofs.Exports.{on_err, within_all, within_either_first, within_either_second}
use Rattle.mq_rules.specs.Notes.{is_open}
use Rattle.mq_rules.specs.Connections.{latest_fate}
use Rattle.mq_rules.specs.Under.{seen, turns_with}
use Rattle.mq_rules.specs.Growing.{Gains}
use Rattle.mq_inflight.specs.Resending.{apart, by_itself, excuses, told}
use Rattle.mq_inflight.specs.Using.{judged_all, is_at_once, is_inflight}
use Rattle.mq_inflight.specs.declared.inflight.resends.Excused.{Excused}
use Rattle.mq_inflight.proofs.AgainLaws.{same-single}
use Rattle.mq_inflight.proofs.PassingLaws.{bounded-within}
use Rattle.mq_inflight.proofs.DueLaws.{opened-within}
use Rattle.mq_fates.proofs.Exports.{within_kept}
use Rattle.mq_inflight.proofs.UsingLaws.{using-gains}
use Rattle.mq_inflight.proofs.ResendsLaws.{resends-gains}
use Rattle.mq_inflight.proofs.InflightLaws.{inflight-next, inflight-gains}
use Rattle.mq_inflight.proofs.inflight.Inflight.take_noted.Goals as goal

excused_as : (peer : Option ℕ) (flying : ℕ) (excused single whole : Excused) → excused ≡ excuses peer flying single → single ≡ whole → excused ≡ excuses peer flying whole
excused_as peer flying excused single whole is same = is ∙ ap (excuses peer flying) same

pub returns-clause-agrees : goal.returns-clause-agrees
returns-clause-agrees c = λ tested past under u.
    let s = c.args.self.now in
    let t = c.in_ok-take_in.ensures in
    let below : s.opened ≤ c.args.at.position =
    let a = u.opened_is in
    let b = opened-within past in
    let d = under.follows.placed.0 in
    omega (arith, a, b, d) in
    let single = by_itself s.fate s.bounds s.opened s.bounded in
    let excused_is = excused_as c.args.self.now.peer c.args.self.now.in_flight _ _ _ c.excused_now-excused.ensures c.excused_by_itself-single.ensures in
    let itself : apart c.excused_now-excused.result ≡ single = ap apart excused_is in
    let order : s.bounded ≤ s.opened = let a = u.bounded_is in let b = bounded-within tested.role past in let d = u.opened_is in omega (arith, a, b, d) in
    let same : is_open c.args.note.now ≡ false → s.fate ≡ c.args.fate = λ closed. let h : Some s.fate ≡ Some c.args.fate = sym u.same_fate ∙ ap (λ b. cond b (latest_fate tested.role past) (Some c.args.fate)) closed in cc in
    inflight-next tested c.args.self.now c.take_in.new.self c.args.fate c.args.decided (seen c.args.at c.args.note.now) past under u t.role t.fate t.ordered t.entries t.stray t.unanswered t.void t.earlier t.subscribing t.unsubscribing t.resent t.ended t.opened t.peer t.flying t.bounds t.bounded
    (t.again below order same
    (same-single s.opened (apart c.excused_now-excused.result) single (value_under s.entries) _ itself
    (c.in_ok-self.ensures.resent
    (same-single s.opened single (apart c.excused_now-excused.result) (value_under s.entries) s.again (sym itself) u.resent_are))))

pub returns-clause-grows : goal.returns-clause-grows
returns-clause-grows c = λ tested past under u.
    let s = c.args.self.now in
    let e = seen c.args.at c.args.note.now in
    subst (λ (n : FaultMap). Gains (λ k r. is_inflight r && turns_with tested c.args.fate e past k r) tested (e ∷ past) c.args.decided c.args.faults.now n)
    (sym (c.in_ok-self.ensures.ok ∙ ap (λ n. told c.settles_now-settles.result s.again c.excused_now-excused.result s.opened c.args.decided (values_of (value_under s.entries)) n) c.in_ok-judge_all.ensures.ok))
    (inflight-gains tested s c.args.fate c.args.decided e past c.args.faults.now c.broken_by-broken.result c.settles_now-settles.result c.excused_now-excused.result under u c.broken_by-broken.ensures c.settles_now-settles.ensures (excused_as c.args.self.now.peer c.args.self.now.in_flight _ _ _ c.excused_now-excused.ensures c.excused_by_itself-single.ensures))

pub returns-in_err-judge_all-clause-memory : goal.returns-in_err-judge_all-clause-memory
returns-in_err-judge_all-clause-memory c =
    on_err c.from_residual.result _ (λ tested past under u.
    let e = seen c.args.at c.args.note.now in
    let m = c.args.faults.now in
    let b = c.broken_by-broken.result in
    within_either_first is_at_once (λ r. same_rule r S06) (λ k r. turns_with tested c.args.fate e past k r) tested (e ∷ past) c.args.decided m c.judge_all.new.faults
    (within_kept (λ k r. is_at_once r && turns_with tested c.args.fate e past k r) tested (e ∷ past) c.args.decided m c.judge_all.new.faults (judged_all b c.args.at c.args.decided m)
    (using-gains tested c.args.self.now c.args.fate c.args.decided e past m b under u c.broken_by-broken.ensures)
    c.in_err-judge_all.ensures.memory c.in_err-judge_all.ensures.partial))

pub returns-in_err-self-clause-memory : goal.returns-in_err-self-clause-memory
returns-in_err-self-clause-memory c =
    on_err c.from_residual-in_err-self.result _ (λ tested past under u.
    let s = c.args.self.now in
    let e = seen c.args.at c.args.note.now in
    let m = c.args.faults.now in
    let mid = c.judge_all.new.faults in
    within_either_second is_at_once (λ r. same_rule r S06) (λ k r. turns_with tested c.args.fate e past k r) tested (e ∷ past) c.args.decided m mid c.settle.new.faults
    (subst (λ (n : FaultMap). Gains (λ k r. is_at_once r && turns_with tested c.args.fate e past k r) tested (e ∷ past) c.args.decided m n) (sym c.in_ok-judge_all.ensures.ok)
    (using-gains tested s c.args.fate c.args.decided e past m c.broken_by-broken.result under u c.broken_by-broken.ensures))
    (within_kept (λ k r. same_rule r S06 && turns_with tested c.args.fate e past k r) tested (e ∷ past) c.args.decided mid c.settle.new.faults (told c.settles_now-settles.result s.again c.excused_now-excused.result s.opened c.args.decided (values_of (value_under s.entries)) mid)
    (resends-gains tested s c.args.fate c.args.decided e past mid c.settles_now-settles.result c.excused_now-excused.result under u c.settles_now-settles.ensures (excused_as c.args.self.now.peer c.args.self.now.in_flight _ _ _ c.excused_now-excused.ensures c.excused_by_itself-single.ensures))
    c.in_err-self.ensures.memory c.in_err-self.ensures.partial))

pub returns-in_err-take_in-clause-memory : goal.returns-in_err-take_in-clause-memory
returns-in_err-take_in-clause-memory c =
    on_err c.from_residual-in_err-take_in.result _ (λ tested past under u.
    let s = c.args.self.now in
    let e = seen c.args.at c.args.note.now in
    within_all (λ k r. is_inflight r && turns_with tested c.args.fate e past k r) tested (e ∷ past) c.args.decided c.args.faults.now c.settle.new.faults
    (subst (λ (n : FaultMap). Gains (λ k r. is_inflight r && turns_with tested c.args.fate e past k r) tested (e ∷ past) c.args.decided c.args.faults.now n)
    (sym (c.in_ok-self.ensures.ok ∙ ap (λ n. told c.settles_now-settles.result s.again c.excused_now-excused.result s.opened c.args.decided (values_of (value_under s.entries)) n) c.in_ok-judge_all.ensures.ok))
    (inflight-gains tested s c.args.fate c.args.decided e past c.args.faults.now c.broken_by-broken.result c.settles_now-settles.result c.excused_now-excused.result under u c.broken_by-broken.ensures c.settles_now-settles.ensures (excused_as c.args.self.now.peer c.args.self.now.in_flight _ _ _ c.excused_now-excused.ensures c.excused_by_itself-single.ensures))))
