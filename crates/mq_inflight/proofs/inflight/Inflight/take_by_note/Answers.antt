use Rattle.std.proofs.Common.{◌∷◌, ◌+◌, ◌&&◌, length, subst, sym}
use Rattle.mq_rules.specs.Connections.{latest_fate}
use Rattle.mq_rules.specs.Under.{seen, Follows, IsKnown, turns_known}
use Rattle.mq_rules.specs.Growing.{Gains, GainsWithin}
use Rattle.mq_rules.proofs.Exports.{on_err}
use Rattle.mq_inflight.specs.Using.{IsUsing, is_inflight}
use Rattle.mq_fates.proofs.Exports.{knows, known-gains, known-within}
use Rattle.mq_inflight.proofs.inflight.Inflight.take_by_note.Goals as goal

pub returns-clause-agrees : goal.returns-clause-agrees
returns-clause-agrees c = λ tested taken past follows known u.
    let same = c.note-note.ensures in
    let e = seen c.args.at c.note-note.result in
    let s = c.args.self.now in
    let f = subst (λ n. Follows tested (seen c.args.at n) past) (sym same) follows in
    let i = subst (λ n. IsKnown tested taken (seen c.args.at n) past) (sym same) known in
    let k = knows tested s.fate taken e past f i u.same_fate in
    subst (λ n. IsUsing c.take_noted.new.self tested (latest_fate tested.role (seen c.args.at n ∷ past)) (seen c.args.at n ∷ past)) same
    (subst (λ o. IsUsing c.take_noted.new.self tested o (e ∷ past)) k.after (c.in_ok-take_noted.ensures.agrees tested past k.under (subst (λ o. IsUsing s tested o past) k.before u)))

pub returns-clause-grows : goal.returns-clause-grows
returns-clause-grows c = λ tested taken past follows known u.
    let same = c.note-note.ensures in
    let e = seen c.args.at c.note-note.result in
    let s = c.args.self.now in
    let f = subst (λ n. Follows tested (seen c.args.at n) past) (sym same) follows in
    let i = subst (λ n. IsKnown tested taken (seen c.args.at n) past) (sym same) known in
    let k = knows tested s.fate taken e past f i u.same_fate in
    subst (λ n. Gains (λ k r. is_inflight r && turns_known tested (seen c.args.at n) past k r) tested (seen c.args.at n ∷ past) (length past + 1) c.args.faults.now c.take_noted.new.faults) same
    (known-gains tested s.fate taken is_inflight e past c.args.faults.now c.take_noted.new.faults k (c.in_ok-take_noted.ensures.grows tested past k.under (subst (λ o. IsUsing s tested o past) k.before u)))

pub returns-in_err-take_noted-clause-memory : goal.returns-in_err-take_noted-clause-memory
returns-in_err-take_noted-clause-memory c =
    on_err c.from_residual.result _ (λ tested taken past follows known u.
    let same = c.note-note.ensures in
    let e = seen c.args.at c.note-note.result in
    let s = c.args.self.now in
    let f = subst (λ n. Follows tested (seen c.args.at n) past) (sym same) follows in
    let i = subst (λ n. IsKnown tested taken (seen c.args.at n) past) (sym same) known in
    let k = knows tested s.fate taken e past f i u.same_fate in
    subst (λ n. GainsWithin (λ k r. is_inflight r && turns_known tested (seen c.args.at n) past k r) tested (seen c.args.at n ∷ past) (length past + 1) c.args.faults.now c.take_noted.new.faults) same
    (known-within tested s.fate taken is_inflight e past c.args.faults.now c.take_noted.new.faults k (c.in_err-take_noted.ensures.memory tested past k.under (subst (λ o. IsUsing s tested o past) k.before u))))
