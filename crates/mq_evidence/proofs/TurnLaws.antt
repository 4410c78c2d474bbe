-- The stretches with one event more, under a fate.
use Rattle.std.proofs.Common.{◌≡◌, ℕ, ◌+◌, ◌<◌, ◌≤◌, ◌==◌, arith, Bool, true, false, cond, ◌&&◌, ◌||◌, List, [], ◌∷◌, length, Option, Some, None, refl, ap, sym, ◌∙◌}
use Rattle.std.specs.Prelude.{unwrap_or, option_map}
use Rattle.std.proofs.lemmas.Bool.{eq-eqb, eqb-true, ne_eqb}
use Rattle.mq_rules.specs.declared.role.Role.{Role}
use Rattle.mq_rules.specs.declared.role.Tested.{Tested}
use Rattle.mq_rules.specs.declared.fate.Fate.{Fate}
use Rattle.mq_rules.specs.declared.rule.Rule.{Rule}
use Rattle.mq_rules.specs.declared.note.Note.{Note}
use Rattle.mq_rules.specs.declared.note.Note.TheVariants as notes
use Rattle.mq_rules.specs.declared.note.Seen.{Seen}
use Rattle.mq_rules.specs.Notes.{is_open, is_release}
use Rattle.mq_rules.specs.Moments.{Moment, newest, moment}
use Rattle.mq_rules.specs.Connections.{begun, number, connection, fate, latest_fate, accepts, is_void, begins, any_accepted, has_session, with_first, session, fate_under}
use Rattle.mq_rules.specs.Under.{fate_before}
use Rattle.mq_rules.proofs.Exports.{connection-newest, begun-open, begun-same, begun-least, fate-elsewhere, number-within, moment-newest, moment-older}
use Rattle.mq_rules.specs.Evidence.{nothing}
use Rattle.mq_evidence.specs.Evidence.{earlier_sessions, found, reason}
use Rattle.mq_evidence.specs.Stretches.{stretches, advanced, longer}
use Rattle.mq_evidence.specs.Turning.{turn_of, evidence_under}

-- an OPEN is no RELEASE
open-unreleased : (n : Note) → is_open n ≡ true → is_release n ≡ false
open-unreleased notes.Open h = refl
open-unreleased (notes.Close cuts part) h = absurd (cc)
open-unreleased notes.Rest h = absurd (cc)
open-unreleased (notes.Release identifier) h = absurd (cc)
open-unreleased (notes.Sent item) h = absurd (cc)
open-unreleased (notes.Recv item) h = absurd (cc)

-- ---- the session

session-under : (tested : Tested) (f : Fate) (e : Seen) (past : List Seen) → session tested.role (Some f) (e ∷ past)
    ≡ longer (is_open e.note && begins (Some f)) (has_session tested.role (Some f) e past) (newest e past) (session tested.role (fate_before tested f e past) past)
session-under tested f e past = ap (with_first (has_session tested.role (Some f) e past) (newest e past)) (go (is_open e.note) (begins (Some f)))
  where
    go : (o b : Bool) → cond o (cond b [] (session tested.role (latest_fate tested.role past) past)) (session tested.role (Some f) past)
        ≡ cond (o && b) [] (session tested.role (cond o (latest_fate tested.role past) (Some f)) past)
    go true true = refl
    go true false = refl
    go false b = refl

earlier-under : (tested : Tested) (f : Fate) (e : Seen) (past : List Seen) → earlier_sessions tested.role (Some f) (e ∷ past)
    ≡ cond (is_open e.note && begins (Some f)) (session tested.role (fate_before tested f e past) past ∷ earlier_sessions tested.role (fate_before tested f e past) past)
    (earlier_sessions tested.role (fate_before tested f e past) past)
earlier-under tested f e past = go (is_open e.note) (begins (Some f))
  where
    go : (o b : Bool) → cond o (cond b (session tested.role (latest_fate tested.role past) past ∷ earlier_sessions tested.role (latest_fate tested.role past) past) (earlier_sessions tested.role (latest_fate tested.role past) past))
        (earlier_sessions tested.role (Some f) past)
        ≡ cond (o && b) (session tested.role (cond o (latest_fate tested.role past) (Some f)) past ∷ earlier_sessions tested.role (cond o (latest_fate tested.role past) (Some f)) past)
        (earlier_sessions tested.role (cond o (latest_fate tested.role past) (Some f)) past)
    go true true = refl
    go true false = refl
    go false b = refl

inside-is : (tested : Tested) (f : Fate) (any : Bool) (e : Seen) (past : List Seen) → any ≡ any_accepted tested.role (fate_before tested f e past) past
    → (accepts f || (is_release e.note && (is_void f && any))) ≡ has_session tested.role (Some f) e past
inside-is tested f any e past is = go (is_release e.note) refl
  where
    same : (b : Bool) → is_open e.note ≡ b → is_release e.note ≡ true → any_accepted tested.role (cond b (latest_fate tested.role past) (Some f)) past ≡ any_accepted tested.role (Some f) past
    same true g r = absurd (let x = open-unreleased e.note g in cc)
    same false g r = refl

    go : (r : Bool) → is_release e.note ≡ r → (accepts f || (r && (is_void f && any))) ≡ (accepts f || (r && (is_void f && any_accepted tested.role (Some f) past)))
    go false h = refl
    go true h = ap (λ b. accepts f || (is_void f && b)) (is ∙ same (is_open e.note) refl h)

-- the stretches, where the event turns them as it does by what is kept
pub advanced-under : (tested : Tested) (f : Fate) (any : Bool) (p : ℕ) (e : Seen) (past : List Seen) → any ≡ any_accepted tested.role (fate_before tested f e past) past
    → stretches tested.role (Some f) (e ∷ past) ≡ advanced (turn_of p f e.note any) (newest e past) (stretches tested.role (fate_before tested f e past) past)
advanced-under tested f any p e past is =
    ap (λ es. record { earlier = es; session = session tested.role (Some f) (e ∷ past); connection = connection (e ∷ past) }) (earlier-under tested f e past)
    ∙ ap (λ ms. record { earlier = earlier; session = ms; connection = connection (e ∷ past) })
    (session-under tested f e past ∙ ap (λ inside. longer (is_open e.note && begins (Some f)) inside (newest e past) (session tested.role (fate_before tested f e past) past)) (sym (inside-is tested f any e past is)))
    ∙ ap (λ ms. record { earlier = earlier; session = longer (is_open e.note && begins (Some f)) (accepts f || (is_release e.note && (is_void f && any))) (newest e past) (session tested.role (fate_before tested f e past) past); connection = ms })
    (connection-newest e past)
  where
    earlier : List (List Moment)
    earlier = cond (is_open e.note && begins (Some f)) (session tested.role (fate_before tested f e past) past ∷ earlier_sessions tested.role (fate_before tested f e past) past)
        (earlier_sessions tested.role (fate_before tested f e past) past)

pub any-next : (tested : Tested) (f : Fate) (any : Bool) (e : Seen) (past : List Seen) → any ≡ any_accepted tested.role (fate_before tested f e past) past
    → (any || (is_open e.note && accepts f)) ≡ any_accepted tested.role (Some f) (e ∷ past)
any-next tested f any e past is = go (is_open e.note) is
  where
    turn : (a b : Bool) → (a || b) ≡ (b || a)
    turn true true = refl
    turn true false = refl
    turn false true = refl
    turn false false = refl

    plain : (a : Bool) → (a || false) ≡ a
    plain true = refl
    plain false = refl

    go : (o : Bool) → any ≡ any_accepted tested.role (cond o (latest_fate tested.role past) (Some f)) past
        → (any || (o && accepts f)) ≡ cond o (accepts f || any_accepted tested.role (latest_fate tested.role past) past) (any_accepted tested.role (Some f) past)
    go true is = turn any (accepts f) ∙ ap (λ b. accepts f || b) is
    go false is = plain any ∙ is

-- ---- fates, with one event more

-- the fates of the connections of these events, before the event and after it
pub fates-under : (tested : Tested) (f : Fate) (e : Seen) (past : List Seen) (c : ℕ) → c ≤ begun past → fate_under tested.role (Some f) (e ∷ past) c ≡ fate_under tested.role (fate_before tested f e past) past c
fates-under tested f e past c within = go (is_open e.note) refl
  where
    none : (n : ℕ) (o : Option Fate) → (n == begun past) ≡ false → c ≡ n → fate tested.role c (e ∷ past) ≡ fate tested.role c past → fate tested.role c (e ∷ past) ≡ cond (n == begun past) o (fate tested.role c past)
    none n o h is same = same ∙ ap (λ b. cond b o (fate tested.role c past)) (sym h)

    go : (o : Bool) → is_open e.note ≡ o → fate_under tested.role (Some f) (e ∷ past) c ≡ cond (c == begun past) (cond o (latest_fate tested.role past) (Some f)) (fate tested.role c past)
    go true h =
        let more : begun (e ∷ past) ≡ 1 + begun past = begun-open e past h in
        let other : (c == begun (e ∷ past)) ≡ false = ne_eqb c (begun (e ∷ past)) (λ same. absurd (omega arith)) in
        let below : c < begun (e ∷ past) = omega arith in
        ap (λ b. cond b (Some f) (fate tested.role c (e ∷ past))) other
        ∙ fate-elsewhere tested.role c e past below
        ∙ own (c == begun past) refl
      where
        own : (b : Bool) → (c == begun past) ≡ b → fate tested.role c past ≡ cond b (latest_fate tested.role past) (fate tested.role c past)
        own true g = ap (λ n. fate tested.role n past) (eqb-true c (begun past) g)
        own false g = refl
    go false h = ap (λ n. cond (c == n) (Some f) (fate tested.role c (e ∷ past))) (begun-same e past h) ∙ kept (c == begun past) refl
      where
        kept : (b : Bool) → (c == begun past) ≡ b → cond b (Some f) (fate tested.role c (e ∷ past)) ≡ cond b (Some f) (fate tested.role c past)
        kept true g = refl
        kept false g =
            let least : begun past ≤ begun (e ∷ past) = begun-least e past in
            let below : c < begun (e ∷ past) = apart g within least in
            fate-elsewhere tested.role c e past below
          where
            apart : {n : ℕ} → (c == begun past) ≡ false → c ≤ begun past → begun past ≤ n → c < n
            apart {n} x y z = strict (begun past) x y z
              where
                strict : (b : ℕ) → (c == b) ≡ false → c ≤ b → b ≤ n → c < n
                strict b x y z = differs (λ same. absurd (let t = eq-eqb c b same in cc)) y z
                  where
                    differs : (c ≡ b → ⊥) → c ≤ b → b ≤ n → c < n
                    differs d y z = omega arith

-- ---- the evidence, with one event more

pub evidence-older : (tested : Tested) (f : Fate) (e : Seen) (past : List Seen) (k : ℕ) (r : Rule) → k ≤ length past
    → evidence_under tested (Some f) (e ∷ past) k r ≡ evidence_under tested (fate_before tested f e past) past k r
unfolding evidence_under
evidence-older tested f e past k r within =
    ap (λ o. unwrap_or (option_map (λ m. found (reason tested.role r) (fate_under tested.role (Some f) (e ∷ past) (number m)) None m) o) nothing) (moment-older e past k within)
    ∙ go (moment past k) refl
  where
    go : (o : Option Moment) → moment past k ≡ o → unwrap_or (option_map (λ m. found (reason tested.role r) (fate_under tested.role (Some f) (e ∷ past) (number m)) None m) o) nothing
        ≡ unwrap_or (option_map (λ m. found (reason tested.role r) (fate_under tested.role (fate_before tested f e past) past (number m)) None m) o) nothing
    go None h = refl
    go (Some m) h = ap (λ g. found (reason tested.role r) g None m) (fates-under tested f e past (number m) (number-within past k m h))

pub evidence-newest : (tested : Tested) (f : Fate) (e : Seen) (past : List Seen) (k : ℕ) (r : Rule) → k ≡ length past + 1
    → evidence_under tested (Some f) (e ∷ past) k r ≡ found (reason tested.role r) (Some f) None (newest e past)
unfolding evidence_under
evidence-newest tested f e past k r is =
    ap (λ o. unwrap_or (option_map (λ m. found (reason tested.role r) (fate_under tested.role (Some f) (e ∷ past) (number m)) None m) o) nothing) (moment-newest e past k is)
    ∙ ap (λ b. found (reason tested.role r) (cond b (Some f) (fate tested.role (begun (e ∷ past)) (e ∷ past))) None (newest e past)) (eq-eqb (begun (e ∷ past)) (begun (e ∷ past)) refl)

-- the fates of a log, where the latest connection is taken to have its own
fates-own : (role : Role) (log : List Seen) (c : ℕ) → fate_under role (latest_fate role log) log c ≡ fate role c log
fates-own role log c = go (c == begun log) refl
  where
    go : (b : Bool) → (c == begun log) ≡ b → cond b (latest_fate role log) (fate role c log) ≡ fate role c log
    go true h = ap (λ n. fate role n log) (sym (eqb-true c (begun log) h))
    go false h = refl

pub evidence-own : (tested : Tested) (log : List Seen) (k : ℕ) (r : Rule)
    → evidence_under tested (latest_fate tested.role log) log k r ≡ unwrap_or (option_map (λ m. found (reason tested.role r) (fate tested.role (number m) log) None m) (moment log k)) nothing
unfolding evidence_under
evidence-own tested log k r = go (moment log k)
  where
    go : (o : Option Moment) → unwrap_or (option_map (λ m. found (reason tested.role r) (fate_under tested.role (latest_fate tested.role log) log (number m)) None m) o) nothing
        ≡ unwrap_or (option_map (λ m. found (reason tested.role r) (fate tested.role (number m) log) None m) o) nothing
    go None = refl
    go (Some m) = ap (λ g. found (reason tested.role r) g None m) (fates-own tested.role log (number m))
