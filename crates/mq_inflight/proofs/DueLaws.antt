-- What a resumed session owes: what is sent again, and which openers are due.
use Rattle.std.proofs.Common.{◌≡◌, ℕ, ◌+◌, ◌<◌, ◌≤◌, nat_lt, arith, Bool, true, false, cond, ◌&&◌, ◌||◌, not, List, [], ◌∷◌, length, Option, Some, None, refl, ap, sym, ◌∙◌, subst, inl, inr}
use Rattle.std.proofs.lemmas.Bool.{eqb-true, eq-eqb, ltb-true, ltb-false, le-ltb}
use Rattle.mq_log.specs.declared.place.Place3.{Place3}
use Rattle.mq_rules.specs.declared.role.Role.{Role}
use Rattle.mq_rules.specs.declared.fate.Fate.{Fate}
use Rattle.mq_rules.specs.declared.note.Seen.{Seen}
use Rattle.mq_rules.specs.Words.{is_some_and, is_id}
use Rattle.mq_rules.specs.Notes.{is_open, is_release, opener_of}
use Rattle.mq_rules.specs.Moments.{Moment, newest, note, position, moment, moments, is_same, some, since, Among, IsDescending, HoldsSince, IsLatest, IsPlaced}
use Rattle.mq_rules.specs.Connections.{connection, latest_fate, accepts, resumes, resumed, begins, voided, any_accepted, has_session, with_first, session}
use Rattle.mq_rules.specs.Identifiers.{opens_id, closes_id, delivers, sends_pubrel, sends_again, is_passed_over, is_retained}
use Rattle.mq_rules.proofs.Exports.{among-moment, among-some, among-within, and_true, both_true, connection-newest as connection-next, latest-is, moment-placed, or_left, same_test, session-descend, session-members, since-stands, some-among, stands-since, there}
use Rattle.mq_rules.specs.Passing.{opened_at}
use Rattle.mq_inflight.specs.declared.inflight.entry.Entry.{Entry}
use Rattle.mq_inflight.specs.declared.inflight.resends.Excused.{Excused}
use Rattle.mq_inflight.specs.Opened.{confirms, moves, entry_in}
use Rattle.mq_inflight.specs.Resending.{covers, is_due, is_passed}
use Rattle.mq_inflight.proofs.OpenedLaws.{opener-delivers, entry-there, entry-is, IsEntry}

-- ---- the latest connection

pub opened-within : (past : List Seen) → opened_at past ≤ length past
opened-within [] = omega arith
opened-within (e ∷ past) = go (is_open e.note) (opened-within past)
  where
    go : (b : Bool) → opened_at past ≤ length past → cond b (length past + 1) (opened_at past) ≤ length (e ∷ past)
    go true h = omega arith
    go false h = omega arith

-- the moments of the latest connection are those from its OPEN on
pub to-connection : (past : List Seen) (m : Moment) → Among m (moments past) → opened_at past ≤ position m → Among m (connection past)
to-connection [] m h le = absurd h
to-connection (e ∷ past) m h le = subst (λ (ms : List Moment). Among m ms) (sym (connection-next e past)) (go h (is_open e.note) le (to-connection past m))
  where
    go : Among m (newest e past ∷ moments past) → (b : Bool) → cond b (length past + 1) (opened_at past) ≤ position m → (Among m (moments past) → opened_at past ≤ position m → Among m (connection past)) → Among m (newest e past ∷ cond b [] (connection past))
    go (inl same) b le rest = inl same
    go (inr old) true le rest = absurd (let w : position m ≤ length past = among-within m past old in omega arith)
    go (inr old) false le rest = inr (rest old le)

pub from-connection : (past : List Seen) (m : Moment) → Among m (connection past) → Among m (moments past) × (opened_at past ≤ position m)
from-connection [] m h = absurd h
from-connection (e ∷ past) m h = go (is_open e.note) (subst (λ (ms : List Moment). Among m ms) (connection-next e past) h) (from-connection past m)
  where
    go : (b : Bool) → Among m (newest e past ∷ cond b [] (connection past)) → (Among m (connection past) → Among m (moments past) × (opened_at past ≤ position m))
        → Among m (newest e past ∷ moments past) × (cond b (length past + 1) (opened_at past) ≤ position m)
    go true (inl same) rest = (inl same, let p : position m ≡ length past + 1 = ap position same in omega arith)
    go true (inr old) rest = absurd old
    go false (inl same) rest = (inl same, let p : position m ≡ length past + 1 = ap position same in let w = opened-within past in omega arith)
    go false (inr old) rest = let r = rest old in (inr r.0, r.1)

-- an accepted connection is of its session
connection-session : (role : Role) (f : Fate) → accepts f ≡ true → (past : List Seen) (m : Moment) → Among m (connection past) → Among m (session role (Some f) past)
connection-session role f a [] m h = absurd h
connection-session role f a (e ∷ past) m h =
    go (has_session role (Some f) e past) (or_left (accepts f) (is_release e.note && (voided (Some f) && any_accepted role (Some f) past)) a) (is_open e.note) (subst (λ (ms : List Moment). Among m ms) (connection-next e past) h) (connection-session role f a past m)
  where
    go : (w : Bool) → w ≡ true → (b : Bool) → Among m (newest e past ∷ cond b [] (connection past)) → (Among m (connection past) → Among m (session role (Some f) past))
        → Among m (with_first w (newest e past) (cond b (cond (begins (Some f)) [] (session role (latest_fate role past) past)) (session role (Some f) past)))
    go false w b h rest = absurd (cc)
    go true w b (inl same) rest = inl same
    go true w true (inr old) rest = absurd old
    go true w false (inr old) rest = inr (rest old)

pub same-moment : (past : List Seen) (a b : Moment) → Among a (moments past) → Among b (moments past) → position a ≡ position b → a ≡ b
same-moment past a b x y same = let both : Some a ≡ Some b = sym (among-moment a past x) ∙ ap (moment past) same ∙ among-moment b past y in cc

unset : (b : Bool) → not b ≡ true → b ≡ false
unset false h = refl
unset true h = absurd (cc)

-- ---- an identifier that is open was sent again on the connection exactly if it was sent from its OPEN on

pub sent-again : (role : Role) (f : Fate) → accepts f ≡ true → (i : ℕ) (past : List Seen) → IsPlaced past → (o : Entry) → IsEntry i (session role (Some f) past) o
    → some (sends_again i) (connection past) ≡ not (nat_lt o.sent (opened_at past))
sent-again role f a i past placed o r = same_test (some (sends_again i) (connection past)) (not (nat_lt o.sent (opened_at past))) forth back
  where
    s : Moment
    s = r.is_sent.0

    there_s : Among s (session role (Some f) past)
    there_s = (latest-is (sends_again i) (session role (Some f) past) s (session-descend role (Some f) past) r.is_sent.1).there

    among_s : Among s (moments past)
    among_s = (session-members role (Some f) past s there_s).0

    at : o.sent ≡ position s
    at = r.is_sent.2 ∙ moment-placed past (position s) s placed (among-moment s past among_s)

    forth : some (sends_again i) (connection past) ≡ true → not (nat_lt o.sent (opened_at past)) ≡ true
    forth t =
        let x = some-among (sends_again i) (connection past) t in
        let y = from-connection past x.0 x.1 in
        let z : Among x.0 (session role (Some f) past) = connection-session role f a past x.0 x.1 in
        go x.0 x.2 y.1 z (nat_lt (position s) (position x.0)) refl
      where
        go : (x : Moment) → sends_again i x ≡ true → opened_at past ≤ position x → Among x (session role (Some f) past) → (b : Bool) → nat_lt (position s) (position x) ≡ b → not (nat_lt o.sent (opened_at past)) ≡ true
        go x sends le z true h = absurd (let none : sends_again i x ≡ false = (latest-is (sends_again i) (session role (Some f) past) s (session-descend role (Some f) past) r.is_sent.1).none_after x z (ltb-true (position s) (position x) h) in cc)
        go x sends le z false h =
            let before : position x ≤ position s = ltb-false (position s) (position x) h in
            ap not (le-ltb o.sent (opened_at past) (let p = at in omega arith))

    back : not (nat_lt o.sent (opened_at past)) ≡ true → some (sends_again i) (connection past) ≡ true
    back t =
        let le : opened_at past ≤ o.sent = ltb-false o.sent (opened_at past) (unset (nat_lt o.sent (opened_at past)) t) in
        among-some (sends_again i) (connection past) s (to-connection past s among_s (let p = at in omega arith))
        (latest-is (sends_again i) (session role (Some f) past) s (session-descend role (Some f) past) r.is_sent.1).passes

-- ---- where it was opened

pub opener-place : (role : Role) (f : Option Fate) (i : ℕ) (past : List Seen) → IsPlaced past → (o : Entry) → (r : IsEntry i (session role f past) o) → o.place.position ≡ position r.opener
opener-place role f i past placed o r =
    ap (λ (y : Place3). y.position) r.same_place ∙ moment-placed past (position r.opener) r.opener placed (among-moment r.opener past (session-members role f past r.opener r.there).0)

-- what is sent last isn't sent before it
pub opener-before : (role : Role) (f : Option Fate) (i : ℕ) (past : List Seen) → IsPlaced past → (o : Entry) → IsEntry i (session role f past) o → o.place.position ≤ o.sent
opener-before role f i past placed o r =
    let at = opener-place role f i past placed o r in
    let sent_at : o.sent ≡ position s = r.is_sent.2 ∙ moment-placed past (position s) s placed (among-moment s past (session-members role f past s last.there).0) in
    let le = go (nat_lt (position s) (position r.opener)) refl in
    omega (arith, at, sent_at, le)
  where
    s : Moment
    s = r.is_sent.0

    last : IsLatest (sends_again i) (session role f past) s
    last = latest-is (sends_again i) (session role f past) s (session-descend role f past) r.is_sent.1

    go : (b : Bool) → nat_lt (position s) (position r.opener) ≡ b → position r.opener ≤ position s
    go true t = absurd (
        let none : sends_again i r.opener ≡ false = last.none_after r.opener r.there (ltb-true (position s) (position r.opener) t) in
        let sends : sends_again i r.opener ≡ true = or_left (delivers i r.opener) (sends_pubrel i r.opener) (opener-delivers i (note r.opener) r.begins_it) in
        cc)
    go false t = ltb-false (position s) (position r.opener) t

-- ---- what is due

-- an opener of i is owed
abbrev core : Role → Fate → Bool → Bool → List Seen → ℕ → Moment → Bool
core role f u t past i m = since (is_same m) (moves i) (session role (Some f) past) && (not (some (is_same m) (connection past))
    && (not (some (sends_again i) (connection past)) && not (since (is_same m) (confirms i) (session role (Some f) past) && ((u || is_passed_over role (Some f) i past m) || (t && is_retained m)))))

-- the same of an opener of any identifier, under any fate
abbrev pub owes : Role → Option Fate → Bool → Bool → List Seen → Moment → Bool
owes role o u t past m = resumed o && is_some_and (λ i. since (is_same m) (moves i) (session role o past) && (not (some (is_same m) (connection past))
    && (not (some (sends_again i) (connection past)) && not (since (is_same m) (confirms i) (session role o past) && ((u || is_passed_over role o i past m) || (t && is_retained m)))))) (opener_of (note m))

core-is : (role : Role) (f : Fate) → accepts f ≡ true → (x : Excused) (past : List Seen) → IsPlaced past → (i : ℕ) (o : Entry) → (r : IsEntry i (session role (Some f) past) o) → is_passed_over role (Some f) i past r.opener ≡ is_passed x.before o
    → core role f x.all x.retained past i r.opener ≡ is_due (opened_at past) x o
core-is role f a x past placed i o r over =
    ap (λ b. b && (not (some (is_same r.opener) (connection past)) && (not (some (sends_again i) (connection past)) && not (since (is_same r.opener) (confirms i) (session role (Some f) past) && excused)))) r.unmoved
    ∙ ap (λ b. not (some (is_same r.opener) (connection past)) && (not b && not (since (is_same r.opener) (confirms i) (session role (Some f) past) && excused))) (sent-again role f a i past placed o r)
    ∙ ap (λ b. not (some (is_same r.opener) (connection past)) && (not (not (nat_lt o.sent (opened_at past))) && not (b && excused))) (sym r.is_confirmed)
    ∙ ap (λ b. not (some (is_same r.opener) (connection past)) && (not (not (nat_lt o.sent (opened_at past))) && not (not o.confirmed && ((x.all || is_passed_over role (Some f) i past r.opener) || (x.retained && b))))) (sym r.same_retained)
    ∙ ap (λ b. not (some (is_same r.opener) (connection past)) && (not (not (nat_lt o.sent (opened_at past))) && not (not o.confirmed && ((x.all || b) || (x.retained && o.retained))))) over
    ∙ ap (λ b. not (some (is_same r.opener) (connection past)) && (not (not (nat_lt o.sent (opened_at past))) && not (not o.confirmed && b))) (in-turn x.all (is_passed x.before o) (x.retained && o.retained))
    ∙ tail (nat_lt o.sent (opened_at past)) o.confirmed (covers x o) (some (is_same r.opener) (connection past)) new
  where
    excused : Bool
    excused = (x.all || is_passed_over role (Some f) i past r.opener) || (x.retained && is_retained r.opener)

    in-turn : (a b c : Bool) → ((a || b) || c) ≡ (a || (b || c))
    in-turn true b c = refl
    in-turn false b c = refl

    tail : (lt c x a : Bool) → (a ≡ true → lt ≡ false) → (not a && (not (not lt) && not (not c && x))) ≡ (lt && (c || not x))
    tail lt c x true h = sym (ap (λ b. b && (c || not x)) (h refl))
    tail true true x false h = refl
    tail true false true false h = refl
    tail true false false false h = refl
    tail false c x false h = refl

    -- an opener on the connection was sent there
    new : some (is_same r.opener) (connection past) ≡ true → nat_lt o.sent (opened_at past) ≡ false
    new t =
        let m = some-among (is_same r.opener) (connection past) t in
        let same : r.opener ≡ m.0 = same-moment past r.opener m.0 (session-members role (Some f) past r.opener r.there).0 (from-connection past m.0 m.1).0 (eqb-true (position r.opener) (position m.0) m.2) in
        let sends : sends_again i m.0 ≡ true = subst (λ (n : Moment). sends_again i n ≡ true) same (or_left (delivers i r.opener) (sends_pubrel i r.opener) (opener-delivers i (note r.opener) r.begins_it)) in
        unset (nat_lt o.sent (opened_at past)) (sym (sent-again role f a i past placed o r) ∙ among-some (sends_again i) (connection past) m.0 m.1 sends)

-- what is kept and due is owed
pub due-owes : (role : Role) (f : Fate) → resumes f ≡ true → accepts f ≡ true → (x : Excused) (past : List Seen) → IsPlaced past → (i : ℕ) (o : Entry) → (r : IsEntry i (session role (Some f) past) o) → is_passed_over role (Some f) i past r.opener ≡ is_passed x.before o
    → is_due (opened_at past) x o ≡ true → owes role (Some f) x.all x.retained past r.opener ≡ true
due-owes role f resumed a x past placed i o r over due = and_true (resumes f) (is_some_and (λ i. core role f x.all x.retained past i r.opener) (opener_of (note r.opener))) resumed (go (opener_of (note r.opener)) r.begins_it)
  where
    go : (q : Option ℕ) → is_id i q ≡ true → is_some_and (λ i. core role f x.all x.retained past i r.opener) q ≡ true
    go None h = absurd (cc)
    go (Some j) h = ap (λ j. core role f x.all x.retained past j r.opener) (sym (eqb-true i j h)) ∙ core-is role f a x past placed i o r over ∙ due

-- what is kept of an opener that is owed
pub record Owed (role : Role) (f : Fate) (x : Excused) (past : List Seen) (m : Moment) : Type 0 where
  pub identifier : ℕ
  pub entry : Entry
  pub is_kept : entry_in role identifier (session role (Some f) past) ≡ Some entry
  pub due : is_due (opened_at past) x entry ≡ true
  pub same_place : entry.place ≡ m.event.place

pub owes-due : (role : Role) (f : Fate) → accepts f ≡ true → (x : Excused) (past : List Seen) → IsPlaced past
    → ((i : ℕ) (o : Entry) → entry_in role i (session role (Some f) past) ≡ Some o → (r : IsEntry i (session role (Some f) past) o) → is_passed_over role (Some f) i past r.opener ≡ is_passed x.before o)
    → (m : Moment) → Among m (moments past) → owes role (Some f) x.all x.retained past m ≡ true → Owed role f x past m
owes-due role f a x past placed over m among h = go (opener_of (note m)) refl (both_true (resumes f) (is_some_and (λ i. core role f x.all x.retained past i m) (opener_of (note m))) h).1
  where
    ms : List Moment
    ms = session role (Some f) past

    d : IsDescending ms
    d = session-descend role (Some f) past

    second : (p q : Bool) → (p || q) ≡ false → q ≡ false
    second false q h = h
    second true q h = absurd (cc)

    equal : (p q : Moment) → ¬ (position p < position q) → ¬ (position q < position p) → position p ≡ position q
    equal p q u v = by (nat_lt (position p) (position q)) refl (nat_lt (position q) (position p)) refl
      where
        by : (s : Bool) → nat_lt (position p) (position q) ≡ s → (t : Bool) → nat_lt (position q) (position p) ≡ t → position p ≡ position q
        by true s t w = absurd (u (ltb-true (position p) (position q) s))
        by false s true w = absurd (v (ltb-true (position q) (position p) w))
        by false s false w = let x : position q ≤ position p = ltb-false (position p) (position q) s in let y : position p ≤ position q = ltb-false (position q) (position p) w in omega arith

    kept : (i : ℕ) → opens_id i m ≡ true → core role f x.all x.retained past i m ≡ true → HoldsSince (is_same m) (moves i) ms → Owed role f x past m
    kept i opens c held =
        let at : m ≡ held.at = same-moment past m held.at among (session-members role (Some f) past held.at held.there).0 (eqb-true (position m) (position held.at) held.passes) in
        let open_at : opens_id i held.at ≡ true = subst (λ (n : Moment). opens_id i n ≡ true) at opens in
        let stands : HoldsSince (opens_id i) (closes_id i) ms = record { at = held.at; there = held.there; passes = open_at; none_after = λ n z lt. second (opens_id i n) (closes_id i n) (held.none_after n z lt) } in
        let e = there (entry_in role i ms) (entry-there role i ms ∙ stands-since (opens_id i) (closes_id i) ms d stands) in
        let r = entry-is role i ms e.0 d e.1 in
        let last = latest-is (opens_id i) ms r.opener d r.is_latest in
        let same : m ≡ r.opener = at ∙ same-moment past held.at r.opener (session-members role (Some f) past held.at held.there).0 (session-members role (Some f) past r.opener r.there).0
        (equal held.at r.opener
        (λ lt. let none : moves i r.opener ≡ false = held.none_after r.opener r.there lt in let some_one : moves i r.opener ≡ true = or_left (opens_id i r.opener) (closes_id i r.opener) r.begins_it in absurd (cc))
        (λ lt. let none : opens_id i held.at ≡ false = last.none_after held.at held.there lt in absurd (cc))) in
        record {
          identifier = i;
          entry = e.0;
          is_kept = e.1;
          due = sym (core-is role f a x past placed i e.0 r (over i e.0 e.1 r)) ∙ ap (core role f x.all x.retained past i) (sym same) ∙ c;
          same_place = r.same_place ∙ ap (λ (n : Moment). n.event.place) (sym same);
        }

    go : (q : Option ℕ) → opener_of (note m) ≡ q → is_some_and (λ i. core role f x.all x.retained past i m) q ≡ true → Owed role f x past m
    go None p c = absurd (cc)
    go (Some i) p c = kept i (ap (is_id i) p ∙ eq-eqb i i refl) c (since-stands (is_same m) (moves i) ms d
        (both_true (since (is_same m) (moves i) ms) (not (some (is_same m) (connection past)) && (not (some (sends_again i) (connection past)) && not (since (is_same m) (confirms i) ms && ((x.all || is_passed_over role (Some f) i past m) || (x.retained && is_retained m))))) c).0)
