-- What was sent of a message before: looking back over all connections for what was sent on a void one, and over the session for its latest opener and its beginning.
use Rattle.std.proofs.Common.{◌≡◌, ℕ, ◌<◌, ◌≤◌, Bool, true, false, cond, ◌&&◌, ◌||◌, not, List, [], ◌∷◌, Option, Some, refl, ap, sym, ◌∙◌, arith}
use Rattle.std.specs.Prelude.{nat_lt}
use Rattle.std.proofs.lemmas.Bool.{le-ltb, lt-ltb}
use Rattle.mq_rules.specs.declared.role.Role.{Role}
use Rattle.mq_rules.specs.declared.role.Role.TheVariants.{Client}
use Rattle.mq_rules.specs.declared.note.Note.{Note}
use Rattle.mq_rules.specs.declared.fate.Fate.{Fate}
use Rattle.mq_rules.specs.declared.note.Seen.{Seen}
use Rattle.mq_rules.specs.Words.{is_id, is_some_and}
use Rattle.mq_rules.specs.Notes.{is_open, opener_of, sent_publish, is_exactly_once}
use Rattle.mq_rules.specs.Moments.{Moment, newest, note, moments, some, since, latest}
use Rattle.mq_rules.specs.Connections.{begun, number, connection, fate, latest_fate, begins, begins_session, session, has_session, with_first, voided}
use Rattle.mq_rules.specs.Identifiers.{opens_id, delivers, was_sent_before_session}
use Rattle.mq_rules.proofs.Exports.{or_false, begun-least, begun-open, begun-same, fate-elsewhere}
use Rattle.mq_plain.specs.Resends.{happened_on_void, began_with, is_sent_before, is_last_exactly_once}

-- ---- the latest one that passes a test passes another one too

of_latest : (p t : Moment → Bool) (ms : List Moment) → is_some_and (λ m. p m && t m) (latest p ms) ≡ since (λ m. p m && t m) p ms
of_latest p t [] = refl
of_latest p t (m ∷ ms) = go (p m) (t m) (of_latest p t ms) refl refl
  where
    go : (b c : Bool) → is_some_and (λ m. p m && t m) (latest p ms) ≡ since (λ m. p m && t m) p ms → (c ≡ t m) → (b ≡ p m)
        → is_some_and (λ m. p m && t m) (cond b (Some m) (latest p ms)) ≡ ((b && c) || (not b && since (λ m. p m && t m) p ms))
    go true c rest passes is = ap (λ x. x && t m) (sym is) ∙ sym passes ∙ sym (or_false c)
    go false c rest passes is = rest

pub since_latest : (role : Role) (f : Fate) (i : ℕ) (past : List Seen)
    → since (λ m. is_id i (opener_of (note m)) && is_some_and (λ p. is_exactly_once p.qos) (sent_publish (note m))) (λ m. is_id i (opener_of (note m))) (session role (Some f) past)
    ≡ is_last_exactly_once role f i past
since_latest role f i past = sym (of_latest (opens_id i) (λ m. is_some_and (λ p. is_exactly_once p.qos) (sent_publish (note m))) (session role (Some f) past))

-- ---- what happened on a void connection

-- an event that did, and else what stands before it, where the latest connection has this fate
abbrev pub void_back : Role → (Note → Bool) → Option Fate → List Seen → Bool
void_back role kind f [] = false
void_back role kind f (e ∷ past) = (kind e.note && voided f) || void_back role kind (cond (is_open e.note) (latest_fate role past) f) past

-- the fates of the connections up to this one are those of these events
fated : (role : Role) (kind : Note → Bool) (fates : ℕ → Option Fate) (f : Option Fate) (log : List Seen) → fates (begun log) ≡ f → ((c : ℕ) → c < begun log → fates c ≡ fate role c log)
    → void_back role kind f log ≡ some (λ j. kind (note j) && voided (fates (number j))) (moments log)
fated role kind fates f [] own others = refl
fated role kind fates f (e ∷ past) own others =
    ap (λ (g : Option Fate). (kind e.note && voided g) || void_back role kind (cond (is_open e.note) (latest_fate role past) f) past) (sym own)
    ∙ ap (λ b. (kind e.note && voided (fates (begun (e ∷ past)))) || b)
    (fated role kind fates (cond (is_open e.note) (latest_fate role past) f) past (before (is_open e.note) refl) earlier)
  where
    earlier : (c : ℕ) → c < begun past → fates c ≡ fate role c past
    earlier c lt =
        let least = begun-least e past in
        let more : c < begun (e ∷ past) = omega arith in
        others c more ∙ fate-elsewhere role c e past more

    before : (b : Bool) → is_open e.note ≡ b → fates (begun past) ≡ cond b (latest_fate role past) f
    before true h =
        let more = begun-open e past h in
        let lt : begun past < begun (e ∷ past) = omega arith in
        others (begun past) lt ∙ fate-elsewhere role (begun past) e past lt
    before false h = ap fates (sym (begun-same e past h)) ∙ own

pub void_back_all : (role : Role) (kind : Note → Bool) (log : List Seen) → void_back role kind (latest_fate role log) log ≡ happened_on_void role kind log
void_back_all role kind log = fated role kind (λ c. fate role c log) (latest_fate role log) log refl (λ c lt. refl)

-- ---- what was sent before the session began

-- an event of the session that began it so, and else what stands before it, where the latest connection has this fate, and comes before one that is looked at, or doesn't
abbrev pub before_back : ℕ → Option Fate → Bool → List Seen → Bool
before_back i f later [] = false
before_back i f later (e ∷ past) = (later && (has_session Client f e past && began_with i (newest e past)))
    || cond (is_open e.note && begins f) false (before_back i (cond (is_open e.note) (latest_fate Client past) f) (later || is_open e.note) past)

some_first : (b : Bool) (test : Moment → Bool) (m : Moment) (ms : List Moment) → some test (with_first b m ms) ≡ ((b && test m) || some test ms)
some_first true test m ms = refl
some_first false test m ms = refl

turned : (a b c : Bool) → (a && (b && c)) ≡ (b && (a && c))
turned true b c = refl
turned false true c = refl
turned false false c = refl

or_true : (b : Bool) → (b || true) ≡ true
or_true true = refl
or_true false = refl

before_back_is : (i c : ℕ) (f : Option Fate) (later : Bool) (log : List Seen) → later ≡ nat_lt (begun log) c → begun log ≤ c
    → before_back i f later log ≡ some (λ m. nat_lt (number m) c && began_with i m) (session Client f log)
before_back_is i c f later [] is le = refl
before_back_is i c f later (e ∷ past) is le =
    ap (λ b. (b && (has_session Client f e past && began_with i (newest e past))) || cond (is_open e.note && begins f) false (before_back i (cond (is_open e.note) (latest_fate Client past) f) (later || is_open e.note) past)) is
    ∙ ap (λ b. b || cond (is_open e.note && begins f) false (before_back i (cond (is_open e.note) (latest_fate Client past) f) (later || is_open e.note) past))
    (turned (nat_lt (begun (e ∷ past)) c) (has_session Client f e past) (began_with i (newest e past)))
    ∙ ap (λ b. (has_session Client f e past && (nat_lt (begun (e ∷ past)) c && began_with i (newest e past))) || b) (rest (λ g l. before_back_is i c g l past) (is_open e.note) (begins f) refl)
    ∙ sym (some_first (has_session Client f e past) (λ m. nat_lt (number m) c && began_with i m) (newest e past) (cond (is_open e.note) (cond (begins f) [] (session Client (latest_fate Client past) past)) (session Client f past)))
  where
    rest : ((g : Option Fate) (l : Bool) → l ≡ nat_lt (begun past) c → begun past ≤ c → before_back i g l past ≡ some (λ m. nat_lt (number m) c && began_with i m) (session Client g past))
        → (o b : Bool) → is_open e.note ≡ o → cond (o && b) false (before_back i (cond o (latest_fate Client past) f) (later || o) past)
        ≡ some (λ m. nat_lt (number m) c && began_with i m) (cond o (cond b [] (session Client (latest_fate Client past) past)) (session Client f past))
    rest before true true h = refl
    rest before true false h =
        let more = begun-open e past h in
        before (latest_fate Client past) (later || true) (or_true later ∙ sym (lt-ltb (begun past) c (omega arith))) (omega arith)
    rest before false b h =
        let same = begun-same e past h in
        before f (later || false) (or_false later ∙ is ∙ ap (λ n. nat_lt n c) same) (omega arith)

pub before_back_all : (i : ℕ) (f : Fate) (log : List Seen) → before_back i (Some f) false log ≡ is_sent_before f i log
before_back_all i f log = before_back_is i (begun log) (Some f) false log (sym (le-ltb (begun log) (begun log) (omega arith))) (omega arith)

-- with an event that is no OPEN the latest connection is the same
pub sent_before_now : (f : Fate) (i : ℕ) (e : Seen) (past : List Seen) → is_open e.note ≡ false → is_sent_before f i past ≡ was_sent_before_session Client f i (newest e past)
sent_before_now f i e past h =
    ap (λ n. some (λ m. nat_lt (number m) n && began_with i m) (session Client (Some f) past)) (sym (begun-same e past h))
    ∙ in_order (session Client (Some f) past)
  where
    in_order : (ms : List Moment) → some (λ m. nat_lt (number m) (begun (e ∷ past)) && began_with i m) ms
        ≡ some (λ m. begins_session Client m && (nat_lt (number m) (begun (e ∷ past)) && some (delivers i) (connection m.past))) ms
    in_order [] = refl
    in_order (m ∷ ms) = ap (λ b. b || some (λ j. nat_lt (number j) (begun (e ∷ past)) && began_with i j) ms) (turned (nat_lt (number m) (begun (e ∷ past))) (begins_session Client m) (some (delivers i) (connection m.past)))
        ∙ ap (λ b. (begins_session Client m && (nat_lt (number m) (begun (e ∷ past)) && some (delivers i) (connection m.past))) || b) (in_order ms)
