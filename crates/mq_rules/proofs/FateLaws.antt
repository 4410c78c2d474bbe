-- Connections and their fates, in a log that grows.
use Rattle.std.proofs.Common.{◌≡◌, ℕ, ◌+◌, ◌<◌, ◌≤◌, ◌==◌, Bool, true, false, cond, ◌&&◌, ◌||◌, not, List, [], ◌∷◌, Option, Some, None, refl, ap, sym, ◌∙◌, arith, zero-add}
use Rattle.std.specs.Prelude.{is_some, option_map}
use Rattle.std.proofs.lemmas.Bool.{eq-eqb}
use Rattle.std.specs.Option.{option_or}
use Rattle.mq_rules.specs.declared.role.Role.{Role}
use Rattle.mq_rules.specs.declared.role.Role.TheVariants.{Client, Server}
use Rattle.mq_rules.specs.declared.fate.Fate.{Fate}
use Rattle.mq_rules.specs.declared.fate.Fate.TheVariants.{Void, Adrift, New, Forgotten, Resumed, Unasked, Unknown}
use Rattle.mq_rules.specs.declared.note.Note.{Note}
use Rattle.mq_rules.specs.declared.note.Note.TheVariants as notes
use Rattle.mq_rules.specs.declared.note.Seen.{Seen}
use Rattle.mq_rules.specs.declared.packet_note.ConnackNote.{ConnackNote}
use Rattle.mq_rules.specs.Words.{is_some_and}
use Rattle.mq_rules.specs.Notes.{is_open, is_close, decides, fate_by, connack_of}
use Rattle.mq_rules.specs.Moments.{Moment, newest, note, first_given}
use Rattle.mq_rules.specs.Connections.{begun, of_connection, connection, first_fate, outcome, latest_outcome, fate, latest_fate, fate_by_answer, gives_fate, begins, accepted, is_void, is_adrift, asks_to_resume, resumes_unknown, has_none, is_connected}
use Rattle.mq_rules.proofs.BoolLaws.{differ, option_or-none, option_or-other, option_or-there}

-- ---- connections

fewer : (b : Bool) (n c : ℕ) → cond b 1 0 + n < c → n < c
fewer true n c h = omega arith
fewer false n c h = omega arith

pub begun-least : (e : Seen) (past : List Seen) → begun past ≤ begun (e ∷ past)
begun-least e past = go (is_open e.note) (begun past)
  where
    go : (b : Bool) (n : ℕ) → n ≤ cond b 1 0 + n
    go true n = omega arith
    go false n = omega arith

-- an OPEN begins one connection more
pub begun-open : (e : Seen) (past : List Seen) → is_open e.note ≡ true → begun (e ∷ past) ≡ 1 + begun past
begun-open e past h = ap (λ b. cond b 1 0 + begun past) h

pub begun-same : (e : Seen) (past : List Seen) → is_open e.note ≡ false → begun (e ∷ past) ≡ begun past
begun-same e past h = ap (λ b. cond b 1 0 + begun past) h ∙ zero-add (begun past)

-- a connection that has not begun has no moments
pub of_connection-none : (c : ℕ) (log : List Seen) → begun log < c → of_connection c log ≡ []
of_connection-none c [] h = refl
of_connection-none c (e ∷ past) h =
    let other : (begun (e ∷ past) == c) ≡ false = differ (begun (e ∷ past)) c (λ q. omega arith) in
    ap (λ b. cond b (newest e past ∷ of_connection c past) (of_connection c past)) other ∙ of_connection-none c past (fewer (is_open e.note) (begun past) c h)

-- an OPEN begins a connection, and any other event goes on with the latest one
pub connection-next : (e : Seen) (past : List Seen) → connection (e ∷ past) ≡ cond (is_open e.note) (newest e past ∷ []) (newest e past ∷ connection past)
connection-next e past =
    ap (λ b. cond b (newest e past ∷ of_connection (begun (e ∷ past)) past) (of_connection (begun (e ∷ past)) past)) (eq-eqb (begun (e ∷ past)) (begun (e ∷ past)) refl)
    ∙ go (is_open e.note) (of_connection-none (1 + begun past) past (omega arith))
  where
    go : (b : Bool) → of_connection (1 + begun past) past ≡ [] → newest e past ∷ of_connection (cond b 1 0 + begun past) past ≡ cond b (newest e past ∷ []) (newest e past ∷ connection past)
    go true h = ap (λ ms. newest e past ∷ ms) h
    go false h = ap (λ n. newest e past ∷ of_connection n past) (zero-add (begun past))

-- ---- fates

-- one event more decides its own connection alone, where that is undecided
first_fate-next : (gives : Moment → Option Fate) (c : ℕ) (e : Seen) (past : List Seen)
    → first_fate gives c (e ∷ past) ≡ option_or (first_fate gives c past) (cond (begun (e ∷ past) == c) (gives (newest e past)) None)
first_fate-next gives c e past = go (c == 0) (begun (e ∷ past) == c)
  where
    go : (zeroth own : Bool) → cond zeroth (Some Void) (first_given gives (cond own (newest e past ∷ of_connection c past) (of_connection c past)))
        ≡ option_or (cond zeroth (Some Void) (first_given gives (of_connection c past))) (cond own (gives (newest e past)) None)
    go true own = refl
    go false true = refl
    go false false = sym (option_or-none (first_given gives (of_connection c past)))

pub fate-next : (role : Role) (c : ℕ) (e : Seen) (past : List Seen) → fate role c (e ∷ past) ≡ option_or (fate role c past) (cond (begun (e ∷ past) == c) (gives_fate role (newest e past)) None)
fate-next role c e past = first_fate-next (gives_fate role) c e past

pub outcome-next : (role : Role) (c : ℕ) (e : Seen) (past : List Seen) → outcome role c (e ∷ past) ≡ option_or (outcome role c past) (cond (begun (e ∷ past) == c) (decides role e.note) None)
outcome-next role c e past = first_fate-next (λ m. decides role (note m)) c e past

-- no event is on a connection before the latest
pub fate-elsewhere : (role : Role) (c : ℕ) (e : Seen) (past : List Seen) → c < begun (e ∷ past) → fate role c (e ∷ past) ≡ fate role c past
fate-elsewhere role c e past h =
    let other : (begun (e ∷ past) == c) ≡ false = differ (begun (e ∷ past)) c (λ q. omega arith) in
    fate-next role c e past ∙ ap (λ b. option_or (fate role c past) (cond b (gives_fate role (newest e past)) None)) other ∙ option_or-none (fate role c past)

-- a connection that has not begun has no fate
first_fate-none : (gives : Moment → Option Fate) (c : ℕ) (log : List Seen) → begun log < c → first_fate gives c log ≡ None
first_fate-none gives c log h =
    let later : (c == 0) ≡ false = differ c 0 (λ q. omega arith) in
    ap (λ b. cond b (Some Void) (first_given gives (of_connection c log))) later ∙ ap (first_given gives) (of_connection-none c log h)

pub fate-none : (role : Role) (c : ℕ) (log : List Seen) → begun log < c → fate role c log ≡ None
fate-none role c log h =
    first_fate-none (gives_fate role) c log h

-- ---- the fate of the latest connection

-- no OPEN decides
pub open-decides : (role : Role) (note : Note) → is_open note ≡ true → decides role note ≡ None
open-decides Client notes.Open h = refl
open-decides Server notes.Open h = refl
open-decides role (notes.Close cuts part) h = absurd (cc)
open-decides role notes.Rest h = absurd (cc)
open-decides role (notes.Release identifier) h = absurd (cc)
open-decides role (notes.Sent item) h = absurd (cc)
open-decides role (notes.Recv item) h = absurd (cc)

-- nor does what it gives
pub open-gives : (role : Role) (e : Seen) (past : List Seen) → is_open e.note ≡ true → gives_fate role (newest e past) ≡ None
unfolding gives_fate
open-gives role e past h = ap (option_map (fate_by_answer role (newest e past))) (open-decides role e.note h)

-- what gives something is what decides, and begins a session where that does
pub gives-decides : (role : Role) (e : Seen) (past : List Seen) → is_some (gives_fate role (newest e past)) ≡ is_some (decides role e.note)
unfolding gives_fate
gives-decides role e past = go (decides role e.note)
  where
    go : (o : Option Fate) → is_some (option_map (fate_by_answer role (newest e past)) o) ≡ is_some o
    go None = refl
    go (Some f) = refl

pub begins-gives : (role : Role) (m : Moment) → begins (gives_fate role m) ≡ begins (decides role (note m))
unfolding gives_fate
begins-gives role m = go (decides role (note m))
  where
    void : (b : Bool) → begins (Some (cond b Adrift Void)) ≡ false
    void true = refl
    void false = refl

    new : (b : Bool) → begins (Some (cond b Forgotten New)) ≡ true
    new true = refl
    new false = refl

    old : (b c : Bool) → begins (Some (cond b Unknown (cond c Unasked Resumed))) ≡ false
    old true c = refl
    old false true = refl
    old false false = refl

    go : (o : Option Fate) → begins (option_map (fate_by_answer role m) o) ≡ begins o
    go None = refl
    go (Some Void) = void (is_adrift role (m.event ∷ m.past))
    go (Some New) = new (asks_to_resume role m)
    go (Some Resumed) = old (resumes_unknown role m) (has_none role m)
    go (Some Adrift) = refl
    go (Some Forgotten) = refl
    go (Some Unasked) = refl
    go (Some Unknown) = refl

-- what gives a fate that isn't void is what accepts
pub accepted-gives : (role : Role) (m : Moment) → is_some_and (λ f. not (is_void f)) (gives_fate role m) ≡ accepted (decides role (note m))
unfolding gives_fate
accepted-gives role m = go (is_close (note m)) (connack_of role (note m))
  where
    void : (b : Bool) → not (is_void (cond b Adrift Void)) ≡ false
    void true = refl
    void false = refl

    new : (b : Bool) → not (is_void (cond b Forgotten New)) ≡ true
    new true = refl
    new false = refl

    old : (b c : Bool) → not (is_void (cond b Unknown (cond c Unasked Resumed))) ≡ true
    old true c = refl
    old false true = refl
    old false false = refl

    by : (accepts present : Bool) → not (is_void (fate_by_answer role m (cond accepts (cond present Resumed New) Void))) ≡ accepted (Some (cond accepts (cond present Resumed New) Void))
    by true true = old (resumes_unknown role m) (has_none role m)
    by true false = new (asks_to_resume role m)
    by false present = void (is_adrift role (m.event ∷ m.past))

    go : (b : Bool) (o : Option ConnackNote) → is_some_and (λ f. not (is_void f)) (option_map (fate_by_answer role m) (cond b (Some Void) (option_map fate_by o))) ≡ accepted (cond b (Some Void) (option_map fate_by o))
    go true o = void (is_adrift role (m.event ∷ m.past))
    go false None = refl
    go false (Some c) = by (c.code == 0) c.session_present

latest-open : (gives : Moment → Option Fate) (e : Seen) (past : List Seen) → is_open e.note ≡ true → gives (newest e past) ≡ None → first_fate gives (begun (e ∷ past)) (e ∷ past) ≡ None
latest-open gives e past h none =
    ap (λ n. first_fate gives n (e ∷ past)) (begun-open e past h)
    ∙ first_fate-next gives (1 + begun past) e past
    ∙ ap (λ o. option_or o (cond (begun (e ∷ past) == 1 + begun past) (gives (newest e past)) None)) (first_fate-none gives (1 + begun past) past (omega arith))
    ∙ nothing (begun (e ∷ past) == 1 + begun past) (gives (newest e past)) none
  where
    nothing : (b : Bool) (o : Option Fate) → o ≡ None → cond b o None ≡ None
    nothing true o h = h
    nothing false o h = refl

latest-same : (gives : Moment → Option Fate) (e : Seen) (past : List Seen) → is_open e.note ≡ false
    → first_fate gives (begun (e ∷ past)) (e ∷ past) ≡ option_or (first_fate gives (begun past) past) (gives (newest e past))
latest-same gives e past h =
    let same = begun-same e past h in
    ap (λ n. first_fate gives n (e ∷ past)) same
    ∙ first_fate-next gives (begun past) e past
    ∙ ap (λ b. option_or (first_fate gives (begun past) past) (cond b (gives (newest e past)) None)) (eq-eqb (begun (e ∷ past)) (begun past) same)

latest-next : (gives : Moment → Option Fate) (e : Seen) (past : List Seen) → (is_open e.note ≡ true → gives (newest e past) ≡ None)
    → first_fate gives (begun (e ∷ past)) (e ∷ past) ≡ cond (is_open e.note) None (option_or (first_fate gives (begun past) past) (gives (newest e past)))
latest-next gives e past none = go (is_open e.note) refl
  where
    go : (b : Bool) → is_open e.note ≡ b → first_fate gives (begun (e ∷ past)) (e ∷ past) ≡ cond b None (option_or (first_fate gives (begun past) past) (gives (newest e past)))
    go true h = latest-open gives e past h (none h)
    go false h = latest-same gives e past h

pub latest_fate-open : (role : Role) (e : Seen) (past : List Seen) → is_open e.note ≡ true → latest_fate role (e ∷ past) ≡ None
latest_fate-open role e past h = latest-open (gives_fate role) e past h (open-gives role e past h)

pub latest_fate-same : (role : Role) (e : Seen) (past : List Seen) → is_open e.note ≡ false → latest_fate role (e ∷ past) ≡ option_or (latest_fate role past) (gives_fate role (newest e past))
latest_fate-same role e past h = latest-same (gives_fate role) e past h

pub latest_fate-next : (role : Role) (e : Seen) (past : List Seen) → latest_fate role (e ∷ past) ≡ cond (is_open e.note) None (option_or (latest_fate role past) (gives_fate role (newest e past)))
latest_fate-next role e past = latest-next (gives_fate role) e past (open-gives role e past)

pub latest_outcome-next : (role : Role) (e : Seen) (past : List Seen) → latest_outcome role (e ∷ past) ≡ cond (is_open e.note) None (option_or (latest_outcome role past) (decides role e.note))
latest_outcome-next role e past = latest-next (λ m. decides role (note m)) e past (open-decides role e.note)

-- a connection is decided where the server answered, or it closed
pub fate-outcome : (role : Role) (log : List Seen) → is_some (latest_fate role log) ≡ is_some (latest_outcome role log)
fate-outcome role [] = refl
fate-outcome role (e ∷ past) =
    ap is_some (latest_fate-next role e past)
    ∙ go (is_open e.note) (latest_fate role past) (latest_outcome role past) (gives_fate role (newest e past)) (decides role e.note) (fate-outcome role past) (gives-decides role e past)
    ∙ sym (ap is_some (latest_outcome-next role e past))
  where
    go : (b : Bool) (f o g d : Option Fate) → is_some f ≡ is_some o → is_some g ≡ is_some d → is_some (cond b None (option_or f g)) ≡ is_some (cond b None (option_or o d))
    go true f o g d p q = refl
    go false (Some a) (Some b) g d p q = refl
    go false (Some a) None g d p q = absurd (cc)
    go false None (Some b) g d p q = absurd (cc)
    go false None None g d p q = q

-- ---- what is not connected is decided

pub close-decides : (role : Role) (note : Note) → is_close note ≡ true → is_some (decides role note) ≡ true
close-decides role note h = ap (λ b. is_some (cond b (Some Void) (option_map fate_by (connack_of role note)))) h

pub close-gives : (role : Role) (e : Seen) (past : List Seen) → is_close e.note ≡ true → is_some (gives_fate role (newest e past)) ≡ true
close-gives role e past h = gives-decides role e past ∙ close-decides role e.note h

pub closed-decided : (role : Role) (log : List Seen) → is_connected log ≡ false → is_some (latest_fate role log) ≡ true
closed-decided role [] h = refl
closed-decided role (e ∷ past) h = ap is_some (latest_fate-next role e past) ∙ go (is_open e.note) (is_close e.note) (is_connected past) h (closed-decided role past) (close-gives role e past)
  where
    go : (opens closes was : Bool) → (opens || (not closes && was)) ≡ false → (was ≡ false → is_some (latest_fate role past) ≡ true) → (closes ≡ true → is_some (gives_fate role (newest e past)) ≡ true)
        → is_some (cond opens None (option_or (latest_fate role past) (gives_fate role (newest e past)))) ≡ true
    go true closes was h before now = absurd (cc)
    go false true was h before now = option_or-other (latest_fate role past) (gives_fate role (newest e past)) (now refl)
    go false false true h before now = absurd (cc)
    go false false false h before now = option_or-there (latest_fate role past) (gives_fate role (newest e past)) (before refl)
