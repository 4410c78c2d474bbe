-- What is kept of the latest connection, with one event more.
use Rattle.std.proofs.Common.{◌≡◌, ℕ, ◌+◌, ◌-◌, ◌<◌, ◌≤◌, ◌==◌, Bool, true, false, cond, ◌&&◌, ◌||◌, not, List, [], ◌∷◌, Option, Some, None, refl, ap, sym, ◌∙◌, arith, zero, suc}
use Rattle.std.proofs.lemmas.Bool.{ne_eqb, eq-eqb}
use Rattle.std.specs.Option.{option_or}
use Rattle.mq_packet.specs.declared.packet.PacketType.TheVariants as types
use Rattle.mq_rules.specs.declared.role.Role.{Role}
use Rattle.mq_rules.specs.declared.fate.Fate.TheVariants.{Void}
use Rattle.mq_rules.specs.declared.note.Note.{Note}
use Rattle.mq_rules.specs.declared.note.Seen.{Seen}
use Rattle.mq_rules.specs.declared.connection_state.ConnectionState.{ConnectionState}
use Rattle.mq_rules.specs.Words.{is_some_and}
use Rattle.mq_rules.specs.Notes.{is_open, sent_item, is_typed, connect_of, connack_of, client_disconnect, decides, sends_type, receives_type}
use Rattle.mq_rules.specs.Moments.{Moment, newest, note, some, first_found}
use Rattle.mq_rules.specs.Connections.{begun, of_connection, connection, accepted, session_expiry, may_be_accepted, is_alive_after}
use Rattle.mq_rules.specs.Pasts.{sends_typed, is_sent_disconnect, is_sent_refusal}
use Rattle.mq_rules.proofs.BoolLaws.{or-turn}
use Rattle.mq_rules.specs.Keeping.{kept, stays_alive, begun_if, followed, connection_after}

-- ---- the latest connection with one event more

no_zero : (n : ℕ) → 0 + n ≡ n
no_zero n = omega arith

-- no event is of a connection that hasn't begun
none_later : (c : ℕ) (log : List Seen) → begun log < c → of_connection c log ≡ []
none_later c [] h = refl
none_later c (e ∷ past) h =
    let earlier : begun past < c = go (is_open e.note) h in
    let other : begun (e ∷ past) ≡ c → ⊥ = λ same. absurd (omega arith) in
    ap (λ b. cond b (newest e past ∷ of_connection c past) (of_connection c past)) (ne_eqb (begun (e ∷ past)) c other) ∙ none_later c past earlier
  where
    go : (b : Bool) → cond b 1 0 + begun past < c → begun past < c
    go true h = omega arith
    go false h = omega arith

-- what an event makes of the latest connection
pub connection-next : (e : Seen) (past : List Seen) → connection (e ∷ past) ≡ newest e past ∷ cond (is_open e.note) [] (connection past)
connection-next e past =
    ap (λ b. cond b (newest e past ∷ of_connection (begun (e ∷ past)) past) (of_connection (begun (e ∷ past)) past)) (eq-eqb (begun (e ∷ past)) (begun (e ∷ past)) refl)
    ∙ ap (λ ms. newest e past ∷ ms) (go (is_open e.note))
  where
    go : (b : Bool) → of_connection (cond b 1 0 + begun past) past ≡ cond b [] (connection past)
    go true = let later : begun past < 1 + begun past = omega arith in none_later (1 + begun past) past later
    go false = ap (λ n. of_connection n past) (no_zero (begun past))

pub some-next : (test : Moment → Bool) (e : Seen) (past : List Seen) → some test (connection (e ∷ past)) ≡ (test (newest e past) || (not (is_open e.note) && some test (connection past)))
some-next test e past = ap (some test) (connection-next e past) ∙ ap (λ b. test (newest e past) || b) (go (is_open e.note))
  where
    go : (b : Bool) → some test (cond b [] (connection past)) ≡ (not b && some test (connection past))
    go true = refl
    go false = refl

-- the same, what was before it first
some-last : (test : Moment → Bool) (e : Seen) (past : List Seen) → some test (connection (e ∷ past)) ≡ ((not (is_open e.note) && some test (connection past)) || test (newest e past))
some-last test e past = some-next test e past ∙ or-turn (test (newest e past)) (not (is_open e.note) && some test (connection past))

pub first_found-next : {A : Type 0} (found : Note → Option A) (e : Seen) (past : List Seen) → first_found found (connection (e ∷ past)) ≡ option_or (cond (is_open e.note) None (first_found found (connection past))) (found e.note)
first_found-next found e past =
    ap (first_found found) (connection-next e past)
    ∙ ap (λ o. option_or o (found e.note)) (go (is_open e.note))
  where
    go : (b : Bool) → first_found found (cond b [] (connection past)) ≡ cond b None (first_found found (connection past))
    go true = refl
    go false = refl

-- ---- the sessions that are alive

of_connection-earlier : (c : ℕ) (e : Seen) (past : List Seen) → c < begun (e ∷ past) → of_connection c (e ∷ past) ≡ of_connection c past
of_connection-earlier c e past h =
    let other : begun (e ∷ past) ≡ c → ⊥ = λ same. absurd (omega arith) in
    ap (λ b. cond b (newest e past ∷ of_connection c past) (of_connection c past)) (ne_eqb (begun (e ∷ past)) c other)

-- what a connection's events say of the session after it, which was alive before it or not
alive_by : Role → List Moment → Bool → Bool
alive_by role ms before = cond (accepted (first_found (decides role) ms)) (not (session_expiry role ms == 0)) (may_be_accepted role ms || before)

suc_no_zero : (c : ℕ) → (suc c == 0) ≡ false
suc_no_zero c = ne_eqb (suc c) 0 (λ same. absurd (omega arith))

alive-suc : (role : Role) (c : ℕ) (log : List Seen) → is_alive_after role (suc c) log ≡ alive_by role (of_connection (suc c) log) (is_alive_after role c log)
unfolding alive_by
alive-suc role c log = ap (λ b. cond (accepted (cond b (Some Void) (first_found (decides role) (of_connection (suc c) log)))) (not (session_expiry role (of_connection (suc c) log) == 0))
    (may_be_accepted role (of_connection (suc c) log) || is_alive_after role c log)) (suc_no_zero c)

below : (c n : ℕ) → suc c ≤ n - 1 → suc c < n
below c n h = omega arith

under : (c n : ℕ) → suc c ≤ n - 1 → c ≤ n - 1
under c n h = omega arith

-- an event of a later connection changes nothing of what is alive after an earlier one
alive-earlier : (role : Role) (c : ℕ) (e : Seen) (past : List Seen) → c ≤ begun (e ∷ past) - 1 → is_alive_after role c (e ∷ past) ≡ is_alive_after role c past
alive-earlier role zero e past h = refl
alive-earlier role (suc c) e past h =
    alive-suc role c (e ∷ past)
    ∙ ap (λ ms. alive_by role ms (is_alive_after role c (e ∷ past))) (of_connection-earlier (suc c) e past (below c (begun (e ∷ past)) h))
    ∙ ap (alive_by role (of_connection (suc c) past)) (alive-earlier role c e past (under c (begun (e ∷ past)) h))
    ∙ sym (alive-suc role c past)

one_less : (c : ℕ) → suc c - 1 ≡ c
one_less c = omega arith

-- what is alive after the latest connection
alive-latest : (role : Role) (past : List Seen) → is_alive_after role (begun past) past ≡ stays_alive (kept role past)
unfolding kept alive_by
alive-latest role past = go (begun past) refl
  where
    go : (n : ℕ) → begun past ≡ n → is_alive_after role n past ≡ (not (n == 0) && alive_by role (of_connection n past) (is_alive_after role (n - 1) past))
    go zero is = refl
    go (suc c) is =
        alive-suc role c past
        ∙ ap (λ k. alive_by role (of_connection (suc c) past) (is_alive_after role k past)) (sym (one_less c))
        ∙ ap (λ b. not b && alive_by role (of_connection (suc c) past) (is_alive_after role (suc c - 1) past)) (sym (suc_no_zero c))

alive-next : (role : Role) (e : Seen) (past : List Seen) → is_alive_after role (begun (e ∷ past) - 1) (e ∷ past) ≡ cond (is_open e.note) (stays_alive (kept role past)) (is_alive_after role (begun past - 1) past)
alive-next role e past =
    let le : begun (e ∷ past) - 1 ≤ begun (e ∷ past) - 1 = omega arith in
    alive-earlier role (begun (e ∷ past) - 1) e past le ∙ go (is_open e.note)
  where
    more : (n : ℕ) → (1 + n) - 1 ≡ n
    more n = omega arith

    go : (b : Bool) → is_alive_after role ((cond b 1 0 + begun past) - 1) past ≡ cond b (stays_alive (kept role past)) (is_alive_after role (begun past - 1) past)
    go true = ap (λ n. is_alive_after role n past) (more (begun past)) ∙ alive-latest role past
    go false = ap (λ n. is_alive_after role (n - 1) past) (no_zero (begun past))

-- ---- what is kept

-- what is kept with an event more, where b says whether it is an OPEN
raw : Role → Bool → ConnectionState → Note → ConnectionState
raw role b s n = record {
  has_begun = b || s.has_begun;
  was_alive = cond b (stays_alive s) s.was_alive;
  fate = option_or (cond b None s.fate) (decides role n);
  connect = option_or (cond b None s.connect) (connect_of role n);
  connack = option_or (cond b None s.connack) (connack_of role n);
  disconnect = option_or (cond b None s.disconnect) (client_disconnect role n);
  has_sent = (not b && s.has_sent) || is_some_and is_typed (sent_item n);
  has_sent_connect = (not b && s.has_sent_connect) || sends_type types.Connect n;
  has_sent_connack = (not b && s.has_sent_connack) || sends_type types.Connack n;
  has_received_connect = (not b && s.has_received_connect) || receives_type types.Connect n;
  has_sent_disconnect = (not b && s.has_sent_disconnect) || is_sent_disconnect n;
  has_sent_refusal = (not b && s.has_sent_refusal) || is_sent_refusal n;
}

raw-after : (role : Role) (b : Bool) (s : ConnectionState) (n : Note) → raw role b s n ≡ followed role (begun_if b s) n
unfolding raw
raw-after role true s n = refl
raw-after role false s n = refl

begun-next : (e : Seen) (past : List Seen) → not (begun (e ∷ past) == 0) ≡ (is_open e.note || not (begun past == 0))
begun-next e past = go (is_open e.note)
  where
    one : (n : ℕ) → ((1 + n) == 0) ≡ false
    one n = ne_eqb (1 + n) 0 (λ same. absurd (omega arith))

    go : (b : Bool) → not ((cond b 1 0 + begun past) == 0) ≡ (b || not (begun past == 0))
    go true = ap not (one (begun past))
    go false = ap (λ n. not (n == 0)) (no_zero (begun past))

-- what is kept, with one event more
pub kept-next : (role : Role) (e : Seen) (past : List Seen) → kept role (e ∷ past) ≡ connection_after role (kept role past) e.note
unfolding kept raw
kept-next role e past =
    (λ i. record {
      has_begun = begun-next e past i;
      was_alive = alive-next role e past i;
      fate = first_found-next (decides role) e past i;
      connect = first_found-next (connect_of role) e past i;
      connack = first_found-next (connack_of role) e past i;
      disconnect = first_found-next (client_disconnect role) e past i;
      has_sent = some-last sends_typed e past i;
      has_sent_connect = some-last (λ m. sends_type types.Connect (note m)) e past i;
      has_sent_connack = some-last (λ m. sends_type types.Connack (note m)) e past i;
      has_received_connect = some-last (λ m. receives_type types.Connect (note m)) e past i;
      has_sent_disconnect = some-last (λ m. is_sent_disconnect (note m)) e past i;
      has_sent_refusal = some-last (λ m. is_sent_refusal (note m)) e past i;
    })
    ∙ raw-after role (is_open e.note) (kept role past) e.note
