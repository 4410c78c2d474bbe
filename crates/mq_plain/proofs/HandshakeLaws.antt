-- What a connection was begun with, looked for event by event.
use Rattle.std.proofs.Common.{◌≡◌, ℕ, Bool, true, false, cond, List, [], ◌∷◌, Option, Some, None, refl, ap, sym, ◌∙◌}
use Rattle.std.specs.Option.{option_or}
use Rattle.mq_rules.specs.declared.role.Role.{Role}
use Rattle.mq_rules.specs.declared.role.Role.TheVariants.{Client, Server}
use Rattle.mq_rules.specs.declared.note.Note.{Note}
use Rattle.mq_rules.specs.declared.note.Seen.{Seen}
use Rattle.mq_rules.specs.Notes.{is_open, connect_of, connack_of}
use Rattle.mq_rules.specs.Moments.{newest, first_found}
use Rattle.mq_rules.specs.Connections.{connection, first_connect, first_connack}
use Rattle.mq_rules.specs.Pasts.{peer_receive_maximum}
use Rattle.mq_rules.specs.Identifiers.{counts, announces_bound, refuses_retained}
use Rattle.mq_plain.specs.declared.handshake.Handshake.{Handshake}
use Rattle.mq_plain.specs.Handshakes.{handshake, receive_maximum_in, counts_after, bounds_sending, refuses_retained as refused_by}
use Rattle.mq_rules.proofs.Exports.{connection-next}

-- what is found at the earliest event of a connection, with one event more
pub first_found-next : {A : Type 0} (found : Note → Option A) (e : Seen) (past : List Seen)
    → first_found found (connection (e ∷ past)) ≡ option_or (cond (is_open e.note) None (first_found found (connection past))) (found e.note)
first_found-next found e past = ap (first_found found) (connection-next e past) ∙ go (is_open e.note)
  where
    go : (b : Bool) → first_found found (cond b (newest e past ∷ []) (newest e past ∷ connection past)) ≡ option_or (cond b None (first_found found (connection past))) (found e.note)
    go true = refl
    go false = refl

-- what stands before what was found, and else that
abbrev pub handshake_back : Role → Handshake → List Seen → Handshake
handshake_back role found log = record { connect = option_or (first_connect role (connection log)) found.connect; connack = option_or (first_connack role (connection log)) found.connack }

in_turn : {A : Type 0} (opens : Bool) (before here after : Option A) → option_or (option_or (cond opens None before) here) after ≡ option_or (cond opens None before) (option_or here after)
in_turn true before (Some a) after = refl
in_turn true before None after = refl
in_turn false (Some a) here after = refl
in_turn false None here after = refl

back-next : {A : Type 0} (found : Note → Option A) (after : Option A) (e : Seen) (past : List Seen)
    → option_or (first_found found (connection (e ∷ past))) after ≡ cond (is_open e.note) (option_or (found e.note) after) (option_or (first_found found (connection past)) (option_or (found e.note) after))
back-next found after e past =
    ap (λ o. option_or o after) (first_found-next found e past) ∙ in_turn (is_open e.note) (first_found found (connection past)) (found e.note) after ∙ go (is_open e.note)
  where
    go : (b : Bool) → option_or (cond b None (first_found found (connection past))) (option_or (found e.note) after) ≡ cond b (option_or (found e.note) after) (option_or (first_found found (connection past)) (option_or (found e.note) after))
    go true = refl
    go false = refl

back-open : {A : Type 0} (found : Note → Option A) (after : Option A) (e : Seen) (past : List Seen) → is_open e.note ≡ true
    → option_or (first_found found (connection (e ∷ past))) after ≡ option_or (found e.note) after
back-open found after e past opens =
    back-next found after e past ∙ ap (λ b. cond b (option_or (found e.note) after) (option_or (first_found found (connection past)) (option_or (found e.note) after))) opens

back-on : {A : Type 0} (found : Note → Option A) (after : Option A) (e : Seen) (past : List Seen) → is_open e.note ≡ false
    → option_or (first_found found (connection (e ∷ past))) after ≡ option_or (first_found found (connection past)) (option_or (found e.note) after)
back-on found after e past opens =
    back-next found after e past ∙ ap (λ b. cond b (option_or (found e.note) after) (option_or (first_found found (connection past)) (option_or (found e.note) after))) opens

-- one event further back
pub handshake_back-open : (role : Role) (found : Handshake) (e : Seen) (past : List Seen) → is_open e.note ≡ true
    → handshake_back role found (e ∷ past) ≡ record { connect = option_or (connect_of role e.note) found.connect; connack = option_or (connack_of role e.note) found.connack }
handshake_back-open role found e past opens = λ i. record {
  connect = back-open (connect_of role) found.connect e past opens i;
  connack = back-open (connack_of role) found.connack e past opens i;
}

pub handshake_back-on : (role : Role) (found next : Handshake) (e : Seen) (past : List Seen) → is_open e.note ≡ false
    → next ≡ record { connect = option_or (connect_of role e.note) found.connect; connack = option_or (connack_of role e.note) found.connack }
    → handshake_back role found (e ∷ past) ≡ handshake_back role next past
handshake_back-on role found next e past opens is = (λ i. record {
  connect = back-on (connect_of role) found.connect e past opens i;
  connack = back-on (connack_of role) found.connack e past opens i;
}) ∙ ap (λ h. handshake_back role h past) (sym is)

last : {A : Type 0} (o : Option A) → option_or o None ≡ o
last None = refl
last (Some a) = refl

-- where nothing was found after it
pub handshake_back-whole : (role : Role) (past : List Seen) → handshake_back role (record { connect = None; connack = None }) past ≡ handshake role past
handshake_back-whole role past = λ i. record {
  connect = last (first_connect role (connection past)) i;
  connack = last (first_connack role (connection past)) i;
}

-- ---- what the definitions say of the moment that comes next

pub receive_maximum-next : (role : Role) (e : Seen) (past : List Seen) → peer_receive_maximum role (newest e past) ≡ receive_maximum_in role (handshake role past)
receive_maximum-next Client e past = refl
receive_maximum-next Server e past = refl

pub counts-next : (role : Role) (e : Seen) (past : List Seen) → counts role (newest e past) ≡ counts_after role (handshake role past)
counts-next Client e past = refl
counts-next Server e past = refl

pub bound-announced : (role : Role) (past : List Seen) → bounds_sending role (handshake role past) ≡ announces_bound role (connection past)
bound-announced Client past = refl
bound-announced Server past = refl

pub refused-next : (role : Role) (e : Seen) (past : List Seen) → refuses_retained role (newest e past) ≡ refused_by role (handshake role past)
refused-next Client e past = refl
refused-next Server e past = refl

-- the same, found
pub maximum-next : (role : Role) (most : ℕ) (found : Handshake) (e : Seen) (past : List Seen) → most ≡ receive_maximum_in role found → found ≡ handshake role past
    → most ≡ peer_receive_maximum role (newest e past)
maximum-next role most found e past is at = is ∙ ap (receive_maximum_in role) at ∙ sym (receive_maximum-next role e past)
