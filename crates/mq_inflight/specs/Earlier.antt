-- What the book of identifiers in use keeps of earlier connections, for S02: that a PUBLISH was cut off, and what a client sent before the session began.
use Rattle.std.specs.Prelude.{ℕ, ◌≡◌, nat_eq, nat_lt, Bool, false, ◌&&◌, ◌||◌, not, cond, List, Option, Some}
use Rattle.indexmap.specs.IndexSet.{contains}
use Rattle.mq_rules.specs.declared.role.Role.{Role}
use Rattle.mq_rules.specs.declared.role.Role.TheVariants.{Client, Server}
use Rattle.mq_rules.specs.declared.fate.Fate.{Fate}
use Rattle.mq_rules.specs.declared.note.Note.{Note}
use Rattle.mq_rules.specs.declared.note.Seen.{Seen}
use Rattle.mq_rules.specs.Words.{is_id}
use Rattle.mq_rules.specs.Notes.{is_open, is_cutting, delivery_of}
use Rattle.mq_rules.specs.Moments.{moments, some}
use Rattle.mq_rules.specs.Connections.{begun, number, connection, accepts, is_void, begins, accepted, voided, accepts_at, begins_session, comes_early, fate_under, session}
use Rattle.mq_rules.specs.Identifiers.{delivers, cuts_publish}
use Rattle.mq_inflight.specs.declared.inflight.earlier.Earlier.{Earlier}

-- ---- by the events, where the latest connection is taken to have a fate

-- a PUBLISH of QoS 1 or 2 was cut off on a void connection, and in the session
abbrev pub cut_on_void : Role → Option Fate → List Seen → Bool
cut_on_void role taken past = some (λ j. cuts_publish j && voided (fate_under role taken past (number j))) (moments past)

abbrev pub cut_in_session : Role → Option Fate → List Seen → Bool
cut_in_session role taken past = some cuts_publish (session role taken past)

-- the server accepted a connection before the latest one
abbrev pub accepted_before : Role → List Seen → Bool
accepted_before role past = some (λ m. accepts_at role m && nat_lt (number m) (begun past)) (moments past)

-- With a connection of this fate a session begins: it is accepted, and resumes none, or none was accepted before it.
abbrev pub begins_here : Option Fate → Bool → Bool
begins_here taken before = accepted taken && (begins taken || not before)

-- A PUBLISH under i was sent before the CONNACK with which the session began, on an earlier connection than the latest one.
abbrev pub sent_before : ℕ → Option Fate → List Seen → Bool
sent_before i taken past = some (λ m. begins_session Client m && (nat_lt (number m) (begun past) && some (delivers i) (connection m.past))) (session Client taken past)

-- A client sent a PUBLISH under i before the CONNACK with which the session began, or begins: on the latest connection, if the session begins there, else on an earlier one.
abbrev pub sent_first : Role → ℕ → Option Fate → List Seen → Bool
sent_first Client i taken past = cond (begins_here taken (accepted_before Client past)) (some (λ j. delivers i j && comes_early Client j) (connection past)) (sent_before i taken past)
sent_first Server i taken past = false

-- ---- with one event more

abbrev pub cut_on_void_next : Fate → Note → Bool → Bool
cut_on_void_next f n old = (is_cutting n && is_void f) || old

abbrev pub cut_next : Fate → Note → Bool → Bool
cut_next f n old = cond (is_open n) (not (begins (Some f)) && old) ((is_cutting n && accepts f) || old)

-- the connection before had this fate
abbrev pub accepted_next : Fate → Note → Bool → Bool
accepted_next before n old = cond (is_open n) (not (is_void before) || old) old

-- of an event before a CONNACK with which a session begins, or not
abbrev pub early_next : Role → Bool → Note → ℕ → Bool → Bool
early_next Client begins n i old = (begins && is_id i (delivery_of n)) || old
early_next Server begins n i old = old

-- where the fate is known already or isn't, and a connection was accepted before the latest one or wasn't
abbrev pub first_next : Role → Fate → Bool → Bool → Note → ℕ → Bool → Bool
first_next role f known before n i old = cond (is_open n) (not (begins_here (Some f) before) && old) (cond known old (early_next role (begins_here (Some f) before) n i old))

-- ---- what is kept

-- Where one isn't open, and was sent on no void connection, a PUBLISH may still be sent again under i on a connection of this fate.
abbrev pub may_resend : Earlier → Fate → ℕ → Bool
may_resend s f i = (not (begins_here (Some f) s.accepted) && contains nat_eq s.first i) || (s.cut_on_void || s.cut)

-- These events lead to what is kept.
pub record IsEarlier (s : Earlier) (role : Role) (taken : Option Fate) (past : List Seen) : Type 0 where
  pub cut_on_void_is : s.cut_on_void ≡ cut_on_void role taken past
  pub cut_is : s.cut ≡ cut_in_session role taken past
  pub accepted_is : s.accepted ≡ accepted_before role past
  pub first_are : (i : ℕ) → contains nat_eq s.first i ≡ sent_first role i taken past

-- An event of a connection of this fate, which is known already or isn't, leads from one to the other, where the connection before it had that fate.
pub record GoesOn (old new : Earlier) (role : Role) (before f : Fate) (known : Bool) (n : Note) : Type 0 where
  pub cut_on_void : new.cut_on_void ≡ cut_on_void_next f n old.cut_on_void
  pub cut : new.cut ≡ cut_next f n old.cut
  pub accepted : new.accepted ≡ accepted_next before n old.accepted
  pub first : (i : ℕ) → contains nat_eq new.first i ≡ first_next role f known new.accepted n i (contains nat_eq old.first i)
