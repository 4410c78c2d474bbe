-- How a connection began and ended, with one moment more; and what the evidence of the statements on its past is.
use Rattle.std.proofs.Common.{◌≡◌, ℕ, Bool, true, false, cond, List, Option, None, Some, refl, ap, sym, subst, ◌∙◌}
use Rattle.std.specs.Prelude.{option_map}
use Rattle.std.specs.Option.{option_or}
use Rattle.mq_packet.specs.declared.packet.PacketType.TheVariants as types
use Rattle.mq_rules.specs.declared.role.Role.{Role}
use Rattle.mq_rules.specs.declared.role.Role.TheVariants.{Client, Server}
use Rattle.mq_rules.specs.declared.fate.Fate.{Fate}
use Rattle.mq_rules.specs.declared.rule.Rule.TheVariants.{C03, C06, C07, C10, C11, C12, C13, C14, C15, C16, C17, C20, C21, C22, C23, S06}
use Rattle.mq_rules.specs.declared.note.Note.{Note}
use Rattle.mq_rules.specs.Words.{only}
use Rattle.mq_rules.specs.Notes.{sends_type}
use Rattle.mq_rules.specs.Moments.{Moment, position, note, first_found}
use Rattle.mq_rules.specs.Connections.{connection}
use Rattle.mq_rules.specs.Pasts.{is_sent_disconnect, is_sent_refusal, is_last_sent}
use Rattle.mq_rules.specs.declared.evidence.Evidence.{Evidence}
use Rattle.mq_rules.specs.declared.evidence.Numbers.{Numbers}
use Rattle.mq_evidence.specs.declared.handshake.Handshake.{Handshake}
use Rattle.mq_evidence.specs.Evidence.{earliest, it, found, reason, is_connect, is_connack}
use Rattle.mq_evidence.specs.Stretches.{Stretches, longer}
use Rattle.mq_evidence.specs.Handshakes.{IsHandshake, IsGreetings, first_on, size_evidence, alias_evidence, used_evidence, qos_evidence, expiry_evidence}

-- ---- what is kept

-- what is found first, with one moment more
pub first_found-kept : {A : Type 0} (found : Note → Option A) (over : Bool) (n : Note) (old new : Option A) (m : Moment) (ms : List Moment) → note m ≡ n
    → old ≡ first_found found ms → new ≡ option_or (cond over None old) (found n) → new ≡ first_found found (longer over true m ms)
first_found-kept {A} found over n old new m ms same before grown =
    grown
    ∙ ap (λ o. option_or (cond over None o) (found n)) before
    ∙ ap (λ x. option_or (cond over None (first_found found ms)) (found x)) (sym same)
    ∙ go over
  where
    go : (b : Bool) → option_or (cond b None (first_found found ms)) (found (note m)) ≡ first_found found (longer b true m ms)
    go true = refl
    go false = refl

-- what is kept of a connection is kept for the role that is kept
pub greetings-of : (h : Handshake) (role : Role) (s : Stretches) → IsHandshake h role s → IsGreetings h.greetings h.role s.connection
greetings-of h role s is = subst (λ (r : Role). IsGreetings h.greetings r s.connection) (sym is.same_role) is.greetings_are

-- evidence by its parts
pub same-parts : (a b : Option ℕ) (x y : Numbers) (e : Evidence) → e ≡ record { because = a; numbers = x } → a ≡ b → x ≡ y → e ≡ record { because = b; numbers = y }
same-parts a b x y e made at with_numbers = made ∙ ap (parts x) at ∙ ap (λ n. parts n b) with_numbers
  where
    parts : Numbers → Option ℕ → Evidence
    parts n p = record { because = p; numbers = n }

pub only-announced : (b : Bool) (o : Option Moment) → only b (option_map position o) ≡ option_map position (only b o)
only-announced true o = refl
only-announced false o = refl

-- ---- the reasons

pub C03-found : (role : Role) (f : Option Fate) (t : Option Moment) (k : Moment) → found (reason role C03) f t k ≡ it (first_on (sends_type types.Connect) (connection k.past))
C03-found role f t k = refl

pub C06-found : (role : Role) (f : Option Fate) (t : Option Moment) (k : Moment) → found (reason role C06) f t k ≡ it (first_on (sends_type types.Connack) (connection k.past))
C06-found role f t k = refl

pub C07-found : (role : Role) (f : Option Fate) (t : Option Moment) (k : Moment) → found (reason role C07) f t k ≡ it (earliest (is_connect Server) (connection k.past))
C07-found role f t k = refl

pub C10-found : (role : Role) (f : Option Fate) (t : Option Moment) (k : Moment) → found (reason role C10) f t k ≡ it (earliest (is_connect Server) (connection k.past))
C10-found role f t k = refl

pub C11-found : (role : Role) (f : Option Fate) (t : Option Moment) (k : Moment) → found (reason role C11) f t k ≡ it (first_on is_sent_disconnect (connection k.past))
C11-found role f t k = refl

pub C12-found : (role : Role) (f : Option Fate) (t : Option Moment) (k : Moment) → found (reason role C12) f t k ≡ it (first_on is_sent_refusal (connection k.past))
C12-found role f t k = refl

pub C13-found : (role : Role) (f : Option Fate) (t : Option Moment) (k : Moment) → found (reason role C13) f t k ≡ it (earliest (is_connack Client) (connection k.past))
C13-found role f t k = refl

pub C14-found : (role : Role) (f : Option Fate) (t : Option Moment) (k : Moment) → found (reason role C14) f t k ≡ size_evidence role (note k) (connection k.past)
C14-found Client f t k = refl
C14-found Server f t k = refl

pub C15-found : (role : Role) (f : Option Fate) (t : Option Moment) (k : Moment) → found (reason role C15) f t k ≡ alias_evidence role (note k) (connection k.past)
C15-found Client f t k = refl
C15-found Server f t k = refl

pub C16-found : (role : Role) (f : Option Fate) (t : Option Moment) (k : Moment) → found (reason role C16) f t k ≡ used_evidence (note k)
C16-found role f t k = refl

pub C17-found : (role : Role) (f : Option Fate) (t : Option Moment) (k : Moment) → found (reason role C17) f t k ≡ qos_evidence Client (note k) (connection k.past)
C17-found role f t k = refl

pub C20-found : (role : Role) (f : Option Fate) (t : Option Moment) (k : Moment) → found (reason role C20) f t k ≡ expiry_evidence Client (note k) (connection k.past)
C20-found role f t k = refl

pub C21-found : (role : Role) (f : Option Fate) (t : Option Moment) (k : Moment) → found (reason role C21) f t k ≡ it (earliest (is_connect Server) (connection k.past))
C21-found role f t k = refl

pub C22-found : (role : Role) (f : Option Fate) (t : Option Moment) (k : Moment) → found (reason role C22) f t k ≡ it (earliest (is_connect Server) (connection k.past))
C22-found role f t k = refl

pub C23-found : (role : Role) (f : Option Fate) (t : Option Moment) (k : Moment) → found (reason role C23) f t k ≡ it (first_on (is_last_sent role) (connection k.past))
C23-found role f t k = refl

pub S06-found : (role : Role) (f : Option Fate) (t k : Moment) → found (reason role S06) f (Some t) k ≡ it (earliest (is_connack role) (connection t.past))
S06-found role f t k = refl
