-- How often the statements on the past of a connection are put to the test, by what is kept of it.
use Rattle.std.proofs.Common.{◌≡◌, ℕ, ◌+◌, ◌<◌, ◌==◌, arith, Bool, true, false, cond, ◌&&◌, not, List, [], ◌∷◌, length, Some, None, refl, ap, sym, ◌∙◌}
use Rattle.mq_packet.specs.Canonical.{type_number}
use Rattle.mq_rules.specs.declared.role.Role.{Role}
use Rattle.mq_rules.specs.declared.role.Tested.{Tested}
use Rattle.mq_rules.specs.declared.rule.Rule.{Rule}
use Rattle.mq_rules.specs.declared.rule.Rule.TheVariants.{W01, C01, C02, C03, C04, C05, C06, C07, C08, C09, C10, C11, C12, C13, C14, C15, C16, C17, C18, C19, C20, C21, C22, C23}
use Rattle.mq_rules.specs.declared.note.Note.{Note}
use Rattle.mq_rules.specs.declared.note.Seen.{Seen}
use Rattle.mq_rules.specs.declared.packet_note.PacketFields.{PacketFields}
use Rattle.mq_rules.specs.declared.packet_note.PacketFields.TheVariants.{Connect, Connack, Publish, Puback, Pubrec, Pubrel, Pubcomp, Subscribe, Suback, Unsubscribe, Unsuback, Pingreq, Pingresp, Disconnect, Auth}
use Rattle.mq_rules.specs.declared.connection_state.ConnectionState.{ConnectionState}
use Rattle.mq_rules.specs.Notes.{fields_type}
use Rattle.mq_rules.specs.Moments.{Moment}
use Rattle.mq_rules.specs.Rules.{found_line, is_further, line_of, lines}
use Rattle.mq_rules.specs.Statements.{on_past, is_by_past, statement}
use Rattle.mq_rules.specs.Occasions.{occasion, places}
use Rattle.mq_rules.specs.Keeping.{kept}
use Rattle.mq_connections.specs.Trying.{Tries, is_tallied}
use Rattle.mq_rules.proofs.Exports.{places-most, places-past, places-start}

-- no event has put anything to the test
pub none-yet : (tested : Tested) (rule : Rule) (beside : ℕ) → beside ≡ 0 → 0 + beside ≡ places tested [] rule
none-yet tested rule beside zero = let none = places-start tested rule in omega (arith, zero, none)

-- one event more
pub tally-next : (rule : Rule) (test : Role → Moment → Bool) (found : Role → ConnectionState → Note → Bool) → ((role : Role) → occasion role rule ≡ Some (on_past (test role))) → Tries rule test found
    → (tested : Tested) (role : Role) (s : ConnectionState) (e : Seen) (past : List Seen) (here : Bool) (beside old new at : ℕ) → role ≡ tested.role → s ≡ kept tested.role past → at ≡ length past + 1 → here ≡ found role s e.note
    → old + beside ≡ places tested past rule → (old < at → new ≡ cond here 1 0 + old) → new + beside ≡ places tested (e ∷ past) rule
tally-next rule test found says finds tested role s e past here beside old new at end state placed is was more =
    let most = places-most tested past rule in
    longer here beside old new (places tested past rule) (places tested (e ∷ past) rule) (more (omega (arith, most, was, placed))) next was
  where
    next : places tested (e ∷ past) rule ≡ cond here 1 0 + places tested past rule
    next =
        places-past tested rule (test tested.role) e past (says tested.role)
        ∙ ap (λ b. cond b 1 0 + places tested past rule)
        (finds tested.role tested.releases tested.further e past ∙ sym (is ∙ ap (λ r. found r s e.note) end ∙ ap (λ t. found tested.role t e.note) state))

    longer : (here : Bool) (beside old new were are : ℕ) → new ≡ cond here 1 0 + old → are ≡ cond here 1 0 + were → old + beside ≡ were → new + beside ≡ are
    longer true beside old new were are more next was = omega (arith, more, next, was)
    longer false beside old new were are more next was = omega (arith, more, next, was)

-- a packet has a type from 1 to 15
pub has_type : (fields : PacketFields) → true ≡ not (type_number (fields_type fields) == 0)
has_type (Connect c method) = refl
has_type (Connack c method) = refl
has_type (Publish p) = refl
has_type (Puback identifier code) = refl
has_type (Pubrec identifier code) = refl
has_type (Pubrel identifier code) = refl
has_type (Pubcomp identifier code) = refl
has_type (Subscribe identifier filters wishes) = refl
has_type (Suback identifier codes) = refl
has_type (Unsubscribe identifier filters) = refl
has_type (Unsuback identifier codes) = refl
has_type Pingreq = refl
has_type Pingresp = refl
has_type (Disconnect d) = refl
has_type (Auth method) = refl

-- C01 to C23 are the statements on the past of a connection
pub is_whole : (role : Role) (rule : Rule) → (is_by_past (statement role rule) && not (is_further rule)) ≡ is_tallied rule
unfolding line_of found_line lines
is_whole role W01 = refl
is_whole role _ = refl

-- what holds of each of them holds of any
pub of-tallied : (P : Rule → Type 0) → P C01 → P C02 → P C03 → P C04 → P C05 → P C06 → P C07 → P C08 → P C09 → P C10 → P C11 → P C12 → P C13 → P C14 → P C15 → P C16 → P C17 → P C18 → P C19 → P C20 → P C21 → P C22 → P C23 → (rule : Rule) → is_tallied rule ≡ true → P rule
of-tallied P c01 c02 c03 c04 c05 c06 c07 c08 c09 c10 c11 c12 c13 c14 c15 c16 c17 c18 c19 c20 c21 c22 c23 C01 one = c01
of-tallied P c01 c02 c03 c04 c05 c06 c07 c08 c09 c10 c11 c12 c13 c14 c15 c16 c17 c18 c19 c20 c21 c22 c23 C02 one = c02
of-tallied P c01 c02 c03 c04 c05 c06 c07 c08 c09 c10 c11 c12 c13 c14 c15 c16 c17 c18 c19 c20 c21 c22 c23 C03 one = c03
of-tallied P c01 c02 c03 c04 c05 c06 c07 c08 c09 c10 c11 c12 c13 c14 c15 c16 c17 c18 c19 c20 c21 c22 c23 C04 one = c04
of-tallied P c01 c02 c03 c04 c05 c06 c07 c08 c09 c10 c11 c12 c13 c14 c15 c16 c17 c18 c19 c20 c21 c22 c23 C05 one = c05
of-tallied P c01 c02 c03 c04 c05 c06 c07 c08 c09 c10 c11 c12 c13 c14 c15 c16 c17 c18 c19 c20 c21 c22 c23 C06 one = c06
of-tallied P c01 c02 c03 c04 c05 c06 c07 c08 c09 c10 c11 c12 c13 c14 c15 c16 c17 c18 c19 c20 c21 c22 c23 C07 one = c07
of-tallied P c01 c02 c03 c04 c05 c06 c07 c08 c09 c10 c11 c12 c13 c14 c15 c16 c17 c18 c19 c20 c21 c22 c23 C08 one = c08
of-tallied P c01 c02 c03 c04 c05 c06 c07 c08 c09 c10 c11 c12 c13 c14 c15 c16 c17 c18 c19 c20 c21 c22 c23 C09 one = c09
of-tallied P c01 c02 c03 c04 c05 c06 c07 c08 c09 c10 c11 c12 c13 c14 c15 c16 c17 c18 c19 c20 c21 c22 c23 C10 one = c10
of-tallied P c01 c02 c03 c04 c05 c06 c07 c08 c09 c10 c11 c12 c13 c14 c15 c16 c17 c18 c19 c20 c21 c22 c23 C11 one = c11
of-tallied P c01 c02 c03 c04 c05 c06 c07 c08 c09 c10 c11 c12 c13 c14 c15 c16 c17 c18 c19 c20 c21 c22 c23 C12 one = c12
of-tallied P c01 c02 c03 c04 c05 c06 c07 c08 c09 c10 c11 c12 c13 c14 c15 c16 c17 c18 c19 c20 c21 c22 c23 C13 one = c13
of-tallied P c01 c02 c03 c04 c05 c06 c07 c08 c09 c10 c11 c12 c13 c14 c15 c16 c17 c18 c19 c20 c21 c22 c23 C14 one = c14
of-tallied P c01 c02 c03 c04 c05 c06 c07 c08 c09 c10 c11 c12 c13 c14 c15 c16 c17 c18 c19 c20 c21 c22 c23 C15 one = c15
of-tallied P c01 c02 c03 c04 c05 c06 c07 c08 c09 c10 c11 c12 c13 c14 c15 c16 c17 c18 c19 c20 c21 c22 c23 C16 one = c16
of-tallied P c01 c02 c03 c04 c05 c06 c07 c08 c09 c10 c11 c12 c13 c14 c15 c16 c17 c18 c19 c20 c21 c22 c23 C17 one = c17
of-tallied P c01 c02 c03 c04 c05 c06 c07 c08 c09 c10 c11 c12 c13 c14 c15 c16 c17 c18 c19 c20 c21 c22 c23 C18 one = c18
of-tallied P c01 c02 c03 c04 c05 c06 c07 c08 c09 c10 c11 c12 c13 c14 c15 c16 c17 c18 c19 c20 c21 c22 c23 C19 one = c19
of-tallied P c01 c02 c03 c04 c05 c06 c07 c08 c09 c10 c11 c12 c13 c14 c15 c16 c17 c18 c19 c20 c21 c22 c23 C20 one = c20
of-tallied P c01 c02 c03 c04 c05 c06 c07 c08 c09 c10 c11 c12 c13 c14 c15 c16 c17 c18 c19 c20 c21 c22 c23 C21 one = c21
of-tallied P c01 c02 c03 c04 c05 c06 c07 c08 c09 c10 c11 c12 c13 c14 c15 c16 c17 c18 c19 c20 c21 c22 c23 C22 one = c22
of-tallied P c01 c02 c03 c04 c05 c06 c07 c08 c09 c10 c11 c12 c13 c14 c15 c16 c17 c18 c19 c20 c21 c22 c23 C23 one = c23
of-tallied P c01 c02 c03 c04 c05 c06 c07 c08 c09 c10 c11 c12 c13 c14 c15 c16 c17 c18 c19 c20 c21 c22 c23 _ one = absurd (cc)

-- a statement with a count is one of them
pub tally-found : (here : Bool) (n m : ℕ) → cond here (Some n) None ≡ Some m → (here ≡ true) × (n ≡ m)
tally-found true n m is = (refl, cc)
tally-found false n m is = absurd (cc)

-- and one without isn't
pub tally-absent : (here : Bool) (n : ℕ) → cond here (Some n) None ≡ None → here ≡ false
tally-absent true n is = absurd (cc)
tally-absent false n is = refl
