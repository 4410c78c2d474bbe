-- How the faults grow by the statements on the bytes of one packet.
use Rattle.std.proofs.Common.{◌≡◌, ℕ, ◌+◌, ◌==◌, Bool, true, false, cond, ◌&&◌, List, ◌∷◌, length, Option, Some, None, refl, ap, sym, ◌∙◌, subst, inl}
use Rattle.std.specs.Prelude.{option_map}
use Rattle.std.specs.Option.{option_or}
use denote.Enum.Bare.{same_true, sameb}
use Rattle.mq_packet.specs.declared.rule.PacketRule.{PacketRule}
use Rattle.mq_packet.specs.declared.rule.PacketRule.TheVariants as packets
use Rattle.mq_packet.specs.contracts.rule.PacketRule.{the_type as packet_rules}
use Rattle.mq_packet.specs.declared.fault.BodyFault.{BodyFault}
use Rattle.mq_rules.specs.contracts.rule.Rule.{the_type}
use Rattle.mq_rules.specs.declared.role.Role.{Role}
use Rattle.mq_rules.specs.declared.role.Further.{Further}
use Rattle.mq_rules.specs.declared.role.Role.TheVariants.{Client, Server}
use Rattle.mq_rules.specs.declared.role.Tested.{Tested}
use Rattle.mq_rules.specs.declared.rule.Rule.{Rule}
use Rattle.mq_rules.specs.declared.rule.Rule.TheVariants.{W01, W02, W03, W04, W05, W06, W07, W08, W09, W10, W11, W12, W13, W14, W15, W16, W17, W18, W19, W20, W21}
use Rattle.mq_rules.specs.declared.fault.Fault.{Fault}
use Rattle.mq_rules.specs.declared.note.Seen.{Seen}
use Rattle.mq_rules.specs.Words.{is_some_and}
use Rattle.mq_rules.specs.Notes.{sent_fault}
use Rattle.mq_rules.specs.Moments.{newest, moment}
use Rattle.mq_rules.specs.Rules.{same_rule, binds, found_line, lines, line_of}
use Rattle.mq_rules.specs.Statements.{Statement, on_bytes, on_past, in_session, at_release, at_rest, by_later, statement, breaks_bytes, is_by_bytes, is_on_bytes}
use Rattle.mq_rules.specs.Steps.{shows, turns}
use Rattle.mq_rules.specs.FaultKeys.{FaultMap, fault_at, with_fault}
use Rattle.mq_rules.specs.Faults.{record_of, offset_of}
use Rattle.mq_rules.specs.Growing.{GrowsBy, GrowsByWithin}
use Rattle.mq_rules.proofs.Exports.{and_false, fault_at-with_fault, not_true, option_or-none, same_test}

-- ---- the statements on the bytes of one packet

-- each has its own rule
unfoldable pub rule_of : PacketRule → Rule
rule_of packets.W01 = W01
rule_of packets.W02 = W02
rule_of packets.W03 = W03
rule_of packets.W04 = W04
rule_of packets.W05 = W05
rule_of packets.W06 = W06
rule_of packets.W07 = W07
rule_of packets.W08 = W08
rule_of packets.W09 = W09
rule_of packets.W10 = W10
rule_of packets.W11 = W11
rule_of packets.W12 = W12
rule_of packets.W13 = W13
rule_of packets.W14 = W14
rule_of packets.W15 = W15
rule_of packets.W16 = W16
rule_of packets.W17 = W17
rule_of packets.W18 = W18
rule_of packets.W19 = W19
rule_of packets.W20 = W20
rule_of packets.W21 = W21

is_own : Rule → Statement → Bool
is_own rule (on_bytes bytes) = same_rule rule (rule_of bytes)
is_own rule (on_past breaks) = true
is_own rule (in_session breaks) = true
is_own rule (at_release breaks) = true
is_own rule (at_rest test) = true
is_own rule (by_later test) = true

own : (role : Role) (rule : Rule) → is_own rule (statement role rule) ≡ true
unfolding is_own rule_of
own role W01 = refl
own role _ = refl

pub named : (role : Role) (rule : Rule) (bytes : PacketRule) → statement role rule ≡ on_bytes bytes → rule ≡ rule_of bytes
unfolding is_own
named role rule bytes is = same_true the_type tt rule (rule_of bytes) (ap (is_own rule) (sym is) ∙ own role rule)

-- each binds both ends
is_bound : Statement → Bool → Bool
is_bound (on_bytes bytes) b = b
is_bound (on_past breaks) b = true
is_bound (in_session breaks) b = true
is_bound (at_release breaks) b = true
is_bound (at_rest test) b = true
is_bound (by_later test) b = true

bound_for : (role : Role) (releases : Bool) (further : Further) (rule : Rule) → is_bound (statement role rule) (binds rule (record { role = role; releases = releases; further = further })) ≡ true
unfolding is_bound found_line lines line_of
bound_for Client releases further W01 = refl
bound_for Client releases further _ = refl
bound_for Server releases further W01 = refl
bound_for Server releases further _ = refl

pub bound : (tested : Tested) (rule : Rule) (bytes : PacketRule) → statement tested.role rule ≡ on_bytes bytes → binds rule tested ≡ true
unfolding is_bound
bound tested rule bytes is = ap (λ s. is_bound s (binds rule tested)) (sym is) ∙ bound_for tested.role tested.releases tested.further rule

same_self : (bytes : PacketRule) → sameb packet_rules bytes bytes ≡ true
same_self packets.W01 = refl
same_self _ = refl

self_same : (rule : Rule) → same_rule rule rule ≡ true
self_same W01 = refl
self_same _ = refl

-- an event whose bytes break nothing
news-none : (s : Statement) (b : Bool) (role : Role) (e : Seen) (past : List Seen) (k : ℕ) → sent_fault e.note ≡ None → (is_by_bytes s && (b && shows role s e past k)) ≡ false
unfolding breaks_bytes
news-none (on_bytes bytes) b role e past k none =
    ap (λ o. b && ((k == length past + 1) && is_some_and (λ (fault : BodyFault). sameb packet_rules bytes fault.rule) o)) none ∙ go b (k == length past + 1)
  where
    go : (b t : Bool) → (b && (t && false)) ≡ false
    go true true = refl
    go true false = refl
    go false t = refl
news-none (on_past breaks) b role e past k none = refl
news-none (in_session breaks) b role e past k none = refl
news-none (at_release breaks) b role e past k none = refl
news-none (at_rest test) b role e past k none = refl
news-none (by_later test) b role e past k none = refl

pub bytes-none : (tested : Tested) (e : Seen) (past : List Seen) (m : FaultMap) → sent_fault e.note ≡ None → GrowsBy (is_on_bytes tested) tested e past m m
unfolding turns
bytes-none tested e past m none = record {
  each = λ k rule. sym (
      ap (λ b. option_or (fault_at m k rule) (cond {A = Option Fault} b (Some (record { decided = length past + 1; record_no = record_of (moment (e ∷ past) k); offset = offset_of (statement tested.role rule) (moment (e ∷ past) k) })) None))
      (news-none (statement tested.role rule) (binds rule tested) tested.role e past k none)
      ∙ option_or-none (fault_at m k rule));
}

-- a rule and the packet rule that are of one statement
same_bytes : (tested : Tested) (rule name : Rule) (bytes found : PacketRule) → statement tested.role rule ≡ on_bytes bytes → statement tested.role name ≡ on_bytes found
    → same_rule rule name ≡ sameb packet_rules bytes found
same_bytes tested rule name bytes found is name_is =
    same_test (same_rule rule name) (sameb packet_rules bytes found)
    (λ same.
    let one : rule ≡ name = same_true the_type tt rule name same in
    let whole : on_bytes bytes ≡ on_bytes found = sym is ∙ ap (statement tested.role) one ∙ name_is in
    let both : bytes ≡ found = cc in
    subst (λ b. sameb packet_rules bytes b ≡ true) both (same_self bytes))
    (λ same.
    let one : bytes ≡ found = same_true packet_rules tt bytes found same in
    let both : rule ≡ name = named tested.role rule bytes is ∙ ap rule_of one ∙ sym (named tested.role name found name_is) in
    subst (λ r. same_rule rule r ≡ true) both (self_same rule))

-- a rule of another shape is not that of the packet rule
other_shape : (tested : Tested) (rule name : Rule) (found : PacketRule) (s : Statement) → statement tested.role rule ≡ s → is_by_bytes s ≡ false → statement tested.role name ≡ on_bytes found → same_rule rule name ≡ false
other_shape tested rule name found s is by name_is = not_true (same_rule rule name) (λ same.
    let one : rule ≡ name = same_true the_type tt rule name same in
    let whole : is_by_bytes s ≡ true = ap is_by_bytes (sym is ∙ ap (statement tested.role) one ∙ name_is) in
    absurd (cc))

none_of : (tested : Tested) (rule name : Rule) (e : Seen) (k : ℕ) (b : BodyFault) → same_rule rule name ≡ false
    → cond {A = Option Fault} ((k == e.place.position) && same_rule rule name) (Some (record { decided = e.place.position; record_no = e.place.record_no; offset = Some b.at })) None ≡ None
none_of tested rule name e k b other =
    ap (λ t. cond {A = Option Fault} t (Some (record { decided = e.place.position; record_no = e.place.record_no; offset = Some b.at })) None) (ap (λ t. (k == e.place.position) && t) other ∙ and_false (k == e.place.position))

-- an event whose bytes break a rule
news-some : (tested : Tested) (rule name : Rule) (e : Seen) (past : List Seen) (k : ℕ) (b : BodyFault) (s : Statement)
    → e.place.position ≡ length past + 1 → sent_fault e.note ≡ Some b → statement tested.role name ≡ on_bytes b.rule → statement tested.role rule ≡ s
    → cond {A = Option Fault} ((k == e.place.position) && same_rule rule name) (Some (record { decided = e.place.position; record_no = e.place.record_no; offset = Some b.at })) None
    ≡ cond {A = Option Fault} (is_by_bytes s && (binds rule tested && shows tested.role s e past k)) (Some (record { decided = length past + 1; record_no = record_of (moment (e ∷ past) k); offset = offset_of s (moment (e ∷ past) k) })) None
unfolding breaks_bytes
news-some tested rule name e past k b (on_bytes bytes) placed broke name_is is =
    ap (λ n. cond {A = Option Fault} ((k == n) && same_rule rule name) (Some (record { decided = n; record_no = e.place.record_no; offset = Some b.at })) None) placed
    ∙ ap (λ t. cond {A = Option Fault} ((k == length past + 1) && t) (Some (record { decided = length past + 1; record_no = e.place.record_no; offset = Some b.at })) None) (same_bytes tested rule name bytes b.rule is name_is)
    ∙ go (k == length past + 1)
    ∙ ap (λ o. cond {A = Option Fault} ((k == length past + 1) && is_some_and (λ (fault : BodyFault). sameb packet_rules bytes fault.rule) o)
    (Some (record { decided = length past + 1; record_no = record_of (moment (e ∷ past) k); offset = offset_of (on_bytes bytes) (moment (e ∷ past) k) })) None) (sym broke)
    ∙ ap (λ t. cond {A = Option Fault} (t && ((k == length past + 1) && breaks_bytes bytes (newest e past)))
    (Some (record { decided = length past + 1; record_no = record_of (moment (e ∷ past) k); offset = offset_of (on_bytes bytes) (moment (e ∷ past) k) })) None) (sym (bound tested rule bytes is))
  where
    at : (o : Option BodyFault) → o ≡ Some b → Some b.at ≡ option_map (λ fault. fault.at) o
    at o h = ap (option_map (λ fault. fault.at)) (sym h)

    go : (t : Bool) → cond {A = Option Fault} (t && sameb packet_rules bytes b.rule) (Some (record { decided = length past + 1; record_no = e.place.record_no; offset = Some b.at })) None
        ≡ cond {A = Option Fault} (t && sameb packet_rules bytes b.rule) (Some (record { decided = length past + 1; record_no = record_of (cond t (Some (newest e past)) (moment past k)); offset = offset_of (on_bytes bytes) (cond t (Some (newest e past)) (moment past k)) })) None
    go true = ap (λ o. cond {A = Option Fault} (sameb packet_rules bytes b.rule) (Some (record { decided = length past + 1; record_no = e.place.record_no; offset = o })) None) (at (sent_fault e.note) broke)
    go false = refl
news-some tested rule name e past k b (on_past breaks) placed broke name_is is = none_of tested rule name e k b (other_shape tested rule name b.rule (on_past breaks) is refl name_is)
news-some tested rule name e past k b (in_session breaks) placed broke name_is is = none_of tested rule name e k b (other_shape tested rule name b.rule (in_session breaks) is refl name_is)
news-some tested rule name e past k b (at_release breaks) placed broke name_is is = none_of tested rule name e k b (other_shape tested rule name b.rule (at_release breaks) is refl name_is)
news-some tested rule name e past k b (at_rest test) placed broke name_is is = none_of tested rule name e k b (other_shape tested rule name b.rule (at_rest test) is refl name_is)
news-some tested rule name e past k b (by_later test) placed broke name_is is = none_of tested rule name e k b (other_shape tested rule name b.rule (by_later test) is refl name_is)

pub bytes-some : (tested : Tested) (e : Seen) (past : List Seen) (m : FaultMap) (name : Rule) (b : BodyFault) → e.place.position ≡ length past + 1
    → sent_fault e.note ≡ Some b → statement tested.role name ≡ on_bytes b.rule
    → GrowsBy (is_on_bytes tested) tested e past m (with_fault (record { position = e.place.position; rule = name }) (record { decided = e.place.position; record_no = e.place.record_no; offset = Some b.at }) m)
unfolding turns
bytes-some tested e past m name b placed broke name_is = record {
  each = λ k rule. fault_at-with_fault m e.place.position k name rule (record { decided = e.place.position; record_no = e.place.record_no; offset = Some b.at })
      ∙ ap (option_or (fault_at m k rule)) (news-some tested rule name e past k b (statement tested.role rule) placed broke name_is refl);
}

-- a refusal that leaves the faults unchanged
pub within-unchanged : (chosen : Rule → Bool) (tested : Tested) (e : Seen) (past : List Seen) (m : FaultMap) → GrowsByWithin chosen tested e past m m
within-unchanged chosen tested e past m = record { each = λ k rule. inl refl }
