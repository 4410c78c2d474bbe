-- How often the statements on a packet's bytes are put to the test, counted in one pass.
use Rattle.std.proofs.Common.{◌≡◌, ℕ, ◌+◌, ◌<◌, arith, Bool, true, false, ◌&&◌, ◌||◌, not, cond, List, [], ◌∷◌, length, None, refl, ap, sym, ◌∙◌}
use Rattle.mq_props.specs.Values.{Property}
use Rattle.mq_props.specs.Having.{any_property}
use Rattle.mq_packet.specs.declared.rule.PacketRule.{PacketRule}
use Rattle.mq_packet.specs.declared.rule.PacketRule.TheVariants.{W01, W02, W03, W04, W05, W06, W07, W08, W09, W10, W11, W12, W13, W14, W15, W16, W17, W18, W19, W20, W21}
use Rattle.mq_log.specs.Events.{Event, Placed}
use Rattle.mq_rules.specs.declared.role.Role.{Role}
use Rattle.mq_rules.specs.declared.role.Tested.{Tested}
use Rattle.mq_rules.specs.declared.rule.Rule.{Rule}
use Rattle.mq_connections.specs.declared.byte_tally.ByteTally.{ByteTally}
use Rattle.mq_rules.specs.Words.{is_some_and}
use Rattle.mq_rules.specs.Rules.{binds}
use Rattle.mq_rules.specs.Statements.{Statement, on_bytes, on_past, in_session, at_release, at_rest, by_later, statement, is_by_bytes}
use Rattle.mq_rules.specs.Trials.{tried_by, item_sent, tries_statement, places_bytes}
use Rattle.mq_connections.specs.ByteTallies.{count_of, CountsBytes}
use Rattle.mq_rules.proofs.Exports.{bytes-most}
use Rattle.mq_connections.proofs.ByteFaultLaws.{bound, named, rule_of}

-- what holds of each rule holds of any
pub of-each : (P : PacketRule → Type 0) → P W01 → P W02 → P W03 → P W04 → P W05 → P W06 → P W07 → P W08 → P W09 → P W10 → P W11 → P W12 → P W13 → P W14 → P W15 → P W16 → P W17 → P W18 → P W19 → P W20 → P W21 → (rule : PacketRule) → P rule
of-each P a01 a02 a03 a04 a05 a06 a07 a08 a09 a10 a11 a12 a13 a14 a15 a16 a17 a18 a19 a20 a21 W01 = a01
of-each P a01 a02 a03 a04 a05 a06 a07 a08 a09 a10 a11 a12 a13 a14 a15 a16 a17 a18 a19 a20 a21 W02 = a02
of-each P a01 a02 a03 a04 a05 a06 a07 a08 a09 a10 a11 a12 a13 a14 a15 a16 a17 a18 a19 a20 a21 W03 = a03
of-each P a01 a02 a03 a04 a05 a06 a07 a08 a09 a10 a11 a12 a13 a14 a15 a16 a17 a18 a19 a20 a21 W04 = a04
of-each P a01 a02 a03 a04 a05 a06 a07 a08 a09 a10 a11 a12 a13 a14 a15 a16 a17 a18 a19 a20 a21 W05 = a05
of-each P a01 a02 a03 a04 a05 a06 a07 a08 a09 a10 a11 a12 a13 a14 a15 a16 a17 a18 a19 a20 a21 W06 = a06
of-each P a01 a02 a03 a04 a05 a06 a07 a08 a09 a10 a11 a12 a13 a14 a15 a16 a17 a18 a19 a20 a21 W07 = a07
of-each P a01 a02 a03 a04 a05 a06 a07 a08 a09 a10 a11 a12 a13 a14 a15 a16 a17 a18 a19 a20 a21 W08 = a08
of-each P a01 a02 a03 a04 a05 a06 a07 a08 a09 a10 a11 a12 a13 a14 a15 a16 a17 a18 a19 a20 a21 W09 = a09
of-each P a01 a02 a03 a04 a05 a06 a07 a08 a09 a10 a11 a12 a13 a14 a15 a16 a17 a18 a19 a20 a21 W10 = a10
of-each P a01 a02 a03 a04 a05 a06 a07 a08 a09 a10 a11 a12 a13 a14 a15 a16 a17 a18 a19 a20 a21 W11 = a11
of-each P a01 a02 a03 a04 a05 a06 a07 a08 a09 a10 a11 a12 a13 a14 a15 a16 a17 a18 a19 a20 a21 W12 = a12
of-each P a01 a02 a03 a04 a05 a06 a07 a08 a09 a10 a11 a12 a13 a14 a15 a16 a17 a18 a19 a20 a21 W13 = a13
of-each P a01 a02 a03 a04 a05 a06 a07 a08 a09 a10 a11 a12 a13 a14 a15 a16 a17 a18 a19 a20 a21 W14 = a14
of-each P a01 a02 a03 a04 a05 a06 a07 a08 a09 a10 a11 a12 a13 a14 a15 a16 a17 a18 a19 a20 a21 W15 = a15
of-each P a01 a02 a03 a04 a05 a06 a07 a08 a09 a10 a11 a12 a13 a14 a15 a16 a17 a18 a19 a20 a21 W16 = a16
of-each P a01 a02 a03 a04 a05 a06 a07 a08 a09 a10 a11 a12 a13 a14 a15 a16 a17 a18 a19 a20 a21 W17 = a17
of-each P a01 a02 a03 a04 a05 a06 a07 a08 a09 a10 a11 a12 a13 a14 a15 a16 a17 a18 a19 a20 a21 W18 = a18
of-each P a01 a02 a03 a04 a05 a06 a07 a08 a09 a10 a11 a12 a13 a14 a15 a16 a17 a18 a19 a20 a21 W19 = a19
of-each P a01 a02 a03 a04 a05 a06 a07 a08 a09 a10 a11 a12 a13 a14 a15 a16 a17 a18 a19 a20 a21 W20 = a20
of-each P a01 a02 a03 a04 a05 a06 a07 a08 a09 a10 a11 a12 a13 a14 a15 a16 a17 a18 a19 a20 a21 W21 = a21

-- before any event
pub none-counted : (rule : PacketRule) → count_of (record { publishes = 0; others = 0; named = 0; w01 = 0; w02 = 0; w03 = 0; w04 = 0; w05 = 0; w06 = 0; w07 = 0; w08 = 0; w09 = 0; w10 = 0; w11 = 0; w12 = 0; w13 = 0; w14 = 0; w15 = 0; w16 = 0; w17 = 0; w18 = 0; w19 = 0; w20 = 0; w21 = 0 }) rule ≡ 0
none-counted W01 = refl
none-counted _ = refl

pub counts-start : (tally : ByteTally) (tested : Tested) → ((rule : PacketRule) → count_of tally rule ≡ 0) → CountsBytes tally tested []
unfolding places_bytes
counts-start tally tested zero = record { each = λ name rule says. zero rule; fits = λ rule. let is = zero rule in omega (arith, is) }

-- each rule has its statement
own_statement : (role : Role) (rule : PacketRule) → statement role (rule_of rule) ≡ on_bytes rule
unfolding rule_of
own_statement role W01 = refl
own_statement role _ = refl

-- what is counted is below 2^32, as the positions are
all_fit : (tally : ByteTally) (tested : Tested) (events : List Placed) → length events < 4294967296 → ((name : Rule) (rule : PacketRule) → statement tested.role name ≡ on_bytes rule → count_of tally rule ≡ places_bytes tested events name)
    → (rule : PacketRule) → count_of tally rule < 4294967296
all_fit tally tested events short each rule =
    let is = each (rule_of rule) rule (own_statement tested.role rule) in
    let most = bytes-most tested events (rule_of rule) in
    omega (arith, is, most, short)

-- one event more
next_place : (tested : Tested) (name : Rule) (rule : PacketRule) (p : Placed) (events : List Placed) → statement tested.role name ≡ on_bytes rule
    → places_bytes tested (p ∷ events) name ≡ cond (is_some_and (tried_by rule) (item_sent p.event)) 1 0 + places_bytes tested events name
unfolding places_bytes
next_place tested name rule p events says = rw (bound tested name rule says, says) refl

-- it puts these rules to the test
abbrev Next : ByteTally → ByteTally → (PacketRule → Bool) → ℕ → Type 0
Next old new tried position = (rule : PacketRule) → count_of old rule < position → count_of new rule ≡ cond (tried rule) 1 0 + count_of old rule

each-next : (old new : ByteTally) (tried : PacketRule → Bool) (position : ℕ) (tested : Tested) (p : Placed) (events : List Placed) → ((rule : PacketRule) → is_some_and (tried_by rule) (item_sent p.event) ≡ tried rule)
    → Next old new tried position → position ≡ length events + 1 → CountsBytes old tested events → (name : Rule) (rule : PacketRule) → statement tested.role name ≡ on_bytes rule → count_of new rule ≡ places_bytes tested (p ∷ events) name
each-next old new tried position tested p events is more at was name rule says =
    let most = bytes-most tested events name in
    let before = was.each name rule says in
    more rule (omega (arith, before, most, at))
    ∙ ap (λ n. cond (tried rule) 1 0 + n) before
    ∙ ap (λ b. cond b 1 0 + places_bytes tested events name) (sym (is rule))
    ∙ sym (next_place tested name rule p events says)

pub counts-next : (old new : ByteTally) (tried : PacketRule → Bool) (position : ℕ) (tested : Tested) (p : Placed) (events : List Placed) → position < 4294967296
    → ((rule : PacketRule) → is_some_and (tried_by rule) (item_sent p.event) ≡ tried rule) → Next old new tried position → position ≡ length events + 1 → CountsBytes old tested events → CountsBytes new tested (p ∷ events)
counts-next old new tried position tested p events short is more at was =
    let each = each-next old new tried position tested p events is more at was in
    let same : length (p ∷ events) ≡ length events + 1 = omega arith in
    record { each = each; fits = all_fit new tested (p ∷ events) (omega (arith, short, at, same)) each }

-- ---- the parts of a packet without properties

pub no_part : (n : ℕ) → n ≡ 0 + n
no_part n = omega arith

-- a part counts for a rule, beside what else does
pub one_part : (here : Bool) (else old new position : ℕ) → (old < position → new ≡ cond here 1 0 + old) → else + old < position → else + new ≡ cond here 1 0 + (else + old)
one_part true else old new position more below = let is = more (omega (arith, below)) in omega (arith, is)
one_part false else old new position more below = let is = more (omega (arith, below)) in omega (arith, is)

-- one of two parts does
pub two_parts : (first : Bool) (else a b newer_a newer_b position : ℕ) → (a < position → newer_a ≡ cond first 1 0 + a) → (b < position → newer_b ≡ cond (not first) 1 0 + b)
    → else + (a + b) < position → else + (newer_a + newer_b) ≡ 1 + (else + (a + b))
two_parts true else a b newer_a newer_b position more_a more_b below = let is_a = more_a (omega (arith, below)) in let is_b = more_b (omega (arith, below)) in omega (arith, is_a, is_b)
two_parts false else a b newer_a newer_b position more_a more_b below = let is_a = more_a (omega (arith, below)) in let is_b = more_b (omega (arith, below)) in omega (arith, is_a, is_b)

-- what isn't counted by a part may count beside it
pub other_part : (part other : Bool) (else counted new_else new_counted position : ℕ) → (else < position → new_else ≡ cond (not part && other) 1 0 + else) → (counted < position → new_counted ≡ cond part 1 0 + counted)
    → else + counted < position → new_else + new_counted ≡ cond (part || other) 1 0 + (else + counted)
other_part true other else counted new_else new_counted position more_else more_counted below = let is_e = more_else (omega (arith, below)) in let is_c = more_counted (omega (arith, below)) in omega (arith, is_e, is_c)
other_part false true else counted new_else new_counted position more_else more_counted below = let is_e = more_else (omega (arith, below)) in let is_c = more_counted (omega (arith, below)) in omega (arith, is_e, is_c)
other_part false false else counted new_else new_counted position more_else more_counted below = let is_e = more_else (omega (arith, below)) in let is_c = more_counted (omega (arith, below)) in omega (arith, is_e, is_c)

-- a list with a property that may be there only once has a property
pub any_single : (test : ℕ → Bool) (ps : List Property) → (any_property test ps || any_property (λ id. true) ps) ≡ any_property (λ id. true) ps
any_single test [] = refl
any_single test (p ∷ ps) = or_true (any_property test (p ∷ ps))
  where
    or_true : (b : Bool) → (b || true) ≡ true
    or_true true = refl
    or_true false = refl

-- it puts none to the test
pub counts-stay : (tally : ByteTally) (tested : Tested) (p : Placed) (events : List Placed) → item_sent p.event ≡ None → CountsBytes tally tested events → CountsBytes tally tested (p ∷ events)
counts-stay tally tested p events none was = record {
  each = λ name rule says.
      was.each name rule says
      ∙ no_part (places_bytes tested events name)
      ∙ ap (λ item. cond (is_some_and (tried_by rule) item) 1 0 + places_bytes tested events name) (sym none)
      ∙ sym (next_place tested name rule p events says);
  fits = was.fits;
}

-- a statement of another shape has no places
other_shape : (binding : Bool) (s : Statement) (e : Event) → is_by_bytes s ≡ false → (binding && tries_statement s e) ≡ false
other_shape true (on_bytes rule) e h = absurd (cc)
other_shape true (on_past breaks) e h = refl
other_shape true (in_session breaks) e h = refl
other_shape true (at_release breaks) e h = refl
other_shape true (at_rest shows) e h = refl
other_shape true (by_later shows) e h = refl
other_shape false s e h = refl

none_yet : (tested : Tested) (rule : Rule) (p : Placed) (past : List Placed) → is_by_bytes (statement tested.role rule) ≡ false → 0 ≡ places_bytes tested past rule → 0 ≡ places_bytes tested (p ∷ past) rule
unfolding places_bytes
none_yet tested rule p past h none =
    none ∙ no_part (places_bytes tested past rule) ∙ ap (λ b. cond b 1 0 + places_bytes tested past rule) (sym (other_shape (binds rule tested) (statement tested.role rule) p.event h))

others_none : (tested : Tested) (events : List Placed) (rule : Rule) → is_by_bytes (statement tested.role rule) ≡ false → 0 ≡ places_bytes tested events rule
unfolding places_bytes
others_none tested [] rule h = refl
others_none tested (p ∷ past) rule h = none_yet tested rule p past h (others_none tested past rule h)

not_bytes : (role : Role) (rule : Rule) (s : Statement) → statement role rule ≡ s → ((bytes : PacketRule) → rule ≡ rule_of bytes → ⊥) → is_by_bytes s ≡ false
not_bytes role rule (on_bytes bytes) is none = absurd (none bytes (named role rule bytes is))
not_bytes role rule (on_past breaks) is none = refl
not_bytes role rule (in_session breaks) is none = refl
not_bytes role rule (at_release breaks) is none = refl
not_bytes role rule (at_rest shows) is none = refl
not_bytes role rule (by_later shows) is none = refl

pub no-places : (tested : Tested) (events : List Placed) (rule : Rule) → ((bytes : PacketRule) → rule ≡ rule_of bytes → ⊥) → 0 ≡ places_bytes tested events rule
no-places tested events rule none = others_none tested events rule (not_bytes tested.role rule (statement tested.role rule) refl none)
