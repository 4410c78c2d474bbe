-- The statements of exchanges, each as the pairs that their watchers add.
use Rattle.std.specs.Prelude.{◌≡◌, Bool, true, false, ◌&&◌, ◌||◌, not, Option, Some, None, refl}
use Rattle.mq_rules.specs.declared.rule.Rule.{Rule}
use Rattle.mq_rules.specs.declared.role.Role.{Role}
use Rattle.mq_rules.specs.declared.rule.Rule.TheVariants.{W01, E1A, E1R, E1O, E2A, E2R, E2O, E3A, E3R, E3O, E4A, E4R, E5A, E5R, E6A, E6R}
use Rattle.mq_rules.specs.Words.{is_some_and}
use Rattle.mq_rules.specs.Rules.{same_rule}
use Rattle.mq_rules.specs.Under.{either_adds}
use Rattle.mq_rules.specs.Occasions.{occasion}
use Rattle.mq_fates.specs.Placings.{is_on_sessions, implied}

-- ---- an exchange

-- a statement is one of an exchange: on what is asked for, on what is settled before a REST, or on the order of answers, if there is such a statement
abbrev pub of_exchange : Rule → Rule → Option Rule → Rule → Bool
of_exchange asked settled ordered r = same_rule r asked || (same_rule r settled || is_some_and (same_rule r) ordered)

-- a pair of one of them turns out to fail, if any pair of the statement does
abbrev pub by_exchange : Rule → Rule → Option Rule → Rule → Bool → Bool
by_exchange asked settled ordered r turns = (same_rule r asked && turns) || ((same_rule r settled || is_some_and (same_rule r) ordered) && turns)

pub exchange_adds : (asked settled : Rule) (ordered : Option Rule) (r : Rule) (t : Bool) → by_exchange asked settled ordered r t ≡ (of_exchange asked settled ordered r && t)
exchange_adds asked settled ordered r t =
    either_adds (same_rule r asked && t) ((same_rule r settled || is_some_and (same_rule r) ordered) && t) (same_rule r asked) (same_rule r settled || is_some_and (same_rule r) ordered) t refl refl

-- ---- exchanges of messages, and of requests

abbrev pub of_messages : Rule → Bool
of_messages r = (of_exchange E1A E1R (Some E1O) r || of_exchange E2A E2R (Some E2O) r) || (of_exchange E3A E3R (Some E3O) r || of_exchange E4A E4R None r)

abbrev pub by_messages : Rule → Bool → Bool
by_messages r t = (by_exchange E1A E1R (Some E1O) r t || by_exchange E2A E2R (Some E2O) r t) || (by_exchange E3A E3R (Some E3O) r t || by_exchange E4A E4R None r t)

pub messages_add : (r : Rule) (t : Bool) → by_messages r t ≡ (of_messages r && t)
messages_add r t =
    either_adds (by_exchange E1A E1R (Some E1O) r t || by_exchange E2A E2R (Some E2O) r t) (by_exchange E3A E3R (Some E3O) r t || by_exchange E4A E4R None r t)
    (of_exchange E1A E1R (Some E1O) r || of_exchange E2A E2R (Some E2O) r) (of_exchange E3A E3R (Some E3O) r || of_exchange E4A E4R None r) t
    (either_adds (by_exchange E1A E1R (Some E1O) r t) (by_exchange E2A E2R (Some E2O) r t) (of_exchange E1A E1R (Some E1O) r) (of_exchange E2A E2R (Some E2O) r) t
    (exchange_adds E1A E1R (Some E1O) r t) (exchange_adds E2A E2R (Some E2O) r t))
    (either_adds (by_exchange E3A E3R (Some E3O) r t) (by_exchange E4A E4R None r t) (of_exchange E3A E3R (Some E3O) r) (of_exchange E4A E4R None r) t
    (exchange_adds E3A E3R (Some E3O) r t) (exchange_adds E4A E4R None r t))

abbrev pub of_requests : Rule → Bool
of_requests r = of_exchange E5A E5R None r || of_exchange E6A E6R None r

abbrev pub by_requests : Rule → Bool → Bool
by_requests r t = by_exchange E5A E5R None r t || by_exchange E6A E6R None r t

pub requests_add : (r : Rule) (t : Bool) → by_requests r t ≡ (of_requests r && t)
requests_add r t =
    either_adds (by_exchange E5A E5R None r t) (by_exchange E6A E6R None r t) (of_exchange E5A E5R None r) (of_exchange E6A E6R None r) t
    (exchange_adds E5A E5R None r t) (exchange_adds E6A E6R None r t)

-- ---- where they are put to the test

-- each of them is put to the test on sessions
requests_placed : (role : Role) (r : Rule) → (of_requests r && not (is_on_sessions (occasion role r))) ≡ false
requests_placed role W01 = refl
requests_placed role _ = refl

pub on_requests : (role : Role) (r : Rule) → of_requests r ≡ true → is_on_sessions (occasion role r) ≡ true
on_requests role r = implied (of_requests r) (is_on_sessions (occasion role r)) (requests_placed role r)

messages_placed : (role : Role) (r : Rule) → (of_messages r && not (is_on_sessions (occasion role r))) ≡ false
messages_placed role W01 = refl
messages_placed role _ = refl

pub on_messages : (role : Role) (r : Rule) → of_messages r ≡ true → is_on_sessions (occasion role r) ≡ true
on_messages role r = implied (of_messages r) (is_on_sessions (occasion role r)) (messages_placed role r)
