-- All statements on sessions, as the pairs that their watchers add.
use Rattle.std.specs.Prelude.{◌≡◌, Bool, true, false, ◌&&◌, ◌||◌, not, refl}
use Rattle.mq_rules.specs.declared.rule.Rule.{Rule}
use Rattle.mq_rules.specs.declared.role.Role.{Role}
use Rattle.mq_rules.specs.declared.rule.Rule.TheVariants.{W01, S07, E7R, L1, L2, L3}
use Rattle.mq_rules.specs.Rules.{same_rule}
use Rattle.mq_rules.specs.Under.{either_adds}
use Rattle.mq_rules.specs.Occasions.{occasion}
use Rattle.mq_fates.specs.Placings.{is_on_sessions, implied}
use Rattle.mq_inflight.specs.Using.{is_inflight}
use Rattle.mq_exchanges.specs.Grouping.{of_messages, of_requests}
use Rattle.mq_subscriptions.specs.Grouping.{of_subscriptions}

-- ---- all statements on sessions

-- on identifiers, the send quota and pings
abbrev pub of_sending : Rule → Bool
of_sending r = is_inflight r || (same_rule r S07 || same_rule r E7R)

abbrev pub by_sending : Rule → Bool → Bool
by_sending r t = (is_inflight r && t) || ((same_rule r S07 && t) || (same_rule r E7R && t))

pub sending_adds : (r : Rule) (t : Bool) → by_sending r t ≡ (of_sending r && t)
sending_adds r t =
    either_adds (is_inflight r && t) ((same_rule r S07 && t) || (same_rule r E7R && t)) (is_inflight r) (same_rule r S07 || same_rule r E7R) t refl
    (either_adds (same_rule r S07 && t) (same_rule r E7R && t) (same_rule r S07) (same_rule r E7R) t refl refl)

abbrev pub of_releases : Rule → Bool
of_releases r = (same_rule r L1 || same_rule r L2) || same_rule r L3

abbrev pub of_sessions : Rule → Bool
of_sessions r = of_sending r || ((of_messages r || of_requests r) || (of_releases r || of_subscriptions r))

abbrev pub by_sessions : Rule → Bool → Bool
by_sessions r t = by_sending r t || (((of_messages r && t) || (of_requests r && t)) || ((of_releases r && t) || (of_subscriptions r && t)))

pub sessions_add : (r : Rule) (t : Bool) → by_sessions r t ≡ (of_sessions r && t)
sessions_add r t =
    either_adds (by_sending r t) (((of_messages r && t) || (of_requests r && t)) || ((of_releases r && t) || (of_subscriptions r && t))) (of_sending r) ((of_messages r || of_requests r) || (of_releases r || of_subscriptions r)) t
    (sending_adds r t)
    (either_adds ((of_messages r && t) || (of_requests r && t)) ((of_releases r && t) || (of_subscriptions r && t)) (of_messages r || of_requests r) (of_releases r || of_subscriptions r) t
    (either_adds (of_messages r && t) (of_requests r && t) (of_messages r) (of_requests r) t refl refl)
    (either_adds (of_releases r && t) (of_subscriptions r && t) (of_releases r) (of_subscriptions r) t refl refl))

-- ---- where they are put to the test

sessions_placed : (role : Role) (r : Rule) → (of_sessions r && not (is_on_sessions (occasion role r))) ≡ false
sessions_placed role W01 = refl
sessions_placed role _ = refl

pub on_sessions : (role : Role) (r : Rule) → of_sessions r ≡ true → is_on_sessions (occasion role r) ≡ true
on_sessions role r = implied (of_sessions r) (is_on_sessions (occasion role r)) (sessions_placed role r)
