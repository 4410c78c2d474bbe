-- What the finders of exchanges and of releases answer, over the stretches before a moment, is what the evidence of that moment says.
use Rattle.std.proofs.Common.{◌≡◌, ℕ, Option, Some, None, refl, ap, ◌∙◌}
use Rattle.std.specs.Prelude.{cond, option_map}
use Rattle.std.specs.Option.{option_or}
use Rattle.mq_rules.specs.declared.role.Role.{Role}
use Rattle.mq_rules.specs.declared.fate.Fate.{Fate}
use Rattle.mq_rules.specs.Words.{only}
use Rattle.mq_rules.specs.Notes.{released_id, received_exactly_once, received_as, sent_as, ended_in}
use Rattle.mq_rules.specs.Moments.{Moment, position, note, some, latest, earliest_since}
use Rattle.mq_rules.specs.Connections.{connection}
use Rattle.mq_rules.specs.Identifiers.{session_before}
use Rattle.mq_rules.specs.Exchanges.{Exchange, pubrec_pubrel, subscribe_suback, unsubscribe_unsuback, causes}
use Rattle.mq_rules.specs.Releases.{brings, ends, releases_message, first_brought}
use Rattle.mq_evidence.specs.Evidence.{in_past, by_filters, by_count, by_request, earliest, is_connack, later, some_session, answered_at, ended_with_session, end_of_asked, refusing_pubrec_in, refuses_id, end_of_confirmed, first_other, end_of_received}
use Rattle.mq_evidence.specs.Stretches.{Stretches, stretches_before, has_id}
use Rattle.mq_evidence.specs.Unanswered.{first_but}
use Rattle.mq_evidence.specs.Requests.{of_grant, of_too_much, of_unsuback, of_untruth}
use Rattle.mq_evidence.proofs.StretchLaws.{only-position, cond-position}

or-position : (a b : Option Moment) → option_map position (option_or a b) ≡ option_or (option_map position a) (option_map position b)
or-position None b = refl
or-position (Some m) b = refl

module _ (role : Role) (f : Fate) (i : ℕ) (k : Moment) where
  abbrev before : Stretches
  before = stretches_before role f k

  -- where the session began
  abbrev begun : Option ℕ
  begun = option_map position (earliest (is_connack role) before.session)

  -- E1A, E2A, E4A to E6A
  pub asked-is : (x : Exchange) → option_map position (end_of_asked x role f i k)
      ≡ option_or (option_map position (only (some (has_id x.cause i) before.session) (latest (has_id x.answer i) before.connection))) (only (some_session (has_id x.cause i) before.earlier) begun)
  asked-is x =
      or-position (answered_at x role f i k) (ended_with_session role f (causes x i) k)
      ∙ ap (option_or (option_map position (answered_at x role f i k))) (only-position (some_session (has_id x.cause i) before.earlier) (earliest (is_connack role) before.session))

  -- E3A
  pub confirmed-is : option_map position (end_of_confirmed role f i k)
      ≡ option_or (option_map position (later (latest (has_id (received_as refusing_pubrec_in) i) before.session)
      (only (some (has_id pubrec_pubrel.cause i) before.session) (latest (has_id pubrec_pubrel.answer i) before.connection)))) (only (some_session (has_id pubrec_pubrel.cause i) before.earlier) begun)
  confirmed-is =
      or-position (later (latest (refuses_id i) before.session) (answered_at pubrec_pubrel role f i k)) (ended_with_session role f (causes pubrec_pubrel i) k)
      ∙ ap (option_or (option_map position (later (latest (refuses_id i) before.session) (answered_at pubrec_pubrel role f i k))))
      (only-position (some_session (has_id pubrec_pubrel.cause i) before.earlier) (earliest (is_connack role) before.session))

  -- L1
  pub received-is : option_map position (end_of_received role f i k)
      ≡ cond (some (has_id received_exactly_once i) before.session) (option_map position (latest (has_id (sent_as ended_in) i) before.session))
      (only (some_session (has_id received_exactly_once i) before.earlier) begun)
  received-is =
      cond-position (some (brings i) before.session) (latest (ends i) before.session) (ended_with_session role f (brings i) k)
      ∙ ap (cond (some (brings i) before.session) (option_map position (latest (ends i) before.session)))
      (only-position (some_session (has_id received_exactly_once i) before.earlier) (earliest (is_connack role) before.session))

  -- L2 and L3
  pub released-is : latest (releases_message i) (session_before role f k) ≡ latest (has_id released_id i) before.session
  released-is = refl

  pub brought-is : first_brought role f i k ≡ earliest_since (has_id received_exactly_once i) (has_id (sent_as ended_in) i) before.session
  brought-is = refl

-- E1O to E3O
pub other-is : (x : Exchange) (i : ℕ) (k : Moment) → first_other x i k ≡ first_but x i (connection k.past)
other-is x i k = refl

-- B03 to B07
pub filters-are : by_filters ≡ in_past (λ k. of_grant (connection k.past) (note k))
filters-are = refl

pub count-are : by_count ≡ in_past (λ k. of_unsuback (connection k.past) (note k))
count-are = refl

pub request-are : by_request subscribe_suback ≡ in_past (λ k. of_too_much (connection k.past) (note k))
request-are = refl

pub untruth-are : by_request unsubscribe_unsuback ≡ in_past (λ k. of_untruth (connection k.past) (note k))
untruth-are = refl
