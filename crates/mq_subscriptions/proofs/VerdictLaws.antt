-- What is said of a delivery by the subscriptions that match its topic: B08, B09, P01, P02, R01 and R02.
use Rattle.std.proofs.Common.{◌≡◌, ℕ, ◌+◌, ◌<◌, ◌==◌, nat_eq, nat_le, nat_lt, Bool, true, false, cond, ◌&&◌, ◌||◌, not, List, [], ◌∷◌, length, Option, Some, None, refl, ap, sym, subst, ◌∙◌}
use Rattle.std.specs.Prelude.{is_some, option_map, unwrap_or}
use Rattle.std.specs.Option.{option_and_then}
use Rattle.std.specs.List.{list_any, IsDistinct}
use Rattle.std.specs.Map.{keys_of}
use Rattle.mq_rules.specs.declared.role.Role.{Role}
use Rattle.mq_rules.specs.declared.role.Role.TheVariants.{Client, Server}
use Rattle.mq_rules.specs.declared.role.Further.{Further}
use Rattle.mq_rules.specs.declared.role.Tested.{Tested}
use Rattle.mq_rules.specs.declared.fate.Fate.{Fate}
use Rattle.mq_rules.specs.declared.rule.Rule.{Rule}
use Rattle.mq_rules.specs.declared.rule.Rule.TheVariants.{B01, B06, B08, B09, P01, P02, R01, R02}
use Rattle.mq_rules.specs.declared.note.Note.{Note}
use Rattle.mq_rules.specs.declared.note.Note.TheVariants as notes
use Rattle.mq_rules.specs.declared.note.Seen.{Seen}
use Rattle.mq_rules.specs.declared.packet_note.PublishNote.{PublishNote}
use Rattle.mq_rules.specs.declared.packet_note.ConnackNote.{ConnackNote}
use Rattle.mq_rules.specs.Words.{is_some_and}
use Rattle.mq_rules.specs.Notes.{is_acknowledged, is_open, qos_number, sent_publish, receives_unclear}
use Rattle.mq_rules.specs.Moments.{Moment, newest, note, is_next, some}
use Rattle.mq_rules.specs.Connections.{connection, is_connected, latest_fate, accepts, session, needs_connection, first_connack, IsOnConnection}
use Rattle.mq_rules.specs.Subscriptions.{last_set, topic_of, asks_to_share}
use Rattle.mq_rules.specs.FurtherSubscriptions.{is_clear_before, since_began}
use Rattle.mq_rules.specs.MatchingSubscriptions.{Subscribed, some_matching, is_matched_so, is_sharing, takes_identifiers, any_subscription, is_named, are_identified, are_unretained, are_shared, applies_B08, breaks_B08, applies_B09, breaks_B09, applies_P01, breaks_P01, applies_P02, breaks_P02, applies_R01, breaks_R01, applies_R02, breaks_R02}
use Rattle.mq_rules.specs.Rules.{binds, found_line, line_of, lines, same_rule}
use Rattle.mq_rules.specs.Statements.{statement, in_session}
use Rattle.mq_rules.specs.Faults.{offset_of}
use Rattle.mq_rules.specs.FaultKeys.{FaultMap}
use Rattle.mq_rules.specs.Under.{IsUnder, fate_before, turns_with}
use Rattle.mq_rules.specs.Occasions.{occasion, places_under}
use Rattle.mq_rules.specs.Growing.{Gains}
use Rattle.mq_rules.proofs.Exports.{and_false, on_open-connected}
use Rattle.mq_fates.specs.Judgements.{judged_by}
use Rattle.mq_fates.proofs.Exports.{counted-session, gains_judged, places-same, session-turns_with}
use Rattle.mq_subscriptions.specs.declared.subscribed.Subscriptions.{Subscriptions}
use Rattle.mq_subscriptions.specs.declared.subscribed.Matched.{Matched}
use Rattle.mq_subscriptions.specs.declared.matching.verdicts.Verdicts.{Verdicts}
use Rattle.mq_subscriptions.specs.Standings.{topic_kept}
use Rattle.mq_subscriptions.specs.Subscribings.{set_of, AreKept, AnswersAll}
use Rattle.mq_subscriptions.specs.Grouping.{of_matching}
use Rattle.mq_subscriptions.specs.Verdicts.{sought_of, sought_by, lacks, verdicts, breaks_by, tests_by, said_of, nothing, of_publish, of_note, of_event, refuses_identifiers, takes_by, Answered, Blames, IsBeside}
use Rattle.mq_subscriptions.proofs.MatchingLaws.{matched-answers, named-kept}

-- ---- what binds

binds-B09 : (role : Role) (releases : Bool) (further : Further) → binds B09 (record { role = role; releases = releases; further = further }) ≡ binds B08 (record { role = role; releases = releases; further = further })
unfolding line_of found_line lines
binds-B09 Client releases further = refl
binds-B09 Server releases further = refl

binds-P01 : (role : Role) (releases : Bool) (further : Further) → binds P01 (record { role = role; releases = releases; further = further }) ≡ binds B08 (record { role = role; releases = releases; further = further })
unfolding line_of found_line lines
binds-P01 Client releases further = refl
binds-P01 Server releases further = refl

binds-P02 : (role : Role) (releases : Bool) (further : Further) → binds P02 (record { role = role; releases = releases; further = further }) ≡ binds B08 (record { role = role; releases = releases; further = further })
unfolding line_of found_line lines
binds-P02 Client releases further = refl
binds-P02 Server releases further = refl

binds-R01 : (role : Role) (releases : Bool) (further : Further) → binds R01 (record { role = role; releases = releases; further = further }) ≡ binds B08 (record { role = role; releases = releases; further = further })
unfolding line_of found_line lines
binds-R01 Client releases further = refl
binds-R01 Server releases further = refl

binds-R02 : (role : Role) (releases : Bool) (further : Further) → binds R02 (record { role = role; releases = releases; further = further }) ≡ binds B08 (record { role = role; releases = releases; further = further })
unfolding line_of found_line lines
binds-R02 Client releases further = refl
binds-R02 Server releases further = refl

-- they are judged where B06 is, of a server alone, of which B01 is judged too
pub binds-B08 : (role : Role) (releases : Bool) (further : Further) → binds B08 (record { role = role; releases = releases; further = further }) ≡ binds B06 (record { role = role; releases = releases; further = further })
unfolding line_of found_line lines
binds-B08 Client releases further = refl
binds-B08 Server releases further = refl

pub binds-delivery : (role : Role) (releases : Bool) (further : Further) → binds B08 (record { role = role; releases = releases; further = further }) ≡ true → binds B01 (record { role = role; releases = releases; further = further }) ≡ true
unfolding line_of found_line lines
binds-delivery Client releases further h = absurd (cc)
binds-delivery Server releases further h = refl

binds-server : (role : Role) (releases : Bool) (further : Further) → binds B08 (record { role = role; releases = releases; further = further }) ≡ true → role ≡ Server
unfolding line_of found_line lines
binds-server Client releases further h = absurd (cc)
binds-server Server releases further h = refl

-- ---- one statement that is judged at an event

gains-by : (tested : Tested) (rule : Rule) (breaks : Fate → Moment → Bool) → statement tested.role rule ≡ in_session breaks → ((m : Option Moment) → offset_of (statement tested.role rule) m ≡ None) → (f : Fate) (at : ℕ) (e : Seen) (past : List Seen) (m : FaultMap) (bound b : Bool)
    → IsUnder tested f at e past → bound ≡ binds rule tested → b ≡ (bound && (accepts f && breaks f (newest e past))) → Gains (λ k r. same_rule r rule && turns_with tested f e past k r) tested (e ∷ past) at m (judged_by b rule e.place at m)
gains-by tested rule breaks says plain f at e past m bound b under judged is =
    gains_judged tested rule f e past at m b plain under.follows.placed.0 (λ k.
    session-turns_with tested rule breaks says f e past k
    ∙ ap (λ t. is_next past k && (t && (accepts f && breaks f (newest e past)))) (sym judged)
    ∙ ap (λ t. is_next past k && t) (sym is))

places-by : (tested : Tested) (rule : Rule) (applies : Fate → Moment → Bool) → occasion tested.role rule ≡ Some (in_session applies) → (f : Fate) (at : ℕ) (e : Seen) (past : List Seen) (bound here : Bool) (old new : ℕ)
    → IsUnder tested f at e past → bound ≡ binds rule tested → old ≡ places_under tested (fate_before tested f e past) past rule → here ≡ (bound && (accepts f && applies f (newest e past)))
    → (old < e.place.position → new ≡ cond here 1 0 + old) → new ≡ places_under tested (Some f) (e ∷ past) rule
places-by tested rule applies says f at e past bound here old new under judged was is more =
    counted-session tested rule applies says f at e past here old new under was (is ∙ ap (λ t. t && (accepts f && applies f (newest e past))) judged) more

-- ---- what is asked

-- what was found answers it
pub sought-same : (m : Matched) (matching : (Subscribed → Bool) → Bool) → AnswersAll m matching → sought_by m ≡ sought_of matching
sought-same m matching a = λ i. record {
  any = sym a.any_is i;
  within = λ qos. sym (a.ceiling_is qos) i;
  unidentified = sym a.unidentified_is i;
  retained = sym a.retained_is i;
  in_vain = sym a.in_vain_is i;
}

-- so does what was found under Subscription Identifiers
pub lacks-same : (test by : ℕ → Bool) (identifiers : List ℕ) → ((i : ℕ) → test i ≡ by i) → list_any (λ i. not (by i)) identifiers ≡ list_any (λ i. not (test i)) identifiers
lacks-same test by identifiers same = λ x. list_any (λ i. not (sym (same i) x)) identifiers

-- a PUBLISH is sent on a connection that is open, and opens none
publish-needs : (n : Note) (p : PublishNote) → sent_publish n ≡ Some p → (needs_connection n ≡ true) × (is_open n ≡ false)
publish-needs (notes.Sent item) p h = (refl, refl)
publish-needs _ p h = absurd (cc)

module _ (tested : Tested) (f : Fate) (s : Subscriptions) (sharing unclear : Bool) (refusing : Option Bool) (topics : ℕ → Option (List ℕ)) (e : Seen) (past : List Seen) (on : IsOnConnection e past) where
  abbrev k : Moment
  k = newest e past

  abbrev matching : List ℕ → (Subscribed → Bool) → Bool
  matching topic = some_matching tested.role f k topic

  abbrev pub say : Bool → PublishNote → List ℕ → Verdicts
  say wide p topic = said_of wide sharing (takes_by refusing) p (matching topic)

  same-fate : (p : PublishNote) → sent_publish e.note ≡ Some p → fate_before tested f e past ≡ Some f
  same-fate p h = ap (λ b. cond b (latest_fate tested.role past) (Some f)) (publish-needs e.note p h).1

  -- the subscriptions that are kept answer it
  pub answered : (bound : Bool) → (bound ≡ true → AreKept s tested (fate_before tested f e past) past) → bound ≡ true → accepts f ≡ true → (p : PublishNote) → sent_publish e.note ≡ Some p → Answered s matching
  answered bound kept is taken p h =
      let kept_now : AreKept s tested (Some f) past = subst (λ o. AreKept s tested o past) (same-fate p h) (kept is) in
      record {
        each = λ topic m said. matched-answers tested f k s topic m kept_now said;
        named_is = λ topic i distinct. named-kept tested f k s topic i kept_now distinct;
      }

  module _ (beside : IsBeside sharing unclear refusing topics tested (Some f) past) where
    sharing-is : sharing ≡ is_sharing tested.role f k
    sharing-is = beside.sharing_is

    clear-is : not unclear ≡ is_clear_before tested.role f k
    clear-is = ap not beside.unclear_is

    takes-is : tested.role ≡ Server → is_connected past ≡ true → takes_by refusing ≡ takes_identifiers tested.role k
    takes-is server connected =
        ap takes_by beside.refusing_is
        ∙ ap (λ ms. takes_by (option_map refuses_identifiers (first_connack Server ms))) (on_open-connected past connected)
        ∙ by (first_connack Server (connection past))
        ∙ ap (λ role. not (is_some_and (λ a. refuses_identifiers a) (first_connack role (connection past)))) (sym server)
      where
        by : (o : Option ConnackNote) → takes_by (option_map refuses_identifiers o) ≡ not (is_some_and (λ a. refuses_identifiers a) o)
        by None = refl
        by (Some a) = refl

    topic-is : (p : PublishNote) → is_connected past ≡ true → topic_of k p ≡ topic_kept topics p
    topic-is p connected = ap (λ o. cond (length p.topic == 0) o (Some p.topic)) (by p.topic_alias)
      where
        by : (o : Option ℕ) → option_and_then (λ alias. last_set alias (connection past)) o ≡ option_and_then topics o
        by None = refl
        by (Some alias) = ap (last_set alias) (sym (on_open-connected past connected)) ∙ sym (beside.topics_are alias)

  -- one of the verdicts on the event is that of a test
  module _ (field : Verdicts → Bool) (none : field nothing ≡ false) (wide : Bool) (test : PublishNote → ((Subscribed → Bool) → Bool) → Bool) where
    abbrev Same : Type 0
    Same = tested.role ≡ Server → is_connected past ≡ true → IsBeside sharing unclear refusing topics tested (Some f) past → (p : PublishNote) (topic : List ℕ) → field (say wide p topic) ≡ test p (matching topic)

    of-topic : (p : PublishNote) → ((topic : List ℕ) → field (say wide p topic) ≡ test p (matching topic)) → (o : Option (List ℕ))
        → field (unwrap_or (option_map (say wide p) o) nothing) ≡ is_some_and (λ topic. test p (matching topic)) o
    of-topic p same None = none
    of-topic p same (Some topic) = same topic

    of-duplicate : (p : PublishNote) → ((topic : List ℕ) → field (say wide p topic) ≡ test p (matching topic)) → (o : Option (List ℕ)) (d : Bool)
        → field (cond d nothing (unwrap_or (option_map (say wide p) o) nothing)) ≡ (not d && is_some_and (λ topic. test p (matching topic)) o)
    of-duplicate p same o true = none
    of-duplicate p same o false = of-topic p same o

    of-unclear : (v : Verdicts) (b : Bool) → field v ≡ b → (u : Bool) → field (cond u nothing v) ≡ (not u && b)
    of-unclear v b is true = none
    of-unclear v b is false = is

    of-sent : tested.role ≡ Server → Same → IsBeside sharing unclear refusing topics tested (fate_before tested f e past) past → (o : Option PublishNote) → sent_publish e.note ≡ o
        → field (cond unclear nothing (unwrap_or (option_map (of_publish (say wide) topics) o) nothing))
        ≡ (is_clear_before tested.role f k && is_some_and (λ p. not p.duplicate && is_some_and (λ topic. test p (matching topic)) (topic_of k p)) o)
    of-sent server same b None h = of-unclear nothing false none unclear ∙ and_false (not unclear) ∙ sym (and_false (is_clear_before tested.role f k))
    of-sent server same b (Some p) h =
        of-unclear (of_publish (say wide) topics p) (not p.duplicate && is_some_and (λ topic. test p (matching topic)) (topic_kept topics p)) (of-duplicate p (same server connected beside p) (topic_kept topics p) p.duplicate) unclear
        ∙ ap (λ c. c && (not p.duplicate && is_some_and (λ topic. test p (matching topic)) (topic_kept topics p))) (clear-is beside)
        ∙ ap (λ o. is_clear_before tested.role f k && (not p.duplicate && is_some_and (λ topic. test p (matching topic)) o)) (sym (topic-is beside p connected))
      where
        connected : is_connected past ≡ true
        connected = on (publish-needs e.note p h).0

        beside : IsBeside sharing unclear refusing topics tested (Some f) past
        beside = subst (λ o. IsBeside sharing unclear refusing topics tested o past) (same-fate p h) b

    pub of-judged : (bound : Bool) → (bound ≡ true → tested.role ≡ Server) → Same → (bound ≡ true → IsBeside sharing unclear refusing topics tested (fate_before tested f e past) past)
        → field (of_event bound f unclear (say wide) topics e.note) ≡ (bound && (accepts f && is_matched_so tested.role f k test))
    of-judged true server same b = go (accepts f)
      where
        go : (a : Bool) → field (cond a (cond unclear nothing (of_note (say wide) topics e.note)) nothing) ≡ (a && is_matched_so tested.role f k test)
        go true = of-sent (server refl) same (b refl) (sent_publish e.note) refl
        go false = none
    of-judged false server same b = none

  -- what is said of an event is what it breaks, and what it puts to the test
  module _ (bound : Bool) (judged : bound ≡ binds B08 tested) (b : bound ≡ true → IsBeside sharing unclear refusing topics tested (fate_before tested f e past) past) where
    server : bound ≡ true → tested.role ≡ Server
    server h = binds-server tested.role tested.releases tested.further (sym judged ∙ h)

    broken-B08 : (of_event bound f unclear (say false) topics e.note).matched ≡ (bound && (accepts f && breaks_B08 tested.role f k))
    unfolding breaks_B08
    broken-B08 = of-judged (λ v. v.matched) refl false (λ p matching. is_sharing tested.role f k && not (matching any_subscription)) bound server (λ server connected beside p topic. ap (λ c. c && not (matching topic any_subscription)) (sharing-is beside)) b

    broken-B09 : (of_event bound f unclear (say false) topics e.note).granted ≡ (bound && (accepts f && breaks_B09 tested.role f k))
    unfolding breaks_B09
    broken-B09 = of-judged (λ v. v.granted) refl false (λ p matching. is_sharing tested.role f k && (matching any_subscription && not (matching (λ s. nat_le (qos_number p.qos) s.ceiling)))) bound server (λ server connected beside p topic. ap (λ c. c && (matching topic any_subscription && not (matching topic (λ s. nat_le (qos_number p.qos) s.ceiling)))) (sharing-is beside)) b

    broken-P01 : (of_event bound f unclear (say false) topics e.note).named ≡ (bound && (accepts f && breaks_P01 tested.role f k))
    unfolding breaks_P01
    broken-P01 = of-judged (λ v. v.named) refl false (λ p matching. matching any_subscription && list_any (λ i. not (matching (is_named i))) p.subscription_identifiers) bound server (λ server connected beside p topic. refl) b

    broken-P02 : (of_event bound f unclear (say false) topics e.note).identified ≡ (bound && (accepts f && breaks_P02 tested.role f k))
    unfolding breaks_P02
    broken-P02 = of-judged (λ v. v.identified) refl false (λ p matching. (takes_identifiers tested.role k && are_identified matching) && not p.has_subscription_identifier) bound server (λ server connected beside p topic. ap (λ c. (c && are_identified (matching topic)) && not p.has_subscription_identifier) (takes-is beside server connected)) b

    broken-R01 : (of_event bound f unclear (say false) topics e.note).unretained ≡ (bound && (accepts f && breaks_R01 tested.role f k))
    unfolding breaks_R01
    broken-R01 = of-judged (λ v. v.unretained) refl false (λ p matching. are_unretained matching && p.retain) bound server (λ server connected beside p topic. refl) b

    broken-R02 : (of_event bound f unclear (say false) topics e.note).unshared ≡ (bound && (accepts f && breaks_R02 tested.role f k))
    unfolding breaks_R02
    broken-R02 = of-judged (λ v. v.unshared) refl false (λ p matching. are_shared matching && p.retain) bound server (λ server connected beside p topic. refl) b

    tested-B08 : (of_event bound f unclear (say true) topics e.note).matched ≡ (bound && (accepts f && applies_B08 tested.role f k))
    unfolding applies_B08
    tested-B08 = of-judged (λ v. v.matched) refl true (λ p matching. is_sharing tested.role f k) bound server (λ server connected beside p topic. sharing-is beside) b

    tested-B09 : (of_event bound f unclear (say true) topics e.note).granted ≡ (bound && (accepts f && applies_B09 tested.role f k))
    unfolding applies_B09
    tested-B09 = of-judged (λ v. v.granted) refl true (λ p matching. is_sharing tested.role f k && is_acknowledged p.qos) bound server (λ server connected beside p topic. ap (λ c. c && is_acknowledged p.qos) (sharing-is beside)) b

    tested-P01 : (of_event bound f unclear (say true) topics e.note).named ≡ (bound && (accepts f && applies_P01 tested.role f k))
    unfolding applies_P01
    tested-P01 = of-judged (λ v. v.named) refl true (λ p matching. nat_lt 0 (length p.subscription_identifiers) && matching any_subscription) bound server (λ server connected beside p topic. refl) b

    tested-P02 : (of_event bound f unclear (say true) topics e.note).identified ≡ (bound && (accepts f && applies_P02 tested.role f k))
    unfolding applies_P02
    tested-P02 = of-judged (λ v. v.identified) refl true (λ p matching. takes_identifiers tested.role k && are_identified matching) bound server (λ server connected beside p topic. ap (λ c. c && are_identified (matching topic)) (takes-is beside server connected)) b

    tested-R01 : (of_event bound f unclear (say true) topics e.note).unretained ≡ (bound && (accepts f && applies_R01 tested.role f k))
    unfolding applies_R01
    tested-R01 = of-judged (λ v. v.unretained) refl true (λ p matching. are_unretained matching) bound server (λ server connected beside p topic. refl) b

    tested-R02 : (of_event bound f unclear (say true) topics e.note).unshared ≡ (bound && (accepts f && applies_R02 tested.role f k))
    unfolding applies_R02
    tested-R02 = of-judged (λ v. v.unshared) refl true (λ p matching. are_shared matching) bound server (λ server connected beside p topic. refl) b

    -- the faults that are added are those that turn out
    pub blames : (at : ℕ) → IsUnder tested f at e past → Blames (λ i r. turns_with tested f e past i r) (of_event bound f unclear (say false) topics e.note) e.place at tested (e ∷ past)
    blames at under = record {
      of_B08 = λ m. gains-by tested B08 (breaks_B08 tested.role) refl (λ o. refl) f at e past m bound (of_event bound f unclear (say false) topics e.note).matched under judged broken-B08;
      of_B09 = λ m. gains-by tested B09 (breaks_B09 tested.role) refl (λ o. refl) f at e past m bound (of_event bound f unclear (say false) topics e.note).granted under (judged ∙ sym (binds-B09 tested.role tested.releases tested.further)) broken-B09;
      of_P01 = λ m. gains-by tested P01 (breaks_P01 tested.role) refl (λ o. refl) f at e past m bound (of_event bound f unclear (say false) topics e.note).named under (judged ∙ sym (binds-P01 tested.role tested.releases tested.further)) broken-P01;
      of_P02 = λ m. gains-by tested P02 (breaks_P02 tested.role) refl (λ o. refl) f at e past m bound (of_event bound f unclear (say false) topics e.note).identified under (judged ∙ sym (binds-P02 tested.role tested.releases tested.further)) broken-P02;
      of_R01 = λ m. gains-by tested R01 (breaks_R01 tested.role) refl (λ o. refl) f at e past m bound (of_event bound f unclear (say false) topics e.note).unretained under (judged ∙ sym (binds-R01 tested.role tested.releases tested.further)) broken-R01;
      of_R02 = λ m. gains-by tested R02 (breaks_R02 tested.role) refl (λ o. refl) f at e past m bound (of_event bound f unclear (say false) topics e.note).unshared under (judged ∙ sym (binds-R02 tested.role tested.releases tested.further)) broken-R02;
    }

    pub places-B08 : (at old new : ℕ) (v : Verdicts) → IsUnder tested f at e past → v ≡ of_event bound f unclear (say true) topics e.note → old ≡ places_under tested (fate_before tested f e past) past B08
        → (old < e.place.position → new ≡ cond v.matched 1 0 + old) → new ≡ places_under tested (Some f) (e ∷ past) B08
    places-B08 at old new v under is was more = places-by tested B08 (applies_B08 tested.role) refl f at e past bound v.matched old new under judged was (ap (λ w. w.matched) is ∙ tested-B08) more

    pub places-B09 : (at old new : ℕ) (v : Verdicts) → IsUnder tested f at e past → v ≡ of_event bound f unclear (say true) topics e.note → old ≡ places_under tested (fate_before tested f e past) past B09
        → (old < e.place.position → new ≡ cond v.granted 1 0 + old) → new ≡ places_under tested (Some f) (e ∷ past) B09
    places-B09 at old new v under is was more = places-by tested B09 (applies_B09 tested.role) refl f at e past bound v.granted old new under (judged ∙ sym (binds-B09 tested.role tested.releases tested.further)) was (ap (λ w. w.granted) is ∙ tested-B09) more

    pub places-P01 : (at old new : ℕ) (v : Verdicts) → IsUnder tested f at e past → v ≡ of_event bound f unclear (say true) topics e.note → old ≡ places_under tested (fate_before tested f e past) past P01
        → (old < e.place.position → new ≡ cond v.named 1 0 + old) → new ≡ places_under tested (Some f) (e ∷ past) P01
    places-P01 at old new v under is was more = places-by tested P01 (applies_P01 tested.role) refl f at e past bound v.named old new under (judged ∙ sym (binds-P01 tested.role tested.releases tested.further)) was (ap (λ w. w.named) is ∙ tested-P01) more

    pub places-P02 : (at old new : ℕ) (v : Verdicts) → IsUnder tested f at e past → v ≡ of_event bound f unclear (say true) topics e.note → old ≡ places_under tested (fate_before tested f e past) past P02
        → (old < e.place.position → new ≡ cond v.identified 1 0 + old) → new ≡ places_under tested (Some f) (e ∷ past) P02
    places-P02 at old new v under is was more = places-by tested P02 (applies_P02 tested.role) refl f at e past bound v.identified old new under (judged ∙ sym (binds-P02 tested.role tested.releases tested.further)) was (ap (λ w. w.identified) is ∙ tested-P02) more

    pub places-R01 : (at old new : ℕ) (v : Verdicts) → IsUnder tested f at e past → v ≡ of_event bound f unclear (say true) topics e.note → old ≡ places_under tested (fate_before tested f e past) past R01
        → (old < e.place.position → new ≡ cond v.unretained 1 0 + old) → new ≡ places_under tested (Some f) (e ∷ past) R01
    places-R01 at old new v under is was more = places-by tested R01 (applies_R01 tested.role) refl f at e past bound v.unretained old new under (judged ∙ sym (binds-R01 tested.role tested.releases tested.further)) was (ap (λ w. w.unretained) is ∙ tested-R01) more

    pub places-R02 : (at old new : ℕ) (v : Verdicts) → IsUnder tested f at e past → v ≡ of_event bound f unclear (say true) topics e.note → old ≡ places_under tested (fate_before tested f e past) past R02
        → (old < e.place.position → new ≡ cond v.unshared 1 0 + old) → new ≡ places_under tested (Some f) (e ∷ past) R02
    places-R02 at old new v under is was more = places-by tested R02 (applies_R02 tested.role) refl f at e past bound v.unshared old new under (judged ∙ sym (binds-R02 tested.role tested.releases tested.further)) was (ap (λ w. w.unshared) is ∙ tested-R02) more

-- ---- what is counted of the six is what is asked of one of them

pub matching-picked : (tested : Tested) (taken : Option Fate) (past : List Seen) (a b n c d g : ℕ) (rule : Rule) → a ≡ places_under tested taken past B08 → b ≡ places_under tested taken past B09
    → n ≡ places_under tested taken past P01 → c ≡ places_under tested taken past P02 → d ≡ places_under tested taken past R01 → g ≡ places_under tested taken past R02
    → of_matching rule ≡ true
    → cond (same_rule rule B08) a (cond (same_rule rule B09) b (cond (same_rule rule P01) n (cond (same_rule rule P02) c (cond (same_rule rule R01) d g)))) ≡ places_under tested taken past rule
matching-picked tested taken past a b n c d g rule of_a of_b of_n of_c of_d of_g judged = first (same_rule rule B08) refl judged
  where
    fifth : (t : Bool) → same_rule rule R01 ≡ t → (t || same_rule rule R02) ≡ true → cond t d g ≡ places_under tested taken past rule
    fifth true is h = places-same tested taken past R01 rule d of_d is
    fifth false is h = places-same tested taken past R02 rule g of_g h

    fourth : (t : Bool) → same_rule rule P02 ≡ t → (t || (same_rule rule R01 || same_rule rule R02)) ≡ true → cond t c (cond (same_rule rule R01) d g) ≡ places_under tested taken past rule
    fourth true is h = places-same tested taken past P02 rule c of_c is
    fourth false is h = fifth (same_rule rule R01) refl h

    third : (t : Bool) → same_rule rule P01 ≡ t → (t || (same_rule rule P02 || (same_rule rule R01 || same_rule rule R02))) ≡ true
        → cond t n (cond (same_rule rule P02) c (cond (same_rule rule R01) d g)) ≡ places_under tested taken past rule
    third true is h = places-same tested taken past P01 rule n of_n is
    third false is h = fourth (same_rule rule P02) refl h

    second : (t : Bool) → same_rule rule B09 ≡ t → (t || (same_rule rule P01 || (same_rule rule P02 || (same_rule rule R01 || same_rule rule R02)))) ≡ true
        → cond t b (cond (same_rule rule P01) n (cond (same_rule rule P02) c (cond (same_rule rule R01) d g))) ≡ places_under tested taken past rule
    second true is h = places-same tested taken past B09 rule b of_b is
    second false is h = third (same_rule rule P01) refl h

    first : (t : Bool) → same_rule rule B08 ≡ t → (t || (same_rule rule B09 || (same_rule rule P01 || (same_rule rule P02 || (same_rule rule R01 || same_rule rule R02))))) ≡ true
        → cond t a (cond (same_rule rule B09) b (cond (same_rule rule P01) n (cond (same_rule rule P02) c (cond (same_rule rule R01) d g)))) ≡ places_under tested taken past rule
    first true is h = places-same tested taken past B08 rule a of_a is
    first false is h = second (same_rule rule B09) refl h
