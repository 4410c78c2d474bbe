-- What is kept of the connections so far, with one event more.
use Rattle.std.proofs.Common.{◌≡◌, ℕ, ◌==◌, Bool, true, false, cond, ◌&&◌, ◌||◌, not, List, ◌∷◌, Option, Some, None, refl, ap, sym, ◌∙◌}
use Rattle.std.specs.Prelude.{is_some, is_none, option_map}
use Rattle.mq_rules.specs.declared.role.Role.{Role}
use Rattle.mq_rules.specs.declared.role.Role.TheVariants.{Client, Server}
use Rattle.mq_rules.specs.declared.fate.Fate.{Fate}
use Rattle.mq_rules.specs.declared.fate.Fate.TheVariants.{Void, Adrift, New, Forgotten, Resumed, Unasked, Unknown}
use Rattle.mq_rules.specs.declared.note.Note.{Note}
use Rattle.mq_rules.specs.declared.note.Seen.{Seen}
use Rattle.mq_log.specs.declared.kind.Direction.TheVariants as directions
use Rattle.mq_rules.specs.declared.bare.Bare.{Bare}
use Rattle.mq_rules.specs.declared.bare.BareFields.{BareFields}
use Rattle.mq_rules.specs.declared.bare.BareFields.TheVariants as bares
use Rattle.mq_rules.specs.declared.packet_note.PacketFields.{PacketFields}
use Rattle.mq_rules.specs.declared.history.History.{History}
use Rattle.mq_rules.specs.Words.{is_some_and}
use Rattle.mq_rules.specs.Notes.{bare_note, bare_fields, note_of_bare, is_open, is_close, decides, sent_item, sent_disconnect, needs_session}
use Rattle.mq_rules.specs.Moments.{newest, note, some}
use Rattle.mq_rules.specs.Connections.{begun, connection, first_connect, latest_outcome, accepted, resumed, begins, accepts_at, has_accepted, begins_session, may_change, disturbs, leaves, goes_on, is_unsettled, resumes_unknown, is_adrift, changes_session, asks_to_resume, has_none, fate_by_answer, gives_fate}
use Rattle.mq_rules.specs.Keeping.{kept, is_ordinary}
use Rattle.mq_rules.specs.Histories.{history, answered, accepts_now, begins_now, may_change_now, disturbs_now, leaves_now, goes_on_now, resumes_unknown_now, history_after, is_left_by, asks_to_resume_now, has_none_now, fate_now, gives_now}
use Rattle.mq_rules.proofs.ConnLaws.{kept-next, some-next}
use Rattle.mq_rules.proofs.BoolLaws.{and_false, both_true}
use Rattle.mq_rules.proofs.IdleLaws.{IsQuiet, ordinary-quiet, session-quiet, unchanged}

-- what the server has answered
answered-is : (role : Role) (past : List Seen) → latest_outcome role past ≡ answered (history role past)
unfolding history kept
answered-is role past = turned (begun past == 0) (Some Void) (kept role past).fate
  where
    turned : (b : Bool) (x y : Option Fate) → cond b x y ≡ cond (not b) y x
    turned true x y = refl
    turned false x y = refl

accepts-is : (role : Role) (e : Seen) (past : List Seen) → accepts_at role (newest e past) ≡ accepts_now role (history role past) e.note
accepts-is role e past = ap (λ o. is_none o && accepted (decides role e.note)) (answered-is role past)

pub begins-is : (role : Role) (e : Seen) (past : List Seen) → begins_session role (newest e past) ≡ begins_now role (history role past) e.note
unfolding history
begins-is role e past = ap (λ b. b && (begins (decides role e.note) || not (has_accepted role past))) (accepts-is role e past)

may_change-is : (role : Role) (past : List Seen) → may_change role (connection past) ≡ may_change_now role (history role past)
unfolding history kept
may_change-is Client past = refl
may_change-is Server past = refl

disturbs-is : (role : Role) (e : Seen) (past : List Seen) → disturbs role (newest e past) ≡ disturbs_now role (history role past) e.note
disturbs-is role e past =
    ap (λ o. is_close e.note && (is_none o && may_change role (connection past))) (answered-is role past)
    ∙ ap (λ b. is_close e.note && (is_none (answered (history role past)) && b)) (may_change-is role past)

leaves-is : (role : Role) (e : Seen) (past : List Seen) → leaves role (newest e past) ≡ leaves_now role (history role past) e.note
unfolding history kept
leaves-is Server e past = refl
leaves-is Client e past = ap (λ o. is_close e.note && (begins o && (is_some_and (λ c. not c.clean_start) (first_connect Client (connection past)) && not (some (goes_on Client) (connection past))))) (answered-is Client past)

goes_on-is : (role : Role) (e : Seen) (past : List Seen) → goes_on role (newest e past) ≡ goes_on_now (history role past) e.note
goes_on-is role e past = ap (λ o. is_some o && (is_some (sent_item e.note) && not (is_some (sent_disconnect e.note)))) (answered-is role past)

resumes_unknown-is : (role : Role) (e : Seen) (past : List Seen) → resumes_unknown role (newest e past) ≡ resumes_unknown_now role (history role past) e.note
unfolding history
resumes_unknown-is role e past = ap (λ b. b && (resumed (decides role e.note) && (has_accepted role past && is_unsettled role past))) (accepts-is role e past)

unsettled-is : (role : Role) (e : Seen) (past : List Seen) → is_unsettled role (e ∷ past) ≡ ((disturbs_now role (history role past) e.note || leaves_now role (history role past) e.note) || (not (begins_now role (history role past) e.note) && is_unsettled role past))
unsettled-is role e past =
    ap (λ b. (b || leaves role (newest e past)) || (not (begins_session role (newest e past)) && is_unsettled role past)) (disturbs-is role e past)
    ∙ ap (λ b. (disturbs_now role (history role past) e.note || b) || (not (begins_session role (newest e past)) && is_unsettled role past)) (leaves-is role e past)
    ∙ ap (λ b. (disturbs_now role (history role past) e.note || leaves_now role (history role past) e.note) || (not b && is_unsettled role past)) (begins-is role e past)

adrift-is : (role : Role) (e : Seen) (past : List Seen) → is_adrift role (e ∷ past) ≡ ((disturbs_now role (history role past) e.note || resumes_unknown_now role (history role past) e.note) || (not (begins_now role (history role past) e.note) && is_adrift role past))
adrift-is role e past =
    ap (λ b. (b || resumes_unknown role (newest e past)) || (not (begins_session role (newest e past)) && is_adrift role past)) (disturbs-is role e past)
    ∙ ap (λ b. (disturbs_now role (history role past) e.note || b) || (not (begins_session role (newest e past)) && is_adrift role past)) (resumes_unknown-is role e past)
    ∙ ap (λ b. (disturbs_now role (history role past) e.note || resumes_unknown_now role (history role past) e.note) || (not b && is_adrift role past)) (begins-is role e past)

changed-is : (e : Seen) (past : List Seen) → some (λ m. changes_session (note m)) (connection (e ∷ past)) ≡ (changes_session e.note || (not (is_open e.note) && some (λ m. changes_session (note m)) (connection past)))
changed-is e past = some-next (λ m. changes_session (note m)) e past

gone_on-is : (role : Role) (e : Seen) (past : List Seen) → some (goes_on role) (connection (e ∷ past)) ≡ (goes_on_now (history role past) e.note || (not (is_open e.note) && some (goes_on role) (connection past)))
gone_on-is role e past = some-next (goes_on role) e past ∙ ap (λ b. b || (not (is_open e.note) && some (goes_on role) (connection past))) (goes_on-is role e past)

-- what is kept
pub history-next : (role : Role) (e : Seen) (past : List Seen) → history role (e ∷ past) ≡ history_after role (history role past) e.note
unfolding history
history-next role e past = λ i. record {
  connection = kept-next role e past i;
  has_accepted = accepts_so i;
  unsettled = unsettled-is role e past i;
  adrift = adrift-is role e past i;
  changed = changed-is e past i;
  gone_on = gone_on-is role e past i;
}
  where
    accepts_so : has_accepted role (e ∷ past) ≡ (accepts_now role (history role past) e.note || has_accepted role past)
    accepts_so = ap (λ b. b || has_accepted role past) (accepts-is role e past)

-- what the event gives
pub gives-is : (role : Role) (e : Seen) (past : List Seen) → gives_fate role (newest e past) ≡ gives_now role (history role past) e.note
unfolding history kept gives_fate
gives-is role e past = go (decides role e.note)
  where
    asks : (r : Role) → asks_to_resume r (newest e past) ≡ asks_to_resume_now r (history r past)
    asks Client = refl
    asks Server = refl

    none : (r : Role) → has_none r (newest e past) ≡ has_none_now r (history r past)
    none Client = refl
    none Server = refl

    by_answer : (f : Fate) → fate_by_answer role (newest e past) f ≡ fate_now role (history role past) e.note f
    by_answer Void = ap (λ b. cond b Adrift Void) (adrift-is role e past)
    by_answer Adrift = refl
    by_answer New = ap (λ b. cond b Forgotten New) (asks role)
    by_answer Forgotten = refl
    by_answer Resumed =
        ap (λ b. cond b Unknown (cond (has_none role (newest e past)) Unasked Resumed)) (resumes_unknown-is role e past)
        ∙ ap (λ b. cond (resumes_unknown_now role (history role past) e.note) Unknown (cond b Unasked Resumed)) (none role)
    by_answer Unasked = refl
    by_answer Unknown = refl

    go : (o : Option Fate) → option_map (fate_by_answer role (newest e past)) o ≡ option_map (fate_now role (history role past) e.note) o
    go None = refl
    go (Some f) = ap Some (by_answer f)

-- ---- what leaves it as it is

pub history-left : (role : Role) (h : History) (n : Note) → is_left_by h n ≡ true → h ≡ history_after role h n
history-left role h n t = sym (λ i. record {
  connection = sym (unchanged role h.connection n first.0) i;
  has_accepted = ap (λ b. b || h.has_accepted) accepts_not i;
  unsettled = nothing disturbs_not (leaves_not role refl) h.unsettled i;
  adrift = nothing disturbs_not unknown_not h.adrift i;
  changed = kept (changes_session n) h.changed second.1 i;
  gone_on = kept_gone (answered h) h.gone_on (is_some (sent_item n)) (not (is_some (sent_disconnect n))) second.0 i;
})
  where
    first : ((h.connection.has_sent && is_ordinary n) ≡ true) × (((h.gone_on || not (is_some (sent_item n))) && (h.changed || not (changes_session n))) ≡ true)
    first = both_true (h.connection.has_sent && is_ordinary n) ((h.gone_on || not (is_some (sent_item n))) && (h.changed || not (changes_session n))) t

    second : ((h.gone_on || not (is_some (sent_item n))) ≡ true) × ((h.changed || not (changes_session n)) ≡ true)
    second = both_true (h.gone_on || not (is_some (sent_item n))) (h.changed || not (changes_session n)) first.1

    quiet : IsQuiet role n
    quiet = ordinary-quiet role n (both_true h.connection.has_sent (is_ordinary n) first.0).1

    accepts_not : accepts_now role h n ≡ false
    accepts_not = ap (λ o. is_none (answered h) && accepted o) quiet.decides_not ∙ and_false (is_none (answered h))

    begins_not : begins_now role h n ≡ false
    begins_not = ap (λ b. b && (begins (decides role n) || not h.has_accepted)) accepts_not

    disturbs_not : disturbs_now role h n ≡ false
    disturbs_not = ap (λ b. b && (is_none (answered h) && may_change_now role h)) quiet.closes

    leaves_not : (r : Role) → r ≡ role → leaves_now r h n ≡ false
    leaves_not Server is = refl
    leaves_not Client is = ap (λ b. b && (begins (answered h) && (is_some_and (λ c. not c.clean_start) h.connection.connect && not h.gone_on))) quiet.closes

    unknown_not : resumes_unknown_now role h n ≡ false
    unknown_not = ap (λ b. b && (resumed (decides role n) && (h.has_accepted && h.unsettled))) accepts_not

    nothing : {a b : Bool} → a ≡ false → b ≡ false → (x : Bool) → ((a || b) || (not (begins_now role h n) && x)) ≡ x
    nothing {a} {b} p q x = ap (λ y. (y || b) || (not (begins_now role h n) && x)) p ∙ ap (λ y. y || (not (begins_now role h n) && x)) q ∙ ap (λ y. not y && x) begins_not

    kept : (c x : Bool) → (x || not c) ≡ true → (c || (not (is_open n) && x)) ≡ x
    kept c x p = ap (λ b. c || (not b && x)) quiet.opens ∙ go c x p
      where
        go : (c x : Bool) → (x || not c) ≡ true → (c || x) ≡ x
        go true true p = refl
        go true false p = absurd (cc)
        go false x p = refl

    kept_gone : (o : Option Fate) (x s d : Bool) → (x || not s) ≡ true → ((is_some o && (s && d)) || (not (is_open n) && x)) ≡ x
    kept_gone o x s d p = ap (λ b. (is_some o && (s && d)) || (not b && x)) quiet.opens ∙ go (is_some o) s d x p
      where
        go : (a s d x : Bool) → (x || not s) ≡ true → ((a && (s && d)) || x) ≡ x
        go true true true true p = refl
        go true true true false p = absurd (cc)
        go true true false x p = refl
        go true false d x p = refl
        go false s d x p = refl

-- the same of a bare packet that is received, where something was sent, and nothing that changes a session was received
ordinary-received : (size : ℕ) (fields : BareFields) → is_ordinary (bare_note directions.Recv size (bare_fields directions.Recv fields)) ≡ true
ordinary-received size (bares.Publish identifier qos duplicate topic) = refl
ordinary-received size (bares.Puback identifier code) = refl
ordinary-received size (bares.Pubrec identifier code) = refl
ordinary-received size (bares.Pubrel identifier code) = refl
ordinary-received size (bares.Pubcomp identifier code) = refl
ordinary-received size bares.Pingreq = refl
ordinary-received size bares.Pingresp = refl

unsent-received : (size : ℕ) (fields : PacketFields) → is_some (sent_item (bare_note directions.Recv size fields)) ≡ false
unsent-received size fields = refl

pub left-received : (h : History) (b : Bare) (x : Bool) → h.connection.has_sent ≡ true → h.changed ≡ false → b.direction ≡ directions.Recv
    → ((size : ℕ) → x ≡ changes_session (bare_note directions.Recv size (bare_fields directions.Recv b.fields))) → not x ≡ is_left_by h (note_of_bare b)
unfolding note_of_bare
left-received h b x sent unchanged_yet towards is =
    sym (ap (λ d. is_left_by h (bare_note d b.size (bare_fields d b.fields))) towards
    ∙ ap (λ a. (a && is_ordinary n) && ((h.gone_on || true) && (h.changed || not (changes_session n)))) sent
    ∙ ap (λ o. o && ((h.gone_on || true) && (h.changed || not (changes_session n)))) (ordinary-received b.size b.fields)
    ∙ ap (λ c. (h.gone_on || true) && (c || not (changes_session n))) unchanged_yet
    ∙ or_true h.gone_on (not (changes_session n))
    ∙ ap not (sym (is b.size)))
  where
    n : Note
    n = bare_note directions.Recv b.size (bare_fields directions.Recv b.fields)

    or_true : (g y : Bool) → ((g || true) && y) ≡ y
    or_true true y = refl
    or_true false y = refl

-- ---- what needs a session

pub session-opens : (n : Note) → needs_session n ≡ true → is_open n ≡ false
session-opens n h = (session-quiet Client n h).opens

pub session-gives : (role : Role) (e : Seen) (past : List Seen) → needs_session e.note ≡ true → gives_fate role (newest e past) ≡ None
unfolding gives_fate
session-gives role e past h = ap (option_map (fate_by_answer role (newest e past))) (session-quiet role e.note h).decides_not
