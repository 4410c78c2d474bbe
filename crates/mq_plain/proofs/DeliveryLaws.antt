-- Topics and standing filters, found by looking back over a session event by event.
use Rattle.std.proofs.Common.{◌≡◌, ℕ, ◌+◌, ◌≤◌, ◌==◌, nat_lt, nat_le, arith, drop, append_assoc, Bool, true, false, cond, ◌&&◌, ◌||◌, not, List, [], ◌∷◌, ◌++◌, length, Option, Some, None, unwrap_or, option_map, refl, ap, sym, ◌∙◌}
use Rattle.std.specs.Prelude.{reverse}
use Rattle.mq_rules.specs.declared.role.Role.{Role}
use Rattle.mq_rules.specs.declared.fate.Fate.{Fate}
use Rattle.mq_rules.specs.declared.note.Seen.{Seen}
use Rattle.mq_rules.specs.Words.{is_some_and}
use Rattle.mq_rules.specs.Notes.{is_open, is_release, Subscription, received_subscription, sent_publish, qos_number}
use Rattle.mq_rules.specs.Moments.{Moment, newest, note, some, those, first_found, is_after}
use Rattle.mq_rules.specs.Connections.{begun, number, of_connection, connection, latest_fate, accepted, voided, begins, any_accepted, has_session, with_first, session}
use Rattle.mq_rules.specs.Subscriptions.{Standing, granted, codes_under, standing_from, standing_of, standing_at, is_shared, asks_to_share, topic_of, topic_set, last_set, breaks_B01, breaks_B02}
use Rattle.mq_rules.specs.Identifiers.{session_before}
use Rattle.mq_rules.specs.declared.packet_note.PublishNote.{PublishNote}
use Rattle.mq_topic.specs.Matching.{matches}
use Rattle.mq_plain.specs.Deliveries.{allows, codes_ahead, subscribes_to, judged_topic}
use Rattle.std.specs.List.{list_any}
use Rattle.std.proofs.Math.Seq.{drop-append_seam}
use Rattle.std.proofs.lemmas.List.{reverse-append, reverse-reverse, length-append}
use Rattle.std.proofs.lemmas.List.Folds.{list_any-append}
use Rattle.mq_rules.proofs.Exports.{and_false, connection-next}
use Rattle.mq_rules.specs.declared.note.Note.{Note}
use Rattle.mq_rules.specs.declared.note.Note.TheVariants as notes
use Rattle.std.proofs.lemmas.Bool.{ne_eqb, eq-eqb}
use Rattle.std.proofs.lemmas.Bool.Decides.{nat_tests}
use Rattle.std.specs.Option.{option_or}

-- ---- topics

-- the Topic Name that was last set, one event further back
pub last_set-next : (alias : ℕ) (e : Seen) (past : List Seen) → last_set alias (connection (e ∷ past)) ≡ option_or (topic_set alias e.note) (cond (is_open e.note) None (last_set alias (connection past)))
last_set-next alias e past = ap (last_set alias) (connection-next e past) ∙ go (is_open e.note)
  where
    go : (b : Bool) → last_set alias (cond b (newest e past ∷ []) (newest e past ∷ connection past)) ≡ option_or (topic_set alias e.note) (cond b None (last_set alias (connection past)))
    go true = refl
    go false = refl

pub last_set-open : (alias : ℕ) (e : Seen) (past : List Seen) → topic_set alias e.note ≡ None → is_open e.note ≡ true → last_set alias (connection (e ∷ past)) ≡ None
last_set-open alias e past unset opens =
    last_set-next alias e past ∙ (ap (λ o. option_or o (cond (is_open e.note) None (last_set alias (connection past)))) unset ∙ ap (λ b. cond b None (last_set alias (connection past))) opens)

-- ---- what RELEASEs don't pass, looked for in a session

-- one event further back
some_back : (test : Moment → Bool) (role : Role) (f g : Option Fate) (e : Seen) (past : List Seen) (here over : Bool)
    → (is_release e.note ≡ true → test (newest e past) ≡ false) → here ≡ (accepted f && test (newest e past)) → over ≡ (is_open e.note && begins f) → g ≡ cond (is_open e.note) (latest_fate role past) f
    → some test (session role f (e ∷ past)) ≡ (here || (not over && some test (session role g past)))
some_back test role f g e past here over idle is_here is_over before =
    first (has_session role f e past) (is_open e.note) (begins f)
    ∙ (ap (λ b. b || rest) (inside (accepted f) (is_release e.note) (voided f && any_accepted role f past) idle ∙ sym is_here)
    ∙ ap (λ b. here || b) (ap (λ b. not b && some test (session role (cond (is_open e.note) (latest_fate role past) f) past)) (sym is_over) ∙ ap (λ o. not over && some test (session role o past)) (sym before)))
  where
    rest : Bool
    rest = not (is_open e.note && begins f) && some test (session role (cond (is_open e.note) (latest_fate role past) f) past)

    inside : (a r v : Bool) → (r ≡ true → test (newest e past) ≡ false) → ((a || (r && v)) && test (newest e past)) ≡ (a && test (newest e past))
    inside true r v h = refl
    inside false false v h = refl
    inside false true v h = ap (λ t. v && t) (h refl) ∙ and_false v

    first : (b o n : Bool) → some test (with_first b (newest e past) (cond o (cond n [] (session role (latest_fate role past) past)) (session role f past)))
        ≡ ((b && test (newest e past)) || (not (o && n) && some test (session role (cond o (latest_fate role past) f) past)))
    first true true true = refl
    first true true false = refl
    first true false n = refl
    first false true true = refl
    first false true false = refl
    first false false n = refl

-- a RELEASE asks for no shared subscription
unshared : (n : Note) → is_release n ≡ true → is_some_and (λ s. list_any is_shared s.filters) (received_subscription n) ≡ false
unshared notes.Open h = refl
unshared (notes.Close cuts part) h = refl
unshared notes.Rest h = refl
unshared (notes.Release identifier) h = refl
unshared (notes.Sent item) h = refl
unshared (notes.Recv item) h = absurd (cc)

pub sharing_back : (role : Role) (f g : Option Fate) (earlier rest : List Seen) (e : Seen) (here over : Bool) → earlier ≡ rest ++ e ∷ []
    → here ≡ (accepted f && is_some_and (λ s. list_any is_shared s.filters) (received_subscription e.note)) → over ≡ (is_open e.note && begins f) → g ≡ cond (is_open e.note) (latest_fate role (reverse rest)) f
    → some asks_to_share (session role f (reverse earlier)) ≡ (here || (not over && some asks_to_share (session role g (reverse rest))))
sharing_back role f g earlier rest e here over last is_here is_over before =
    ap (λ es. some asks_to_share (session role f es)) (ap reverse last ∙ reverse-append rest (e ∷ []))
    ∙ some_back asks_to_share role f g e (reverse rest) here over (unshared e.note) is_here is_over before

-- ---- standing filters

-- some filter that stands at k passes the test, as some SUBSCRIBE has one
pub standing-some : (test : Standing → Bool) (k : Moment) (ms : List Moment) → list_any test (standing_of k ms) ≡ some (λ j. list_any test (standing_from k j)) ms
standing-some test k [] = refl
standing-some test k (j ∷ js) = list_any-append test (standing_from k j) (standing_of k js) ∙ ap (λ b. list_any test (standing_from k j) || b) (standing-some test k js)

opens : Seen → Bool
opens e = is_open e.note

-- the connections that have begun are no fewer with more events, and as many where none of these is an OPEN
begun-more : (later base : List Seen) → begun base ≤ begun (later ++ base)
begun-more [] base = omega arith
begun-more (x ∷ later) base = go (is_open x.note) (begun-more later base)
  where
    go : (b : Bool) → begun base ≤ begun (later ++ base) → begun base ≤ cond b 1 0 + begun (later ++ base)
    go true h = omega arith
    go false h = omega arith

begun-same : (later base : List Seen) → (begun (later ++ base) == begun base) ≡ not (list_any opens later)
unfolding opens
begun-same [] base = eq-eqb (begun base) (begun base) refl
begun-same (x ∷ later) base = go (is_open x.note) (begun-more later base) (begun-same later base)
  where
    go : (b : Bool) → begun base ≤ begun (later ++ base) → (begun (later ++ base) == begun base) ≡ not (list_any opens later)
        → ((cond b 1 0 + begun (later ++ base)) == begun base) ≡ not (b || list_any opens later)
    go true more same = ne_eqb (1 + begun (later ++ base)) (begun base) (λ alike. absurd (omega arith))
    go false more same = let none : 0 + begun (later ++ base) ≡ begun (later ++ base) = omega arith in ap (λ n. n == begun base) none ∙ same

one_back : (x : Seen) (xs : List Seen) → reverse (x ∷ xs) ≡ reverse xs ++ x ∷ []
one_back x xs = reverse-append (x ∷ []) xs

or_false : (a : Bool) → (a || false) ≡ a
or_false true = refl
or_false false = refl

or-turn : (a b : Bool) → (a || b) ≡ (b || a)
or-turn true true = refl
or-turn true false = refl
or-turn false true = refl
or-turn false false = refl

any-reverse : (test : Seen → Bool) (xs : List Seen) → list_any test (reverse xs) ≡ list_any test xs
any-reverse test [] = refl
any-reverse test (x ∷ xs) =
    ap (list_any test) (one_back x xs) ∙ (list_any-append test (reverse xs) (x ∷ []) ∙ (ap (λ b. b || (test x || false)) (any-reverse test xs)
    ∙ (ap (λ b. list_any test xs || b) (or_false (test x)) ∙ or-turn (list_any test xs) (test x))))

-- one event more after the others counts where none is an OPEN
ahead-last : (i : ℕ) (xs : List Seen) (x : Seen) → codes_ahead i (xs ++ x ∷ []) ≡ cond (list_any opens (xs ++ x ∷ [])) (codes_ahead i xs) (option_or (codes_ahead i xs) (codes_under i x.note))
unfolding opens
ahead-last i [] x = go (is_open x.note) (codes_under i x.note)
  where
    go : (b : Bool) (o : Option (List ℕ)) → cond b None (option_or o None) ≡ cond (b || false) None o
    go true o = refl
    go false None = refl
    go false (Some codes) = refl
ahead-last i (y ∷ xs) x = ap (λ o. cond (is_open y.note) None (option_or (codes_under i y.note) o)) (ahead-last i xs x) ∙ go (is_open y.note) (codes_under i y.note) (list_any opens (xs ++ x ∷ []))
  where
    go : (b : Bool) (own : Option (List ℕ)) (any : Bool) → cond b None (option_or own (cond any (codes_ahead i xs) (option_or (codes_ahead i xs) (codes_under i x.note))))
        ≡ cond (b || any) (cond b None (option_or own (codes_ahead i xs))) (option_or (cond b None (option_or own (codes_ahead i xs))) (codes_under i x.note))
    go true own any = refl
    go false own true = refl
    go false None false = refl
    go false (Some codes) false = refl

-- no event up to j stands after it
none_after : (e : Seen) (past : List Seen) (c : ℕ) (log : List Seen) → length log ≤ length past + 1 → those (λ m. is_after m (newest e past)) (of_connection c log) ≡ []
none_after e past c [] h = refl
none_after e past c (x ∷ log) h =
    let rest : length log ≤ length past + 1 = omega arith in
    go (number (newest x log) == c) ∙ none_after e past c log rest
  where
    go : (b : Bool) → those (λ m. is_after m (newest e past)) (cond b (newest x log ∷ of_connection c log) (of_connection c log)) ≡ those (λ m. is_after m (newest e past)) (of_connection c log)
    go true =
        let early : nat_lt (length past + 1) (length log + 1) ≡ false = grind (arith, nat_tests) in
        ap (λ b. cond b (newest x log ∷ those (λ m. is_after m (newest e past)) (of_connection c log)) (those (λ m. is_after m (newest e past)) (of_connection c log))) early
    go false = refl

-- the first SUBACK after j on its connection, where these events came after j, the newest first
ahead-back : (i : ℕ) (e : Seen) (past later : List Seen)
    → first_found (codes_under i) (those (λ m. is_after m (newest e past)) (of_connection (begun (e ∷ past)) (later ++ (e ∷ past)))) ≡ codes_ahead i (reverse later)
unfolding opens
ahead-back i e past [] = let le : length (e ∷ past) ≤ length past + 1 = omega arith in ap (first_found (codes_under i)) (none_after e past (begun (e ∷ past)) (e ∷ past) le)
ahead-back i e past (x ∷ later) =
    ap (λ b. first_found (codes_under i) (those after (cond b (newest x whole ∷ of_connection c whole) (of_connection c whole)))) (begun-same (x ∷ later) (e ∷ past))
    ∙ (go (list_any opens (x ∷ later))
    ∙ (ap (λ o. cond (list_any opens (x ∷ later)) o (option_or o (codes_under i x.note))) (ahead-back i e past later)
    ∙ (ap (λ b. cond b (codes_ahead i (reverse later)) (option_or (codes_ahead i (reverse later)) (codes_under i x.note))) (sym (any-reverse opens (x ∷ later)) ∙ ap (list_any opens) (one_back x later))
    ∙ sym (ap (codes_ahead i) (one_back x later) ∙ ahead-last i (reverse later) x))))
  where
    whole : List Seen
    whole = later ++ (e ∷ past)

    c : ℕ
    c = begun (e ∷ past)

    after : Moment → Bool
    after m = is_after m (newest e past)

    go : (b : Bool) → first_found (codes_under i) (those after (cond (not b) (newest x whole ∷ of_connection c whole) (of_connection c whole)))
        ≡ cond b (first_found (codes_under i) (those after (of_connection c whole))) (option_or (first_found (codes_under i) (those after (of_connection c whole))) (codes_under i x.note))
    go true = refl
    go false =
        let long : length whole ≡ length later + (length past + 1) = simp length-append (omega arith) in
        let late : nat_lt (length past + 1) (length whole + 1) ≡ true = grind (arith, nat_tests) in
        ap (λ b. first_found (codes_under i) (cond b (newest x whole ∷ those after (of_connection c whole)) (those after (of_connection c whole)))) late

-- ---- looking back over the session

-- some filter that the SUBSCRIBE j makes stand allows the topic, after these events
abbrev pub stands : List ℕ → ℕ → List Seen → Moment → Bool
stands topic least whole j = list_any (allows topic least) (unwrap_or (option_map (λ s. granted s.filters (unwrap_or (first_found (codes_under s.identifier) (those (λ m. is_after m j) (of_connection (number j) whole))) [])) (received_subscription (note j))) [])

-- so it is by the events that came after the SUBSCRIBE
stands-here : (topic : List ℕ) (least : ℕ) (e : Seen) (past later : List Seen) → stands topic least (reverse later ++ (e ∷ past)) (newest e past) ≡ subscribes_to topic least later e.note
stands-here topic least e past later = go (received_subscription e.note)
  where
    found : ℕ → Option (List ℕ)
    found i = first_found (codes_under i) (those (λ m. is_after m (newest e past)) (of_connection (begun (e ∷ past)) (reverse later ++ (e ∷ past))))

    same : (i : ℕ) → found i ≡ codes_ahead i later
    same i = ahead-back i e past (reverse later) ∙ ap (codes_ahead i) (reverse-reverse later)

    go : (s : Option Subscription) → list_any (allows topic least) (unwrap_or (option_map (λ s. granted s.filters (unwrap_or (found s.identifier) [])) s) [])
        ≡ is_some_and (λ s. list_any (allows topic least) (granted s.filters (unwrap_or (codes_ahead s.identifier later) []))) s
    go None = refl
    go (Some s) = ap (λ o. list_any (allows topic least) (granted s.filters (unwrap_or o []))) (same s.identifier)

-- a RELEASE makes no filter stand
release_idle : (n : Note) (test : Standing → Bool) (makes : Subscription → List Standing) → is_release n ≡ true → list_any test (unwrap_or (option_map makes (received_subscription n)) []) ≡ false
release_idle notes.Open test makes h = refl
release_idle (notes.Close cuts part) test makes h = refl
release_idle notes.Rest test makes h = refl
release_idle (notes.Release identifier) test makes h = refl
release_idle (notes.Sent item) test makes h = refl
release_idle (notes.Recv item) test makes h = absurd (cc)

pub stands_back : (topic : List ℕ) (least : ℕ) (role : Role) (f g : Option Fate) (e : Seen) (past later whole : List Seen) (here over : Bool)
    → whole ≡ reverse later ++ (e ∷ past) → here ≡ (accepted f && subscribes_to topic least later e.note) → over ≡ (is_open e.note && begins f) → g ≡ cond (is_open e.note) (latest_fate role past) f
    → some (stands topic least whole) (session role f (e ∷ past)) ≡ (here || (not over && some (stands topic least whole) (session role g past)))
stands_back topic least role f g e past later whole here over joined is_here is_over before =
    some_back (stands topic least whole) role f g e past here over idle (is_here ∙ ap (λ t. accepted f && t) (sym own)) is_over before
  where
    own : stands topic least whole (newest e past) ≡ subscribes_to topic least later e.note
    own = ap (λ log. stands topic least log (newest e past)) joined ∙ stands-here topic least e past later

    idle : is_release e.note ≡ true → stands topic least whole (newest e past) ≡ false
    idle h = release_idle e.note (allows topic least) (λ s. granted s.filters (unwrap_or (first_found (codes_under s.identifier) (those (λ m. is_after m (newest e past)) (of_connection (number (newest e past)) whole))) [])) h

-- the standing filters are asked one SUBSCRIBE after another
pub standing-stands : (topic : List ℕ) (least : ℕ) (role : Role) (f : Fate) (k : Seen) (past : List Seen)
    → list_any (allows topic least) (standing_at role f (newest k past)) ≡ some (stands topic least past) (session role (Some f) past)
standing-stands topic least role f k past = standing-some (allows topic least) (newest k past) (session role (Some f) past)

-- a list is cut at an event: what stands before it, and what comes after it
pub record IsCutAt (before earlier rest later : List Seen) (e : Seen) : Type 0 where
  pub last : earlier ≡ rest ++ e ∷ []
  pub joined : earlier ++ later ≡ before

cut-whole : (before earlier rest later : List Seen) (e : Seen) → IsCutAt before earlier rest later e → before ≡ rest ++ (e ∷ later)
cut-whole before earlier rest later e cut = sym cut.joined ∙ (ap (λ xs. xs ++ later) cut.last ∙ append_assoc rest (e ∷ []) later)

pub rejoined : (before earlier rest later : List Seen) (e : Seen) → IsCutAt before earlier rest later e → rest ++ drop (length rest) before ≡ before
rejoined before earlier rest later e cut =
    let whole = cut-whole before earlier rest later e cut in
    ap (λ xs. rest ++ drop (length rest) xs) whole ∙ (ap (λ xs. rest ++ xs) (drop-append_seam rest (e ∷ later)) ∙ sym whole)

pub shorter_within : (before earlier rest later : List Seen) (e : Seen) → IsCutAt before earlier rest later e → length rest ≤ length before
shorter_within before earlier rest later e cut = let whole = simp length-append at (ap length (cut-whole before earlier rest later e cut)) in omega arith

pub allowed_back : (topic : List ℕ) (least : ℕ) (role : Role) (f g : Option Fate) (before earlier rest later : List Seen) (e : Seen) (here over : Bool) → IsCutAt before earlier rest later e
    → here ≡ (accepted f && subscribes_to topic least later e.note) → over ≡ (is_open e.note && begins f) → g ≡ cond (is_open e.note) (latest_fate role (reverse rest)) f
    → some (stands topic least (reverse before)) (session role f (reverse earlier)) ≡ (here || (not over && some (stands topic least (reverse before)) (session role g (reverse rest))))
allowed_back topic least role f g before earlier rest later e here over cut is_here is_over is_g =
    let front : reverse earlier ≡ e ∷ reverse rest = ap reverse cut.last ∙ reverse-append rest (e ∷ []) in
    let whole : reverse before ≡ reverse later ++ (e ∷ reverse rest) = ap reverse (sym cut.joined) ∙ (reverse-append earlier later ∙ ap (λ xs. reverse later ++ xs) front) in
    ap (λ es. some (stands topic least (reverse before)) (session role f es)) front
    ∙ stands_back topic least role f g e (reverse rest) later (reverse before) here over whole is_here is_over is_g

-- ---- the statements

and_yes : (a : Bool) → (a && true) ≡ a
and_yes true = refl
and_yes false = refl

zero_least : (n : ℕ) → nat_le 0 n ≡ true
zero_least n = grind (arith, nat_tests)

-- a ceiling of at least 0 is any
allows-any : (topic : List ℕ) → allows topic 0 ≡ (λ s. matches s.filter topic)
allows-any topic = λ i s. (ap (λ b. matches s.filter topic && b) (zero_least s.ceiling) ∙ and_yes (matches s.filter topic)) i

-- what is asked of a PUBLISH that is judged
judged : (duplicate shared : Bool) (test : List ℕ → Bool) (topic : Option (List ℕ)) → (not duplicate && (not shared && is_some_and test topic)) ≡ is_some_and test (cond duplicate None (cond shared None topic))
judged true shared test topic = refl
judged false true test topic = refl
judged false false test topic = refl

delivered-judged : (role : Role) (f : Fate) (k : Seen) (past : List Seen) (test : PublishNote → List ℕ → Bool) (o : Option PublishNote)
    → is_some_and (λ p. not p.duplicate && (not (some asks_to_share (session_before role f (newest k past))) && is_some_and (test p) (topic_of (newest k past) p))) o
    ≡ is_some_and (λ p. is_some_and (test p) (judged_topic role f past p)) o
delivered-judged role f k past test None = refl
delivered-judged role f k past test (Some p) = judged p.duplicate (some asks_to_share (session_before role f (newest k past))) (test p) (topic_of (newest k past) p)

pub B01-judged : (role : Role) (f : Fate) (k : Seen) (past : List Seen)
    → breaks_B01 role f (newest k past) ≡ is_some_and (λ p. is_some_and (λ topic. not (list_any (allows topic 0) (standing_at role f (newest k past)))) (judged_topic role f past p)) (sent_publish k.note)
unfolding breaks_B01
B01-judged role f k past =
    delivered-judged role f k past (λ p topic. not (list_any (λ s. matches s.filter topic) (standing_at role f (newest k past)))) (sent_publish k.note)
    ∙ (λ i. is_some_and (λ p. is_some_and (λ topic. not (list_any (sym (allows-any topic) i) (standing_at role f (newest k past)))) (judged_topic role f past p)) (sent_publish k.note))

pub B02-judged : (role : Role) (f : Fate) (k : Seen) (past : List Seen)
    → breaks_B02 role f (newest k past) ≡ is_some_and (λ p. is_some_and (λ topic. list_any (allows topic 0) (standing_at role f (newest k past))
    && not (list_any (allows topic (qos_number p.qos)) (standing_at role f (newest k past)))) (judged_topic role f past p)) (sent_publish k.note)
unfolding breaks_B02
B02-judged role f k past =
    delivered-judged role f k past (λ p topic. list_any (λ s. matches s.filter topic) (standing_at role f (newest k past))
    && not (list_any (λ s. matches s.filter topic && nat_le (qos_number p.qos) s.ceiling) (standing_at role f (newest k past)))) (sent_publish k.note)
    ∙ (λ i. is_some_and (λ p. is_some_and (λ topic. list_any (sym (allows-any topic) i) (standing_at role f (newest k past))
    && not (list_any (allows topic (qos_number p.qos)) (standing_at role f (newest k past)))) (judged_topic role f past p)) (sent_publish k.note))
