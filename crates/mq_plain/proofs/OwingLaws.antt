-- What a resumed session owes, going back over it event by event.
use Rattle.std.proofs.Common.{◌≡◌, ℕ, zero, suc, ◌+◌, ◌≤◌, ◌==◌, Bool, true, false, cond, ◌&&◌, ◌||◌, not, List, [], ◌∷◌, ◌++◌, length, Option, Some, None, refl, ap, sym, ◌∙◌, subst, arith}
use Rattle.std.specs.Prelude.{option_map}
use Rattle.std.specs.Option.{option_and_then}
use Rattle.std.proofs.lemmas.Bool.{eqb-true, eq-eqb}
use Rattle.std.proofs.lemmas.List.Elements.{All-nil}
use Rattle.mq_log.specs.declared.place.Place3.{Place3}
use Rattle.mq_rules.specs.declared.role.Role.{Role}
use Rattle.mq_rules.specs.declared.fate.Fate.{Fate}
use Rattle.mq_rules.specs.declared.note.Note.{Note}
use Rattle.mq_rules.specs.declared.note.Note.TheVariants as notes
use Rattle.mq_rules.specs.declared.note.Seen.{Seen}
use Rattle.mq_rules.specs.Words.{is_id, is_some_and, only}
use Rattle.mq_rules.specs.Notes.{is_open, is_release, opener_of, opener_in, delivery_of, delivery_in, sent_publish, sent_as, pubrel_in}
use Rattle.mq_rules.specs.declared.packet_note.PublishNote.{PublishNote}
use Rattle.mq_rules.specs.Moments.{Moment, newest, position, note, moments, moment, is_same, is_after, some, since, IsPlaced}
use Rattle.mq_rules.specs.Connections.{begun, number, connection, of_connection, session, has_session, begins, accepted, resumed, voided, any_accepted, fate as fate_of, latest_fate, accepts, resumes, with_first}
use Rattle.mq_rules.specs.declared.fate.Fate.TheVariants.{Void, Adrift, New, Forgotten, Resumed, Unasked, Unknown}
use Rattle.mq_rules.specs.Identifiers.{opens_id, closes_id, is_used_up, announces_bound, sends_again, passes_over, is_passed_over, refuses_retained, is_retained, is_waiting, shows_S06}
use Rattle.mq_rules.proofs.Exports.{and_false, or_false, moment-newest, moment-older, moment-beginning, moment-placed, among-moment, those-among, some-among, among-some}
use Rattle.mq_plain.specs.Owing.{moves, confirms, sends_under, is_owed, owes}
use Rattle.mq_plain.specs.Shown.{IsShown}
use Rattle.mq_plain.proofs.MarkedLaws.{IsMarked, since-newest, since-begun, marked-start, marked-step}
use Rattle.mq_plain.proofs.PlacesLaws.{IsGiven, moment-zero, given-start, given-step, given-shown}

-- ---- one event

release-moves : (i : ℕ) (n : Note) → is_release n ≡ true → moves i n ≡ false
release-moves i notes.Open h = absurd (cc)
release-moves i (notes.Close cuts part) h = absurd (cc)
release-moves i notes.Rest h = absurd (cc)
release-moves i (notes.Release identifier) h = refl
release-moves i (notes.Sent item) h = absurd (cc)
release-moves i (notes.Recv item) h = absurd (cc)

release-confirms : (i : ℕ) (n : Note) → is_release n ≡ true → confirms i n ≡ false
release-confirms i notes.Open h = absurd (cc)
release-confirms i (notes.Close cuts part) h = absurd (cc)
release-confirms i notes.Rest h = absurd (cc)
release-confirms i (notes.Release identifier) h = refl
release-confirms i (notes.Sent item) h = absurd (cc)
release-confirms i (notes.Recv item) h = absurd (cc)

opener-release : (i : ℕ) (n : Note) → opener_of n ≡ Some i → is_release n ≡ false
opener-release i notes.Open h = refl
opener-release i (notes.Close cuts part) h = refl
opener-release i notes.Rest h = refl
opener-release i (notes.Release identifier) h = absurd (cc)
opener-release i (notes.Sent item) h = refl
opener-release i (notes.Recv item) h = refl

-- ---- what is owed

-- whether the opener of the newest event is
owed-newest : (role : Role) (lenient : Moment → Bool) (again : ℕ → Bool) (whole : List Moment) (f : Option Fate) (e : Seen) (past : List Seen) (moved confirmed : ℕ → Bool) (is_in : Bool)
    → IsMarked moves role whole f (e ∷ past) moved → IsMarked confirms role whole f (e ∷ past) confirmed → is_in ≡ accepted f
    → owes lenient again whole (newest e past) ≡ is_owed (lenient (newest e past)) again moved confirmed (only is_in (opener_of e.note))
owed-newest role lenient again whole f e past moved confirmed is_in moves_so confirms_so inside = go (opener_of e.note) refl ∙ inside_only is_in (opener_of e.note)
  where
    there : (i : ℕ) → opener_of e.note ≡ Some i → has_session role f e past ≡ is_in
    there i is = ap (λ r. accepted f || (r && (voided f && any_accepted role f past))) (opener-release i e.note is) ∙ or_false (accepted f) ∙ sym inside

    marked_now : (test : ℕ → Note → Bool) (marked : ℕ → Bool) (i : ℕ) → opener_of e.note ≡ Some i → IsMarked test role whole f (e ∷ past) marked
        → since (is_same (newest e past)) (λ m. test i (note m)) whole ≡ (not (marked i) && is_in)
    marked_now test marked i is so =
        let le : position (newest e past) ≤ length (e ∷ past) = omega arith in
        so.each i (newest e past) le ∙ ap (λ b. not (marked i) && b) (since-newest role f e past (λ m. test i (note m)) ∙ there i is)

    inside_only : (b : Bool) (o : Option ℕ) → (b && is_owed (lenient (newest e past)) again moved confirmed o) ≡ is_owed (lenient (newest e past)) again moved confirmed (only b o)
    inside_only true o = refl
    inside_only false o = refl

    bits : (m c a g l : Bool) → ((not m && a) && (not g && not ((not c && a) && l))) ≡ (a && (not m && (not g && not (not c && l))))
    bits true c true g l = refl
    bits true c false g l = refl
    bits false true true g l = refl
    bits false false true g l = refl
    bits false c false g l = refl

    go : (o : Option ℕ) → opener_of e.note ≡ o
        → is_some_and (λ i. since (is_same (newest e past)) (λ m. moves i (note m)) whole && (not (again i) && not (since (is_same (newest e past)) (λ m. confirms i (note m)) whole && lenient (newest e past)))) o
        ≡ (is_in && is_some_and (λ i. not (moved i) && (not (again i) && not (not (confirmed i) && lenient (newest e past)))) o)
    go None is = sym (and_false is_in)
    go (Some i) is =
        ap (λ b. b && (not (again i) && not (since (is_same (newest e past)) (λ m. confirms i (note m)) whole && lenient (newest e past)))) (marked_now moves moved i is moves_so)
        ∙ ap (λ b. (not (moved i) && is_in) && (not (again i) && not (b && lenient (newest e past)))) (marked_now confirms confirmed i is confirms_so)
        ∙ bits (moved i) (confirmed i) is_in (again i) (lenient (newest e past))

-- what is excused matters only of what is owed otherwise
pub owed-candidate : (lenient : Bool) (again moved confirmed : ℕ → Bool) (o : Option ℕ) → is_owed (is_owed false again moved confirmed o && lenient) again moved confirmed o ≡ is_owed lenient again moved confirmed o
owed-candidate lenient again moved confirmed None = refl
owed-candidate lenient again moved confirmed (Some i) = bits (moved i) (again i) (confirmed i)
  where
    bits : (m a c : Bool) → (not m && (not a && not (not c && ((not m && (not a && not (not c && false))) && lenient)))) ≡ (not m && (not a && not (not c && lenient)))
    bits true a c = refl
    bits false true c = refl
    bits false false true = refl
    bits false false false = refl

-- no opener before the session is
owed-none : (lenient : Moment → Bool) (again : ℕ → Bool) (whole : List Moment) (k : Moment) → ((i : ℕ) → since (is_same k) (λ m. moves i (note m)) whole ≡ false) → owes lenient again whole k ≡ false
owed-none lenient again whole k none = go (opener_of (note k))
  where
    go : (o : Option ℕ) → is_some_and (λ i. since (is_same k) (λ m. moves i (note m)) whole && (not (again i) && not (since (is_same k) (λ m. confirms i (note m)) whole && lenient k))) o ≡ false
    go None = refl
    go (Some i) = ap (λ b. b && (not (again i) && not (since (is_same k) (λ m. confirms i (note m)) whole && lenient k))) (none i)

-- ---- the walk over a resumed session

-- What is kept of a walk down to these events, over the session that is on after all of them.
pub record IsWalked (lenient : Moment → Bool) (again : ℕ → Bool) (role : Role) (past : List Seen) (f : Option Fate) (rest : List Seen) (moved confirmed : ℕ → Bool) (places : List Place3) : Type 0 where
  pub alike : (k : ℕ) → k ≤ length rest → moment past k ≡ moment rest k
  pub moves_so : IsMarked moves role (session role (Some Resumed) past) f rest moved
  pub confirms_so : IsMarked confirms role (session role (Some Resumed) past) f rest confirmed
  pub given : IsGiven (λ k. is_some_and (owes lenient again (session role (Some Resumed) past)) (moment past k)) past (length rest) places

pub walked-start : (lenient : Moment → Bool) (again : ℕ → Bool) (role : Role) (past : List Seen) (moved confirmed : ℕ → Bool) → ((i : ℕ) → moved i ≡ false) → ((i : ℕ) → confirmed i ≡ false)
    → IsWalked lenient again role past (Some Resumed) past moved confirmed []
walked-start lenient again role past moved confirmed unmoved unconfirmed = record {
  alike = λ k le. refl;
  moves_so = marked-start moves role (Some Resumed) past moved unmoved;
  confirms_so = marked-start confirms role (Some Resumed) past confirmed unconfirmed;
  given = given-start (owes lenient again (session role (Some Resumed) past)) past;
}

-- the newest of them, judged
walked-event : (lenient : Moment → Bool) (again : ℕ → Bool) (role : Role) (past : List Seen) (f : Option Fate) (e : Seen) (rest : List Seen) (moved confirmed : ℕ → Bool) (places new : List Place3) (is_in due : Bool)
    → IsPlaced past → is_in ≡ accepted f → due ≡ is_owed (lenient (newest e rest)) again moved confirmed (only is_in (opener_of e.note)) → new ≡ cond due (places ++ e.place ∷ []) places
    → IsWalked lenient again role past f (e ∷ rest) moved confirmed places
    → IsGiven (λ k. is_some_and (owes lenient again (session role (Some Resumed) past)) (moment past k)) past (length rest) new
walked-event lenient again role past f e rest moved confirmed places new is_in due placed inside owed now was =
    let le : length rest + 1 ≤ length (e ∷ rest) = omega arith in
    let there : moment past (length rest + 1) ≡ Some (newest e rest) = was.alike (length rest + 1) le ∙ moment-newest e rest (length rest + 1) refl in
    given-step (λ k. is_some_and (owes lenient again (session role (Some Resumed) past)) (moment past k)) past e rest places new due there
    (moment-placed past (length rest + 1) (newest e rest) placed there)
    (ap (is_some_and (owes lenient again (session role (Some Resumed) past))) there
    ∙ owed-newest role lenient again (session role (Some Resumed) past) f e rest moved confirmed is_in was.moves_so was.confirms_so inside ∙ sym owed) now was.given

pub walked-step : (lenient : Moment → Bool) (again : ℕ → Bool) (role : Role) (past : List Seen) (f g : Option Fate) (e : Seen) (rest : List Seen) (moved confirmed moved_too confirmed_too : ℕ → Bool)
    (places new : List Place3) (is_in due begun : Bool)
    → IsPlaced past → is_in ≡ accepted f → due ≡ is_owed (lenient (newest e rest)) again moved confirmed (only is_in (opener_of e.note)) → new ≡ cond due (places ++ e.place ∷ []) places
    → begun ≡ (is_open e.note && begins f) → begun ≡ false → g ≡ cond (is_open e.note) (latest_fate role rest) f
    → ((i : ℕ) → moved_too i ≡ ((is_in && moves i e.note) || moved i)) → ((i : ℕ) → confirmed_too i ≡ ((is_in && confirms i e.note) || confirmed i))
    → IsWalked lenient again role past f (e ∷ rest) moved confirmed places → IsWalked lenient again role past g rest moved_too confirmed_too new
walked-step lenient again role past f g e rest moved confirmed moved_too confirmed_too places new is_in due begun placed inside owed now at on is moves_now confirms_now was = record {
  alike = λ k le. let longer : k ≤ length (e ∷ rest) = omega arith in was.alike k longer ∙ moment-older e rest k le;
  moves_so = marked-step moves role (session role (Some Resumed) past) f g e rest moved moved_too is_in begun (λ i h. release-moves i e.note h) inside at on is moves_now was.moves_so;
  confirms_so = marked-step confirms role (session role (Some Resumed) past) f g e rest confirmed confirmed_too is_in begun (λ i h. release-confirms i e.note h) inside at on is confirms_now was.confirms_so;
  given = walked-event lenient again role past f e rest moved confirmed places new is_in due placed inside owed now was;
}

-- at the session's beginning
pub walked-begun : (lenient : Moment → Bool) (again : ℕ → Bool) (role : Role) (past : List Seen) (f : Option Fate) (e : Seen) (rest : List Seen) (moved confirmed : ℕ → Bool) (places new : List Place3)
    (is_in due begun : Bool)
    → IsPlaced past → is_in ≡ accepted f → due ≡ is_owed (lenient (newest e rest)) again moved confirmed (only is_in (opener_of e.note)) → new ≡ cond due (places ++ e.place ∷ []) places
    → begun ≡ (is_open e.note && begins f) → begun ≡ true
    → IsWalked lenient again role past f (e ∷ rest) moved confirmed places → IsShown (owes lenient again (session role (Some Resumed) past)) past new
walked-begun lenient again role past f e rest moved confirmed places new is_in due begun placed inside owed now at on was =
    given-shown (owes lenient again (session role (Some Resumed) past)) past (length rest) new (λ k le. go k le (moment past k) refl)
    (walked-event lenient again role past f e rest moved confirmed places new is_in due placed inside owed now was)
  where
    go : (k : ℕ) → k ≤ length rest → (o : Option Moment) → moment past k ≡ o → is_some_and (owes lenient again (session role (Some Resumed) past)) o ≡ false
    go k le None is = refl
    go k le (Some m) is =
        let spot = (moment-beginning past k m is).at in
        let before : position m ≤ length rest = omega (arith, spot, le) in
        let within : position m ≤ length (e ∷ rest) = omega (arith, before) in
        owed-none lenient again (session role (Some Resumed) past) m (λ i.
        was.moves_so.each i m within ∙ ap (λ b. not (moved i) && b) (since-begun role f e rest m (λ n. moves i (note n)) begun before at on) ∙ and_false (not (moved i)))

-- at the log's beginning
pub walked-end : (lenient : Moment → Bool) (again : ℕ → Bool) (role : Role) (past : List Seen) (f : Option Fate) (moved confirmed : ℕ → Bool) (places : List Place3)
    → IsWalked lenient again role past f [] moved confirmed places → IsShown (owes lenient again (session role (Some Resumed) past)) past places
walked-end lenient again role past f moved confirmed places was =
    given-shown (owes lenient again (session role (Some Resumed) past)) past 0 places (λ k le. ap (is_some_and (owes lenient again (session role (Some Resumed) past))) (first k le)) was.given
  where
    first : (k : ℕ) → k ≤ 0 → moment past k ≡ None
    first zero le = moment-zero past
    first (suc k) le = absurd (omega arith)

-- ---- what a REST shows

opener-delivery : (i : ℕ) (n : Note) → opener_of n ≡ Some i → delivery_of n ≡ Some i
opener-delivery i n h = go (sent_publish n) h
  where
    only_so : (b : Bool) (o : Option ℕ) → only b o ≡ Some i → o ≡ Some i
    only_so true o h = h
    only_so false o h = absurd (cc)

    go : (o : Option PublishNote) → option_and_then opener_in o ≡ Some i → option_and_then delivery_in o ≡ Some i
    go None h = absurd (cc)
    go (Some p) h = only_so (not p.duplicate) (delivery_in p) h

-- an opener on the connection is itself sent there
here-again : (past : List Seen) (k i : ℕ) (m : Moment) → moment past k ≡ Some m → opener_of (note m) ≡ Some i → some (is_same m) (connection past) ≡ true
    → some (λ n. sends_under i (note n)) (connection past) ≡ true
here-again past k i m at opener here =
    let found = some-among (is_same m) (connection past) here in
    let n = found.0 in
    let spot : position m ≡ position n = eqb-true (position m) (position n) found.2 in
    let one : moment past (position n) ≡ Some n = among-moment n past (those-among (λ l. number l == begun past) (moments past) n found.1).0 in
    let its : k ≡ position m = (moment-beginning past k m at).at in
    let same : Some m ≡ Some n = sym at ∙ ap (moment past) (its ∙ spot) ∙ one in
    let delivers : delivery_of (note n) ≡ Some i = subst (λ (l : Moment). delivery_of (note l) ≡ Some i) (only_one m n same) (opener-delivery i (note m) opener) in
    let passes : sends_under i (note n) ≡ true = ap (λ o. is_id i o || is_id i (sent_as pubrel_in (note n))) delivers ∙ ap (λ b. b || is_id i (sent_as pubrel_in (note n))) (eq-eqb i i refl) in
    among-some (λ l. sends_under i (note l)) (connection past) n found.1 passes
  where
    only_one : (a b : Moment) → ◌≡◌ {A = Option Moment} (Some a) (Some b) → a ≡ b
    only_one a b h = cc

-- whichever way a session is resumed, it has the same moments
resumed-parts : (f : Fate) → resumes f ≡ true → (accepts f ≡ true) × (begins (Some f) ≡ false)
resumed-parts Resumed h = (refl, refl)
resumed-parts Unasked h = (refl, refl)
resumed-parts Void h = absurd (cc)
resumed-parts Adrift h = absurd (cc)
resumed-parts New h = absurd (cc)
resumed-parts Forgotten h = absurd (cc)
resumed-parts Unknown h = absurd (cc)

same-session : (role : Role) (f : Fate) (log : List Seen) → resumes f ≡ true → session role (Some f) log ≡ session role (Some Resumed) log
same-session role f [] h = refl
same-session role f (e ∷ past) h =
    ap (λ a. with_first (a || (is_release e.note && (voided (Some f) && any_accepted role (Some f) past))) (newest e past) (cond (is_open e.note) (cond (begins (Some f)) [] (session role (latest_fate role past) past)) (session role (Some f) past))) (resumed-parts f h).0
    ∙ ap (λ n. newest e past ∷ cond (is_open e.note) (cond n [] (session role (latest_fate role past) past)) (session role (Some f) past)) (resumed-parts f h).1
    ∙ ap (λ ms. newest e past ∷ cond (is_open e.note) (session role (latest_fate role past) past) ms) (same-session role f past h)

-- and passes over the same
same-passed : (role : Role) (f : Fate) (i : ℕ) (log : List Seen) (k : Moment) → resumes f ≡ true → is_passed_over role (Some f) i log k ≡ is_passed_over role (Some Resumed) i log k
same-passed role Resumed i log k h = refl
same-passed role Unasked i log k h = some-alike (moments log)
  where
    over : Fate → Moment → Bool
    over g w = is_open (note w) && (is_after w k && passes_over role (Some g) i log (number w))

    under : (b : Bool) (o : Option Fate) → resumed (cond b (Some Unasked) o) ≡ resumed (cond b (Some Resumed) o)
    under true o = refl
    under false o = refl

    some-alike : (ms : List Moment) → some (over Unasked) ms ≡ some (over Resumed) ms
    some-alike [] = refl
    some-alike (w ∷ ms) =
        ap (λ r. (is_open (note w) && (is_after w k && (r && (announces_bound role (of_connection (number w) log) && not (some (sends_again i) (of_connection (number w) log)))))) || some (over Unasked) ms) (under (number w == begun log) (fate_of role (number w) log))
        ∙ ap (λ b. over Resumed w || b) (some-alike ms)
same-passed role Void i log k h = absurd (cc)
same-passed role Adrift i log k h = absurd (cc)
same-passed role New i log k h = absurd (cc)
same-passed role Forgotten i log k h = absurd (cc)
same-passed role Unknown i log k h = absurd (cc)

shows-owes : (role : Role) (d : Seen) (past : List Seen) (again : ℕ → Bool) (lenient : Moment → Bool) (k : ℕ) (m : Moment) (f : Fate) → moment past k ≡ Some m → latest_fate role past ≡ Some f → resumes f ≡ true → is_waiting (newest d past) ≡ false
    → ((i : ℕ) → again i ≡ some (λ n. sends_under i (note n)) (connection past)) → ((i : ℕ) → opener_of (note m) ≡ Some i → lenient m ≡ ((is_used_up role (newest d past) || is_passed_over role (Some Resumed) i past m) || (refuses_retained role (newest d past) && is_retained m)))
    → shows_S06 role (newest d past) m ≡ owes lenient again (session role (Some Resumed) past) m
unfolding shows_S06
shows-owes role d past again lenient k m f at fate resumes_f still sent allowed =
    ap (λ g. resumed g && (not (is_waiting (newest d past)) && is_some_and (asked g (session role g past)) (opener_of (note m)))) fate
    ∙ ap (λ b. b && (not (is_waiting (newest d past)) && is_some_and (asked (Some f) (session role (Some f) past)) (opener_of (note m)))) resumes_f
    ∙ ap (λ w. not w && is_some_and (asked (Some f) (session role (Some f) past)) (opener_of (note m))) still
    ∙ ap (λ ms. is_some_and (asked (Some f) ms) (opener_of (note m))) (same-session role f past resumes_f)
    ∙ same-asked (opener_of (note m))
    ∙ go (opener_of (note m)) refl
  where
    whole : List Moment
    whole = session role (Some Resumed) past

    asked_if : (ℕ → Bool) → List Moment → ℕ → Bool
    asked_if passed ms i = since (is_same m) (λ n. opens_id i n || closes_id i n) ms
        && (not (some (is_same m) (connection past)) && (not (some (λ n. sends_under i (note n)) (connection past))
        && not (since (is_same m) (λ n. confirms i (note n)) ms && ((is_used_up role (newest d past) || passed i) || (refuses_retained role (newest d past) && is_retained m)))))

    asked : Option Fate → List Moment → ℕ → Bool
    asked g ms i = asked_if (λ j. is_passed_over role g j past m) ms i

    same-asked : (o : Option ℕ) → is_some_and (asked (Some f) whole) o ≡ is_some_and (asked (Some Resumed) whole) o
    same-asked None = refl
    same-asked (Some i) = ap (λ p. asked_if (λ j. p) whole i) (same-passed role f i past m resumes_f)

    bits : (a h g x : Bool) → (h ≡ true → g ≡ true) → (a && (not h && (not g && x))) ≡ (a && (not g && x))
    bits a true true x so = refl
    bits a true false x so = absurd (let bad : false ≡ true = so refl in cc)
    bits a false g x so = refl

    go : (o : Option ℕ) → opener_of (note m) ≡ o
        → is_some_and (λ i. since (is_same m) (λ n. moves i (note n)) (session role (Some Resumed) past)
        && (not (some (is_same m) (connection past)) && (not (some (λ n. sends_under i (note n)) (connection past))
        && not (since (is_same m) (λ n. confirms i (note n)) (session role (Some Resumed) past) && ((is_used_up role (newest d past) || is_passed_over role (Some Resumed) i past m) || (refuses_retained role (newest d past) && is_retained m)))))) o
        ≡ is_some_and (λ i. since (is_same m) (λ n. moves i (note n)) (session role (Some Resumed) past)
        && (not (again i) && not (since (is_same m) (λ n. confirms i (note n)) (session role (Some Resumed) past) && lenient m))) o
    go None is = refl
    go (Some i) is =
        bits (since (is_same m) (λ n. moves i (note n)) (session role (Some Resumed) past)) (some (is_same m) (connection past)) (some (λ n. sends_under i (note n)) (connection past))
        (not (since (is_same m) (λ n. confirms i (note n)) (session role (Some Resumed) past) && ((is_used_up role (newest d past) || is_passed_over role (Some Resumed) i past m) || (refuses_retained role (newest d past) && is_retained m)))) (here-again past k i m at is)
        ∙ ap (λ g. since (is_same m) (λ n. moves i (note n)) (session role (Some Resumed) past)
        && (not g && not (since (is_same m) (λ n. confirms i (note n)) (session role (Some Resumed) past) && ((is_used_up role (newest d past) || is_passed_over role (Some Resumed) i past m) || (refuses_retained role (newest d past) && is_retained m))))) (sym (sent i))
        ∙ ap (λ l. since (is_same m) (λ n. moves i (note n)) (session role (Some Resumed) past)
        && (not (again i) && not (since (is_same m) (λ n. confirms i (note n)) (session role (Some Resumed) past) && l))) (sym (allowed i is))

pub resumed-is : (o : Option Fate) → resumed o ≡ true → (f : Fate) × (o ≡ Some f) × (resumes f ≡ true)
resumed-is None h = absurd (cc)
resumed-is (Some f) h = (f, refl, h)

pub shown-owed : (role : Role) (d : Seen) (past : List Seen) (again : ℕ → Bool) (lenient : Moment → Bool) (places : List Place3) (f : Fate) → latest_fate role past ≡ Some f → resumes f ≡ true → is_waiting (newest d past) ≡ false
    → ((i : ℕ) → again i ≡ some (λ n. sends_under i (note n)) (connection past)) → ((m : Moment) (i : ℕ) → opener_of (note m) ≡ Some i → lenient m ≡ ((is_used_up role (newest d past) || is_passed_over role (Some Resumed) i past m) || (refuses_retained role (newest d past) && is_retained m)))
    → IsShown (owes lenient again (session role (Some Resumed) past)) past places → IsShown (shows_S06 role (newest d past)) past places
shown-owed role d past again lenient places f fate resumes_f still sent allowed shown = record { each = λ k. shown.each k ∙ go k (moment past k) refl; own = shown.own }
  where
    go : (k : ℕ) (o : Option Moment) → moment past k ≡ o → is_some_and (owes lenient again (session role (Some Resumed) past)) o ≡ is_some_and (shows_S06 role (newest d past)) o
    go k None is = refl
    go k (Some m) is = sym (shows-owes role d past again lenient k m f is fate resumes_f still sent (allowed m))

-- where no session is resumed
first_none : (a b : Bool) → a ≡ false → (a && b) ≡ false
first_none a b h = ap (λ c. c && b) h

second_none : (a w b : Bool) → w ≡ true → (a && (not w && b)) ≡ false
second_none a w b h = ap (λ v. a && (not v && b)) h ∙ and_false a

shows-none : (role : Role) (d : Seen) (past : List Seen) (m : Moment) → resumed (latest_fate role past) ≡ false → shows_S06 role (newest d past) m ≡ false
unfolding shows_S06
shows-none role d past m none = first_none (resumed (latest_fate role past)) _ none

pub shown-none : (role : Role) (d : Seen) (past : List Seen) → resumed (latest_fate role past) ≡ false → IsShown (shows_S06 role (newest d past)) past []
shown-none role d past none = record { each = λ k. go (moment past k); own = All-nil (λ p. option_map (λ m. m.event.place) (moment past p.position) ≡ Some p) }
  where
    go : (o : Option Moment) → false ≡ is_some_and (shows_S06 role (newest d past)) o
    go None = refl
    go (Some m) = sym (shows-none role d past m none)

-- where the tested end waits for an answer
shows-waiting : (role : Role) (d : Seen) (past : List Seen) (m : Moment) → is_waiting (newest d past) ≡ true → shows_S06 role (newest d past) m ≡ false
unfolding shows_S06
shows-waiting role d past m waits = second_none (resumed (latest_fate role past)) (is_waiting (newest d past)) _ waits

pub shown-waiting : (role : Role) (d : Seen) (past : List Seen) → is_waiting (newest d past) ≡ true → IsShown (shows_S06 role (newest d past)) past []
shown-waiting role d past waits = record { each = λ k. go (moment past k); own = All-nil (λ p. option_map (λ m. m.event.place) (moment past p.position) ≡ Some p) }
  where
    go : (o : Option Moment) → false ≡ is_some_and (shows_S06 role (newest d past)) o
    go None = refl
    go (Some m) = sym (shows-waiting role d past m waits)
