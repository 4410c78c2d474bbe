-- What is found under a fate is the evidence in the whole log, for the statements on sessions whose evidence is found on the way.
use Rattle.std.proofs.Common.{◌≡◌, ℕ, Bool, true, false, cond, ◌&&◌, not, List, Option, Some, None, refl, ap, sym, ◌∙◌}
use Rattle.std.specs.Prelude.{unwrap_or, option_map}
use Rattle.std.specs.Option.{option_and_then}
use Rattle.mq_log.specs.declared.place.Place3.{Place3}
use Rattle.mq_rules.specs.declared.role.Role.{Role}
use Rattle.mq_rules.specs.declared.role.Role.TheVariants.{Client, Server}
use Rattle.mq_rules.specs.declared.role.Tested.{Tested}
use Rattle.mq_rules.specs.declared.fate.Fate.{Fate}
use Rattle.mq_rules.specs.declared.rule.Rule.{Rule}
use Rattle.mq_rules.specs.declared.rule.Rule.TheVariants.{S01, S02, S03, S04, S05, B01, B02, S07, E7R, E1A, E2A, E3A, E4A, E5A, E6A, E1O, E2O, E3O, B03, B04, B05, B06, B07, B09, P01, P02, R01, R02, L1, L2, L3}
use Rattle.mq_rules.specs.declared.note.Note.{Note}
use Rattle.mq_rules.specs.declared.note.Note.TheVariants as notes
use Rattle.mq_rules.specs.declared.note.Seen.{Seen}
use Rattle.mq_rules.specs.Words.{is_some_and}
use Rattle.mq_rules.specs.Notes.{is_open}
use Rattle.mq_rules.specs.Moments.{Moment, newest, note, moment}
use Rattle.mq_rules.specs.Connections.{number, fate, accepts, is_binding}
use Rattle.mq_rules.specs.Identifiers.{breaks_S01, breaks_S02, breaks_S03, breaks_S04, breaks_S05, breaks_S07}
use Rattle.mq_rules.specs.Exchanges.{breaks_A, breaks_O, breaks_E7R}
use Rattle.mq_rules.specs.Releases.{breaks_L1, breaks_L2, breaks_L3}
use Rattle.mq_rules.specs.Subscriptions.{breaks_B01, breaks_B02, breaks_B03, breaks_B04, breaks_B05}
use Rattle.mq_rules.specs.FurtherSubscriptions.{breaks_B06, breaks_B07, is_clear_before}
use Rattle.mq_rules.specs.MatchingSubscriptions.{breaks_B09, breaks_P01, breaks_P02, breaks_R01, breaks_R02}
use Rattle.mq_rules.specs.Rules.{binds}
use Rattle.mq_rules.specs.Statements.{Statement, on_bytes, on_past, in_session, at_release, at_rest, by_later, statement, is_so, is_so_under, where_accepted, fails}
use Rattle.mq_rules.specs.Faults.{decided}
use Rattle.mq_rules.specs.Under.{seen, is_on_session}
use Rattle.mq_rules.proofs.Exports.{both_true}
use Rattle.mq_rules.specs.Evidence.{nothing}
use Rattle.mq_evidence.specs.Evidence.{found, reason, evidence}
use Rattle.mq_evidence.specs.Trailing.{is_found, is_shut}

-- ---- it needs no REST

pub found-unshown : (role : Role) (r : Rule) (f : Option Fate) (t : Option Moment) (m : Moment) → is_found r ≡ true → found (reason role r) f t m ≡ found (reason role r) f None m
found-unshown role S01 f t m h = refl
found-unshown role S02 f t m h = refl
found-unshown role S03 f t m h = refl
found-unshown role S04 f t m h = refl
found-unshown role S05 f t m h = refl
found-unshown role B01 f t m h = refl
found-unshown role B02 f t m h = refl
found-unshown role S07 f t m h = refl
found-unshown role E7R f t m h = refl
found-unshown role E1A f t m h = refl
found-unshown role E2A f t m h = refl
found-unshown role E3A f t m h = refl
found-unshown role E4A f t m h = refl
found-unshown role E5A f t m h = refl
found-unshown role E6A f t m h = refl
found-unshown role E1O f t m h = refl
found-unshown role E2O f t m h = refl
found-unshown role E3O f t m h = refl
found-unshown role B03 f t m h = refl
found-unshown role B04 f t m h = refl
found-unshown role B05 f t m h = refl
found-unshown role B06 f t m h = refl
found-unshown role B07 f t m h = refl
found-unshown role B09 f t m h = refl
found-unshown role P01 f t m h = refl
found-unshown role P02 f t m h = refl
found-unshown role R01 f t m h = refl
found-unshown role R02 f t m h = refl
found-unshown role L1 f t m h = refl
found-unshown role L2 f t m h = refl
found-unshown role L3 f t m h = refl
found-unshown role _ f t m h = absurd (cc)

-- ---- nothing fails at an OPEN

-- a statement on sessions is false at a moment of a connection with this fate
abbrev breaks_at : Statement → Fate → Moment → Bool
breaks_at (on_bytes rule) f m = false
breaks_at (on_past breaks) f m = false
breaks_at (in_session breaks) f m = breaks f m
breaks_at (at_release breaks) f m = breaks f m
breaks_at (at_rest shows) f m = false
breaks_at (by_later shows) f m = false

and-false : (a : Bool) → (a && false) ≡ false
and-false true = refl
and-false false = refl

unbroken : (role : Role) (r : Rule) (f : Fate) (p : Place3) (past : List Seen) → is_found r ≡ true → breaks_at (statement role r) f (newest (seen p notes.Open) past) ≡ false
unfolding breaks_S01 breaks_S02 breaks_S03 breaks_S04 breaks_S05 breaks_S07 breaks_A breaks_O breaks_E7R breaks_L1 breaks_L2 breaks_L3 breaks_B01 breaks_B02 breaks_B03 breaks_B04 breaks_B05 breaks_B06 breaks_B07 breaks_B09 breaks_P01 breaks_P02 breaks_R01 breaks_R02 is_binding
unbroken Client S01 f p past h = refl
unbroken Server S01 f p past h = refl
unbroken role S02 f p past h = refl
unbroken role S03 f p past h = refl
unbroken role S04 f p past h = refl
unbroken role S05 f p past h = refl
unbroken role B01 f p past h = refl
unbroken role B02 f p past h = refl
unbroken role S07 f p past h = refl
unbroken role E7R f p past h = refl
unbroken role E1A f p past h = refl
unbroken role E2A f p past h = refl
unbroken role E3A f p past h = refl
unbroken role E4A f p past h = refl
unbroken role E5A f p past h = refl
unbroken role E6A f p past h = refl
unbroken role E1O f p past h = refl
unbroken role E2O f p past h = refl
unbroken role E3O f p past h = refl
unbroken role B03 f p past h = refl
unbroken role B04 f p past h = refl
unbroken role B05 f p past h = refl
unbroken role B06 f p past h = and-false (is_clear_before role f (newest (seen p notes.Open) past))
unbroken role B07 f p past h = and-false (is_clear_before role f (newest (seen p notes.Open) past))
unbroken role B09 f p past h = and-false (is_clear_before role f (newest (seen p notes.Open) past))
unbroken role P01 f p past h = and-false (is_clear_before role f (newest (seen p notes.Open) past))
unbroken role P02 f p past h = and-false (is_clear_before role f (newest (seen p notes.Open) past))
unbroken role R01 f p past h = and-false (is_clear_before role f (newest (seen p notes.Open) past))
unbroken role R02 f p past h = and-false (is_clear_before role f (newest (seen p notes.Open) past))
unbroken role L1 f p past h = refl
unbroken role L2 f p past h = refl
unbroken role L3 f p past h = refl
unbroken role _ f p past h = absurd (cc)

-- it is judged at its own event
abbrev is_direct : Statement → Bool
is_direct (on_bytes rule) = false
is_direct (on_past breaks) = false
is_direct (in_session breaks) = true
is_direct (at_release breaks) = true
is_direct (at_rest shows) = false
is_direct (by_later shows) = false

direct : (role : Role) (r : Rule) → is_found r ≡ true → is_direct (statement role r) ≡ true
direct role S01 h = refl
direct role S02 h = refl
direct role S03 h = refl
direct role S04 h = refl
direct role S05 h = refl
direct role B01 h = refl
direct role B02 h = refl
direct role S07 h = refl
direct role E7R h = refl
direct role E1A h = refl
direct role E2A h = refl
direct role E3A h = refl
direct role E4A h = refl
direct role E5A h = refl
direct role E6A h = refl
direct role E1O h = refl
direct role E2O h = refl
direct role E3O h = refl
direct role B03 h = refl
direct role B04 h = refl
direct role B05 h = refl
direct role B06 h = refl
direct role B07 h = refl
direct role B09 h = refl
direct role P01 h = refl
direct role P02 h = refl
direct role R01 h = refl
direct role R02 h = refl
direct role L1 h = refl
direct role L2 h = refl
direct role L3 h = refl
direct role _ h = absurd (cc)

opened : (n : Note) → is_open n ≡ true → n ≡ notes.Open
opened notes.Open h = refl
opened (notes.Close cuts part) h = absurd (cc)
opened notes.Rest h = absurd (cc)
opened (notes.Release identifier) h = absurd (cc)
opened (notes.Sent item) h = absurd (cc)
opened (notes.Recv item) h = absurd (cc)

unbroken-open : (role : Role) (r : Rule) (f : Fate) (m : Moment) → is_found r ≡ true → is_open (note m) ≡ true → breaks_at (statement role r) f m ≡ false
unbroken-open role r f m finds opens =
    ap (λ n. breaks_at (statement role r) f (newest (seen m.event.place n) m.past)) (opened (note m) opens) ∙ unbroken role r f m.event.place m.past finds

-- what fails is at no OPEN
pub shut-where-fails : (tested : Tested) (log : List Seen) (k : ℕ) (r : Rule) → is_found r ≡ true → fails tested log k r ≡ true → is_shut log k ≡ true
unfolding fails
shut-where-fails tested log k r finds failing =
    go (statement tested.role r) (direct tested.role r finds) (λ f m. unbroken-open tested.role r f m finds) (moment log k) refl (both_true (binds r tested) _ failing).1
  where
    fates : ℕ → Option Fate
    fates c = fate tested.role c log

    under : (o : Option Fate) (m : Moment) (breaks : Fate → Moment → Bool) → ((f : Fate) → breaks f m ≡ false) → is_so_under breaks m o ≡ false
    under None m breaks h = refl
    under (Some f) m breaks h = h f

    go : (s : Statement) → is_direct s ≡ true → ((f : Fate) (m : Moment) → is_open (note m) ≡ true → breaks_at s f m ≡ false) → (o : Option Moment) → moment log k ≡ o → is_so tested.role fates s log k ≡ true
        → is_some_and (λ m. not (is_open (note m))) o ≡ true
    go (on_bytes rule) d none o at so = absurd (cc)
    go (on_past breaks) d none o at so = absurd (cc)
    go (at_rest shows) d none o at so = absurd (cc)
    go (by_later shows) d none o at so = absurd (cc)
    go (in_session breaks) d none None at so = absurd (let never = sym (ap (λ o. is_some_and (λ m. is_so_under (where_accepted breaks) m (fates (number m))) o) at) ∙ so in cc)
    go (in_session breaks) d none (Some m) at so = open_or (is_open (note m)) refl
      where
        open_or : (b : Bool) → is_open (note m) ≡ b → not b ≡ true
        open_or false h = refl
        open_or true h =
            let never = sym (under (fates (number m)) m (where_accepted breaks) (λ f. ap (λ b. accepts f && b) (none f m h) ∙ and-false (accepts f)))
            ∙ sym (ap (λ o. is_some_and (λ m. is_so_under (where_accepted breaks) m (fates (number m))) o) at) ∙ so in
            absurd (cc)
    go (at_release breaks) d none None at so = absurd (let never = sym (ap (λ o. is_some_and (λ m. is_so_under breaks m (fates (number m))) o) at) ∙ so in cc)
    go (at_release breaks) d none (Some m) at so = open_or (is_open (note m)) refl
      where
        open_or : (b : Bool) → is_open (note m) ≡ b → not b ≡ true
        open_or false h = refl
        open_or true h =
            let never = sym (under (fates (number m)) m breaks (λ f. none f m h)) ∙ sym (ap (λ o. is_some_and (λ m. is_so_under breaks m (fates (number m))) o) at) ∙ so in
            absurd (cc)

-- ---- the whole log

pub evidence-whole : (tested : Tested) (log : List Seen) (k : ℕ) (r : Rule) → is_found r ≡ true → fails tested log k r ≡ true
    → evidence tested log k r ≡ unwrap_or (option_map (λ m. found (reason tested.role r) (fate tested.role (number m) log) None m) (moment log k)) nothing
unfolding evidence
evidence-whole tested log k r finds failing =
    ap (λ b. cond b (unwrap_or (option_map (λ m. found (reason tested.role r) (fate tested.role (number m) log) (option_and_then (moment log) (decided tested log k r)) m) (moment log k)) nothing) nothing) failing
    ∙ go (moment log k)
  where
    go : (o : Option Moment) → unwrap_or (option_map (λ m. found (reason tested.role r) (fate tested.role (number m) log) (option_and_then (moment log) (decided tested log k r)) m) o) nothing
        ≡ unwrap_or (option_map (λ m. found (reason tested.role r) (fate tested.role (number m) log) None m) o) nothing
    go None = refl
    go (Some m) = found-unshown tested.role r (fate tested.role (number m) log) (option_and_then (moment log) (decided tested log k r)) m finds

-- ---- they are statements on sessions

pub on-session : (tested : Tested) (r : Rule) → is_found r ≡ true → is_on_session tested r ≡ true
on-session tested S01 h = refl
on-session tested S02 h = refl
on-session tested S03 h = refl
on-session tested S04 h = refl
on-session tested S05 h = refl
on-session tested B01 h = refl
on-session tested B02 h = refl
on-session tested S07 h = refl
on-session tested E7R h = refl
on-session tested E1A h = refl
on-session tested E2A h = refl
on-session tested E3A h = refl
on-session tested E4A h = refl
on-session tested E5A h = refl
on-session tested E6A h = refl
on-session tested E1O h = refl
on-session tested E2O h = refl
on-session tested E3O h = refl
on-session tested B03 h = refl
on-session tested B04 h = refl
on-session tested B05 h = refl
on-session tested B06 h = refl
on-session tested B07 h = refl
on-session tested B09 h = refl
on-session tested P01 h = refl
on-session tested P02 h = refl
on-session tested R01 h = refl
on-session tested R02 h = refl
on-session tested L1 h = refl
on-session tested L2 h = refl
on-session tested L3 h = refl
on-session tested _ h = absurd (cc)
