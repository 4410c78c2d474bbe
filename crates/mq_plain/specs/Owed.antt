-- What a server comes to owe by what it receives, and whether a later REST of the connection shows that it still does (further statements).
use Rattle.std.specs.Prelude.{ℕ, ◌≡◌, ◌==◌, Bool, true, false, ◌&&◌, not, refl}
use Rattle.mq_rules.specs.Notes.{is_rest}
use Rattle.mq_rules.specs.Moments.{Moment, note}
use Rattle.mq_rules.specs.Connections.{number}
use Rattle.mq_rules.specs.Pasts.{came_before}
use Rattle.mq_rules.specs.FurtherRests.{says_goodbye, settles_connect, waits_for_auth, owes_C24, shows_C24, owes_D01, shows_D01, owes_D02, shows_D02, owes_D03, shows_D03, is_unrefused, owes_D05, shows_D05}

-- the moment is on the connection of this number, and something comes to be owed with it
abbrev pub owed_on : (Moment → Bool) → ℕ → Moment → Bool
owed_on owes c m = (c == number m) && owes m

-- before the moment nothing on its connection has settled its CONNECT, and the server doesn't wait for an AUTH
abbrev pub is_unsettled : Moment → Bool
is_unsettled t = not (came_before settles_connect t) && not (waits_for_auth t)

-- before the moment the server hasn't said that it closes the connection
abbrev pub is_unclosed : Moment → Bool
is_unclosed t = not (came_before says_goodbye t)

-- the same, and no message of QoS 2 was refused before it
abbrev pub is_unclosed_unrefused : Moment → Bool
is_unclosed_unrefused t = is_unclosed t && is_unrefused t

-- Each statement is shown at a REST, by what is owed and what is still due.
pub C24_parts : (t m : Moment) → shows_C24 t m ≡ (owes_C24 m && (is_rest (note t) && is_unsettled t))
unfolding shows_C24
C24_parts t m = refl

pub D01_parts : (t m : Moment) → shows_D01 t m ≡ (owes_D01 m && (is_rest (note t) && is_unclosed t))
unfolding shows_D01
D01_parts t m = refl

pub D02_parts : (t m : Moment) → shows_D02 t m ≡ (owes_D02 m && (is_rest (note t) && is_unclosed t))
unfolding shows_D02
D02_parts t m = refl

pub D03_parts : (t m : Moment) → shows_D03 t m ≡ (owes_D03 m && (is_rest (note t) && is_unclosed t))
unfolding shows_D03
D03_parts t m = refl

regrouped : (o r u f : Bool) → (o && ((r && u) && f)) ≡ (o && (r && (u && f)))
regrouped false r u f = refl
regrouped true false u f = refl
regrouped true true u f = refl

pub D05_parts : (t m : Moment) → shows_D05 t m ≡ (owes_D05 m && (is_rest (note t) && is_unclosed_unrefused t))
unfolding shows_D05
D05_parts t m = regrouped (owes_D05 m) (is_rest (note t)) (is_unclosed t) (is_unrefused t)
