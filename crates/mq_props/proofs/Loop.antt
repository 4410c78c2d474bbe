-- Reading the properties of a list one after another, as a loop does.
use Rattle.std.proofs.Common.{◌≡◌, ℕ, zero, suc, ◌<◌, ◌≤◌, false, eqb, List, [], ◌∷◌, ◌++◌, length, Ok, Err, refl, sym, ap, ◌∙◌, arith}
use Rattle.std.proofs.lemmas.Bool.{ne_eqb}
use Rattle.mq_wire.specs.Left.{Left}
use Rattle.mq_wire.specs.Fields.{◌>>=◌}
use Rattle.mq_props.specs.declared.fault.PropFault.{PropFault}
use Rattle.mq_props.specs.declared.facts.Facts.{Facts}
use Rattle.mq_props.specs.declared.table.Place.{Place}
use Rattle.mq_props.specs.Values.{Property}
use Rattle.mq_props.specs.Reading.{property_on, properties_within, properties_on}
use Rattle.mq_props.specs.Usual.{ReadsMore, RefusesMore}
use Rattle.mq_props.specs.Views.{Knows}
use Rattle.mq_props.proofs.Steps.{property_on_ok, found_shorter}

-- where a loop stands: after these properties, and what is left gives what the whole gives
pub record Goes (place : Place) (start left : Left) (facts : Facts) : Type 0 where
  pub before : List Property
  pub fuel : ℕ
  pub enough : length left.rest ≤ fuel
  pub knows : Knows facts before
  pub goes : properties_within fuel place before left ≡ properties_on place [] start

pub begins : (place : Place) (start : Left) (facts : Facts) → Knows facts [] → Goes place start start facts
unfolding properties_on
begins place start facts knows = record { before = []; fuel = length start.rest; enough = omega arith; knows = knows; goes = refl }

-- one step, where something is left
step : (fuel : ℕ) (place : Place) (before : List Property) (left : Left) (b : List ℕ) → left.rest ≡ b → (b ≡ [] → ⊥) → properties_within (suc fuel) place before left ≡ (property_on place before left >>= λ x. properties_within fuel place (before ++ x.0 ∷ []) x.1)
step fuel place before left [] is some = absurd (some refl)
step fuel place before left (a ∷ bytes) is some =
    let ne : eqb (length left.rest) 0 ≡ false = rw is (ne_eqb (length (a ∷ bytes)) 0 (λ e. omega (arith, e))) in
    rw ne refl

pub goes_on : (place : Place) (start left new : Left) (facts later : Facts) → Goes place start left facts → (left.rest ≡ [] → ⊥) → ReadsMore place facts left later new → Goes place start new later
goes_on place start left new facts later at some read = onwards at.fuel at.enough at.goes
  where
    onwards : (fuel : ℕ) → length left.rest ≤ fuel → properties_within fuel place at.before left ≡ properties_on place [] start → Goes place start new later
    onwards zero enough goes =
        let now = read at.before at.knows in
        let found = property_on_ok place at.before left now.0 new now.1 in
        absurd (omega (arith, found_shorter place at.before left now.0 new found, enough))
    onwards (suc fuel) enough goes =
        let now = read at.before at.knows in
        let p = now.0 in
        let found = property_on_ok place at.before left p new now.1 in
        let more : properties_within (suc fuel) place at.before left ≡ properties_within fuel place (at.before ++ p ∷ []) new = step fuel place at.before left left.rest refl some ∙ ap (λ r. r >>= λ x. properties_within fuel place (at.before ++ x.0 ∷ []) x.1) now.1 in
        record { before = at.before ++ p ∷ []; fuel = fuel; enough = omega (arith, found_shorter place at.before left p new found, enough); knows = now.2; goes = sym more ∙ goes }

-- it takes some bytes
pub shorter_now : (place : Place) (start left new : Left) (facts later : Facts) → Goes place start left facts → ReadsMore place facts left later new → length new.rest < length left.rest
shorter_now place start left new facts later at read =
    let now = read at.before at.knows in
    found_shorter place at.before left now.0 new (property_on_ok place at.before left now.0 new now.1)

nil_at : (bytes : List ℕ) → length bytes ≤ 0 → bytes ≡ []
nil_at [] le = refl
nil_at (a ∷ bytes) le = absurd (omega (arith, le))

-- a property that is refused is the fault of the whole
pub fails : (place : Place) (start left : Left) (facts : Facts) (fault : PropFault) → Goes place start left facts → (left.rest ≡ [] → ⊥) → RefusesMore place facts left fault → properties_on place [] start ≡ Err fault
fails place start left facts fault at some read = onwards at.fuel at.enough at.goes
  where
    onwards : (fuel : ℕ) → length left.rest ≤ fuel → properties_within fuel place at.before left ≡ properties_on place [] start → properties_on place [] start ≡ Err fault
    onwards zero enough goes = absurd (some (nil_at left.rest enough))
    onwards (suc fuel) enough goes = sym goes ∙ step fuel place at.before left left.rest refl some ∙ ap (λ r. r >>= λ x. properties_within fuel place (at.before ++ x.0 ∷ []) x.1) (read at.before at.knows)

-- with nothing left, these are the properties
pub ends : (place : Place) (start left : Left) (facts : Facts) → Goes place start left facts → left.rest ≡ [] → (ps : List Property) × (properties_on place [] start ≡ Ok ps) × Knows facts ps
ends place start left facts at none = (at.before, sym at.goes ∙ done at.fuel, at.knows)
  where
    done : (fuel : ℕ) → properties_within fuel place at.before left ≡ Ok at.before
    done zero = refl
    done (suc fuel) = rw none refl
