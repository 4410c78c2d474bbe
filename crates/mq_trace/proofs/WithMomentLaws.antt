-- A record with the moment 0 after its length.
use Rattle.std.proofs.Common.{◌≡◌, ℕ, ◌+◌, ◌<◌, ◌≤◌, List, [], ◌∷◌, ◌++◌, length, take, drop, refl, sym, ◌∙◌, ap, arith, length-append, append_assoc}
use Rattle.std.specs.Prelude.{◌==◌, if◌then◌else◌, slice_index}
use Rattle.std.proofs.lemmas.Bool.{le-ltb, lt-ltb, ne_eqb}
use Rattle.std.proofs.lemmas.List.{drop_at, length-take-le, length-drop}
use Rattle.mq_log.specs.Framing.{kind_named, kind_of, body_length, length_end, spelled_from, moment_in}
use Rattle.mq_trace.specs.Converting.{no_moment, with_moment}

pub front_five : (q : List ℕ) → length_end ≤ length q → length (take length_end q ++ no_moment) ≡ 13
front_five q h = let l = length-append (take length_end q) no_moment in let m = length-take-le length_end q h in omega arith

pub with_five : (q : List ℕ) → length_end ≤ length q → with_moment q ≡ (take length_end q ++ no_moment) ++ drop length_end q
unfolding with_moment
with_five q h = ap (λ b. if b then q else (take length_end q ++ no_moment) ++ drop length_end q) (le-ltb (length q) length_end h)

pub with_few : (q : List ℕ) → length q < length_end → with_moment q ≡ q
unfolding with_moment
with_few q h = ap (λ b. if b then q else (take length_end q ++ no_moment) ++ drop length_end q) (lt-ltb (length q) length_end h)

pub with_long : (q : List ℕ) → length_end ≤ length q → length (with_moment q) ≡ length q + 8
with_long q h =
    let l = length-append (take length_end q ++ no_moment) (drop length_end q) in
    let f = front_five q h in
    let d = length-drop length_end q in
    ap length (with_five q h) ∙ (let sum : length ((take length_end q ++ no_moment) ++ drop length_end q) ≡ length q + 8 = omega arith in sum)

pub with_drop : (q : List ℕ) → length_end ≤ length q → drop 13 (with_moment q) ≡ drop length_end q
with_drop q h = ap (drop 13) (with_five q h) ∙ drop_at (take length_end q ++ no_moment) (drop length_end q) 13 (front_five q h)

-- its head says the same
pub with_kind : (q : List ℕ) → length_end ≤ length q → kind_of (with_moment q) ≡ kind_of q
unfolding kind_of
with_kind [] h = absurd (omega arith)
with_kind (k ∷ q) h = ap (λ (l : List ℕ). kind_named (slice_index l 0)) (with_five (k ∷ q) h)

pub with_body : (q : List ℕ) → length_end ≤ length q → body_length (with_moment q) ≡ body_length q
unfolding body_length
with_body [] h = absurd (omega arith)
with_body (k ∷ []) h = absurd (omega arith)
with_body (k ∷ x ∷ []) h = absurd (omega arith)
with_body (k ∷ x ∷ y ∷ []) h = absurd (omega arith)
with_body (k ∷ x ∷ y ∷ z ∷ []) h = absurd (omega arith)
with_body (k ∷ x ∷ y ∷ z ∷ w ∷ q) h = ap body_length (with_five (k ∷ x ∷ y ∷ z ∷ w ∷ q) h)

pub with_time : (q : List ℕ) → length_end ≤ length q → moment_in 13 (with_moment q) ≡ 0
unfolding moment_in
with_time [] h = absurd (omega arith)
with_time (k ∷ []) h = absurd (omega arith)
with_time (k ∷ x ∷ []) h = absurd (omega arith)
with_time (k ∷ x ∷ y ∷ []) h = absurd (omega arith)
with_time (k ∷ x ∷ y ∷ z ∷ []) h = absurd (omega arith)
with_time (k ∷ x ∷ y ∷ z ∷ w ∷ q) h = ap (λ (l : List ℕ). spelled_from 0 (drop length_end (take 13 l))) (with_five (k ∷ x ∷ y ∷ z ∷ w ∷ q) h)

-- what one byte more adds
abbrev pub added : List ℕ → ℕ → List ℕ
added part byte = if length part == 4 then byte ∷ no_moment else byte ∷ []

pub with_grown : (part : List ℕ) (byte : ℕ) → with_moment (part ++ byte ∷ []) ≡ with_moment part ++ added part byte
unfolding with_moment
with_grown [] byte = refl
with_grown (k ∷ []) byte = refl
with_grown (k ∷ x ∷ []) byte = refl
with_grown (k ∷ x ∷ y ∷ []) byte = refl
with_grown (k ∷ x ∷ y ∷ z ∷ []) byte = refl
with_grown (k ∷ x ∷ y ∷ z ∷ w ∷ q) byte =
    let part : List ℕ = k ∷ x ∷ y ∷ z ∷ w ∷ q in
    let l = length-append part (byte ∷ []) in
    with_five (part ++ byte ∷ []) (omega arith)
    ∙ sym (append_assoc (take length_end part ++ no_moment) (drop length_end part) (byte ∷ []))
    ∙ ap (λ (t : List ℕ). t ++ byte ∷ []) (sym (with_five part (omega arith)))
    ∙ ap (λ b. with_moment part ++ (if b then byte ∷ no_moment else byte ∷ [])) (sym (ne_eqb (length part) 4 (λ e. omega arith)))
