-- Whether the session is alive, by connections.
use Rattle.std.proofs.Common.{◌≡◌, ℕ, zero, suc, ◌<◌, ◌≤◌, ◌==◌, Bool, true, false, cond, ◌||◌, not, List, refl, ap, ◌∙◌, arith, subst, ◌⊎◌, inl, inr}
use Rattle.std.proofs.lemmas.Bool.{eq-eqb, eqb-true}
use Rattle.mq_rules.specs.declared.role.Role.{Role}
use Rattle.mq_rules.specs.declared.note.Seen.{Seen}
use Rattle.mq_rules.specs.Connections.{outcome, accepted, of_connection, session_expiry, may_be_accepted, is_alive_after, IsAlive}
use Rattle.mq_rules.proofs.Exports.{differ, or_parts, or_right}

not_zero : (n : ℕ) → not (n == 0) ≡ true → n ≡ 0 → ⊥
not_zero n h is = absurd (let t : (n == 0) ≡ true = eq-eqb n 0 is in cc)

zero_not : (n : ℕ) → (n ≡ 0 → ⊥) → not (n == 0) ≡ true
zero_not n h = ap not (differ n 0 h)

pub alive-is : (role : Role) (c : ℕ) (log : List Seen) → is_alive_after role c log ≡ true → IsAlive role c log
alive-is role zero log h = absurd (cc)
alive-is role (suc c) log h = go (accepted (outcome role (suc c) log)) refl h (alive-is role c log)
  where
    here : ((accepted (outcome role (suc c) log) ≡ true) × (session_expiry role (of_connection (suc c) log) ≡ 0 → ⊥)) ⊎ ((accepted (outcome role (suc c) log) ≡ false) × (may_be_accepted role (of_connection (suc c) log) ≡ true))
        → IsAlive role (suc c) log
    here lasts = record { at = suc c; counted = omega arith; up_to = omega arith; lasts = lasts; none_after = λ d gt le. absurd (omega arith) }

    before : accepted (outcome role (suc c) log) ≡ false → IsAlive role c log → IsAlive role (suc c) log
    before t s = record { at = s.at; counted = s.counted; up_to = let le = s.up_to in omega arith; lasts = s.lasts; none_after = λ d gt le. none d gt le (d == suc c) refl }
      where
        none : (d : ℕ) → s.at < d → d ≤ suc c → (b : Bool) → (d == suc c) ≡ b → accepted (outcome role d log) ≡ false
        none d gt le true e = ap (λ n. accepted (outcome role n log)) (eqb-true d (suc c) e) ∙ t
        none d gt le false e =
            let ne : d ≡ suc c → ⊥ = λ is. absurd (let u : (d == suc c) ≡ true = eq-eqb d (suc c) is in cc) in
            s.none_after d gt (omega arith)

    later : accepted (outcome role (suc c) log) ≡ false → (may_be_accepted role (of_connection (suc c) log) ≡ true) ⊎ (is_alive_after role c log ≡ true) → (is_alive_after role c log ≡ true → IsAlive role c log) → IsAlive role (suc c) log
    later t (inl may) rest = here (inr (t, may))
    later t (inr h) rest = before t (rest h)

    go : (b : Bool) → accepted (outcome role (suc c) log) ≡ b → cond b (not (session_expiry role (of_connection (suc c) log) == 0)) (may_be_accepted role (of_connection (suc c) log) || is_alive_after role c log) ≡ true
        → (is_alive_after role c log ≡ true → IsAlive role c log) → IsAlive role (suc c) log
    go true t h rest = here (inl (t, not_zero (session_expiry role (of_connection (suc c) log)) h))
    go false t h rest = later t (or_parts (may_be_accepted role (of_connection (suc c) log)) (is_alive_after role c log) h) rest

pub is-alive : (role : Role) (c : ℕ) (log : List Seen) → IsAlive role c log → is_alive_after role c log ≡ true
is-alive role zero log s = absurd (let some = s.counted in let le = s.up_to in omega arith)
is-alive role (suc c) log s = go (s.at == suc c) refl (is-alive role c log)
  where
    last : (b : Bool) → accepted (outcome role (suc c) log) ≡ b
        → ((b ≡ true) × (session_expiry role (of_connection (suc c) log) ≡ 0 → ⊥)) ⊎ ((b ≡ false) × (may_be_accepted role (of_connection (suc c) log) ≡ true))
        → cond b (not (session_expiry role (of_connection (suc c) log) == 0)) (may_be_accepted role (of_connection (suc c) log) || is_alive_after role c log) ≡ true
    last true t (inl p) = zero_not (session_expiry role (of_connection (suc c) log)) p.1
    last true t (inr p) = absurd (let never = p.0 in cc)
    last false t (inl p) = absurd (let never = p.0 in cc)
    last false t (inr p) = ap (λ b. b || is_alive_after role c log) p.1

    go : (b : Bool) → (s.at == suc c) ≡ b → (IsAlive role c log → is_alive_after role c log ≡ true) → is_alive_after role (suc c) log ≡ true
    go true t rest =
        let P : ℕ → Type 0 = λ n. ((accepted (outcome role n log) ≡ true) × (session_expiry role (of_connection n log) ≡ 0 → ⊥)) ⊎ ((accepted (outcome role n log) ≡ false) × (may_be_accepted role (of_connection n log) ≡ true)) in
        last (accepted (outcome role (suc c) log)) refl (subst P (eqb-true s.at (suc c) t) s.lasts)
    go false t rest =
        let ne : s.at ≡ suc c → ⊥ = λ is. absurd (let u : (s.at == suc c) ≡ true = eq-eqb s.at (suc c) is in cc) in
        let le = s.up_to in
        let lt : s.at < suc c = omega arith in
        ap (λ b. cond b (not (session_expiry role (of_connection (suc c) log) == 0)) (may_be_accepted role (of_connection (suc c) log) || is_alive_after role c log)) (s.none_after (suc c) lt (omega arith))
        ∙ or_right (may_be_accepted role (of_connection (suc c) log)) (is_alive_after role c log)
        (rest (record { at = s.at; counted = s.counted; up_to = omega arith; lasts = s.lasts; none_after = λ d gt most. s.none_after d gt (omega arith) }))
