-- Cutting into pieces: what one byte more does, and that the cut is the only one.
use Rattle.std.proofs.Common.{◌≡◌, ℕ, zero, suc, ◌<◌, ◌≤◌, List, [], ◌∷◌, ◌++◌, length, take, drop, Option, Some, None, unwrap_or, refl, sym, ◌∙◌, ap, arith, append_assoc, length-append, length-drop, Bool, true, false, nat_lt}
use Rattle.std.proofs.lemmas.Bool.{ltb-true, ltb-false}
use Rattle.std.specs.List.{AllByRecursion, flat_map}
use Rattle.std.proofs.lemmas.List.{take_all, drop_all, take-append-le, drop-append-le, take-append-drop, append-nil, length-take-le, take_at, drop_at}
use Rattle.mq_log.specs.Pieces.{Pieces, pieces, at_most, with_piece, AreCut}

-- The size of a piece is above 0 and within the bytes, and depends on no byte after the piece.
pub record Settles (size_at : List ℕ → Option ℕ) : Type 0 where
  pub bound : (a : List ℕ) (n : ℕ) → size_at a ≡ Some n → (0 < n) × (n ≤ length a)
  pub stays : (a c : List ℕ) (n : ℕ) → size_at a ≡ Some n → size_at (a ++ c) ≡ Some n
  pub back : (a c : List ℕ) (n : ℕ) → size_at (a ++ c) ≡ Some n → n ≤ length a → size_at a ≡ Some n

-- pieces and rest, after pieces
abbrev pub joined : Pieces → Pieces → Pieces
joined p q = record { whole = p.whole ++ q.whole; rest = q.rest }

-- the pieces with one byte more, which may complete one
abbrev pub grown : Option ℕ → Pieces → ℕ → Pieces
grown None p byte = record { whole = p.whole; rest = p.rest ++ byte ∷ [] }
grown (Some size) p byte = record { whole = p.whole ++ (p.rest ++ byte ∷ []) ∷ []; rest = [] }

grown_joined : (o : Option ℕ) (p : Pieces) (byte : ℕ) → joined p (grown o (record { whole = []; rest = p.rest }) byte) ≡ grown o p byte
grown_joined None p byte = rw (append-nil p.whole) refl
grown_joined (Some k) p byte = refl

module _ (size_at : List ℕ → Option ℕ) (settles : Settles size_at) where
  none_in_nothing : (a : List ℕ) → length a ≤ 0 → size_at a ≡ None
  none_in_nothing a empty = go (size_at a) refl
    where
      go : (o : Option ℕ) → size_at a ≡ o → o ≡ None
      go None e = refl
      go (Some n) e = let b = settles.bound a n e in absurd (omega arith)

  enough_by : (n m : ℕ) (a : List ℕ) → length a ≤ suc n → length a ≤ suc m
      → ((b : List ℕ) → length b ≤ n → length b ≤ m → at_most n size_at b ≡ at_most m size_at b)
      → (o : Option ℕ) → size_at a ≡ o
      → with_piece o a (at_most n size_at (drop (unwrap_or o 0) a)) ≡ with_piece o a (at_most m size_at (drop (unwrap_or o 0) a))
  enough_by n m a p q same None e = refl
  enough_by n m a p q same (Some k) e =
      let b = settles.bound a k e in
      let l = length-drop k a in
      ap (with_piece (Some k) a) (same (drop k a) (omega arith) (omega arith))

  -- more fuel than bytes changes nothing
  enough : (n m : ℕ) (a : List ℕ) → length a ≤ n → length a ≤ m → at_most n size_at a ≡ at_most m size_at a
  enough zero zero a p q = refl
  enough zero (suc m) a p q = rw (none_in_nothing a p) refl
  enough (suc n) zero a p q = rw (none_in_nothing a q) refl
  enough (suc n) (suc m) a p q = enough_by n m a p q (enough n m) (size_at a) refl

  front_by : (x : ℕ) (a : List ℕ) (o : Option ℕ) → size_at (x ∷ a) ≡ o
      → with_piece o (x ∷ a) (at_most (length a) size_at (drop (unwrap_or o 0) (x ∷ a))) ≡ with_piece o (x ∷ a) (pieces size_at (drop (unwrap_or o 0) (x ∷ a)))
  unfolding pieces
  front_by x a None e = refl
  front_by x a (Some k) e =
      let b = settles.bound (x ∷ a) k e in
      let l = length-drop k (x ∷ a) in
      ap (with_piece (Some k) (x ∷ a)) (enough (length a) (length (drop k (x ∷ a))) (drop k (x ∷ a)) (omega arith) (omega arith))

  -- the piece at the front, and then the others
  pub front : (a : List ℕ) → pieces size_at a ≡ with_piece (size_at a) a (pieces size_at (drop (unwrap_or (size_at a) 0) a))
  unfolding pieces
  front [] = rw (none_in_nothing [] (omega arith)) refl
  front (x ∷ a) = front_by x a (size_at (x ∷ a)) refl

  pub nothing_cut : pieces size_at [] ≡ record { whole = []; rest = [] }
  unfolding pieces
  nothing_cut = refl

  rest_by : (n : ℕ) (a : List ℕ) → length a ≤ suc n → ((b : List ℕ) → length b ≤ n → size_at (pieces size_at b).rest ≡ None)
      → (o : Option ℕ) → size_at a ≡ o → size_at (with_piece o a (pieces size_at (drop (unwrap_or o 0) a))).rest ≡ None
  rest_by n a p below None e = e
  rest_by n a p below (Some k) e =
      let b = settles.bound a k e in
      let l = length-drop k a in
      below (drop k a) (omega arith)

  rest_at : (n : ℕ) (a : List ℕ) → length a ≤ n → size_at (pieces size_at a).rest ≡ None
  rest_at zero a p = rw (front a, none_in_nothing a p) (none_in_nothing a p)
  rest_at (suc n) a p = rw (front a) (rest_by n a p (rest_at n) (size_at a) refl)

  -- no whole piece is at the front of the rest
  pub rest_none : (a : List ℕ) → size_at (pieces size_at a).rest ≡ None
  rest_none a = rest_at (length a) a (omega arith)

  append_by : (n : ℕ) (a c : List ℕ) → length a ≤ suc n
      → ((b : List ℕ) → length b ≤ n → pieces size_at (b ++ c) ≡ joined (pieces size_at b) (pieces size_at ((pieces size_at b).rest ++ c)))
      → (o : Option ℕ) → size_at a ≡ o → (o' : Option ℕ) → size_at (a ++ c) ≡ o'
      → pieces size_at (a ++ c) ≡ joined (with_piece o a (pieces size_at (drop (unwrap_or o 0) a))) (pieces size_at ((with_piece o a (pieces size_at (drop (unwrap_or o 0) a))).rest ++ c))
  append_by n a c p below None e o' e' = refl
  append_by n a c p below (Some k) e o' e' =
      let b = settles.bound a k e in
      let l = length-drop k a in
      let within : k ≤ length a = omega arith in
      let ih = below (drop k a) (omega arith) in
      let whole : size_at (a ++ c) ≡ Some k = settles.stays a c k e in
      front (a ++ c) ∙ ap (λ o. with_piece o (a ++ c) (pieces size_at (drop (unwrap_or o 0) (a ++ c)))) whole
      ∙ rw (take-append-le k a c within, drop-append-le k a c within) (ap (with_piece (Some k) a) ih)

  append_at : (n : ℕ) (a c : List ℕ) → length a ≤ n → pieces size_at (a ++ c) ≡ joined (pieces size_at a) (pieces size_at ((pieces size_at a).rest ++ c))
  append_at zero a c p = rw (front a, none_in_nothing a p) refl
  append_at (suc n) a c p = rw (front a) (append_by n a c p (λ b h. append_at n b c h) (size_at a) refl (size_at (a ++ c)) refl)

  -- more bytes are cut after the rest
  pub pieces-append : (a c : List ℕ) → pieces size_at (a ++ c) ≡ joined (pieces size_at a) (pieces size_at ((pieces size_at a).rest ++ c))
  pieces-append a c = append_at (length a) a c (omega arith)

  one_by : (t : List ℕ) (byte : ℕ) → size_at t ≡ None → (o : Option ℕ) → size_at (t ++ byte ∷ []) ≡ o
      → with_piece o (t ++ byte ∷ []) (pieces size_at (drop (unwrap_or o 0) (t ++ byte ∷ []))) ≡ grown o (record { whole = []; rest = t }) byte
  one_by t byte h None e = refl
  one_by t byte h (Some k) e =
      let b = settles.bound (t ++ byte ∷ []) k e in
      let l = length-append t (byte ∷ []) in
      let all : length (t ++ byte ∷ []) ≤ k = at_end (nat_lt (length t) k) refl in
      rw (take_all k (t ++ byte ∷ []) all, drop_all k (t ++ byte ∷ []) all, nothing_cut) refl
    where
      at_end : (b : Bool) → nat_lt (length t) k ≡ b → length (t ++ byte ∷ []) ≤ k
      at_end false is = let bad : Some k ≡ None = sym (settles.back t (byte ∷ []) k e (ltb-false (length t) k is)) ∙ h in absurd (cc)
      at_end true is = let l = length-append t (byte ∷ []) in let beyond = ltb-true (length t) k is in omega arith

  -- One byte more completes the piece that it belongs to, or is added to the rest.
  pub pieces-grow : (a : List ℕ) (byte : ℕ) → pieces size_at (a ++ byte ∷ []) ≡ grown (size_at ((pieces size_at a).rest ++ byte ∷ [])) (pieces size_at a) byte
  pieces-grow a byte =
      let rest = (pieces size_at a).rest in
      pieces-append a (byte ∷ [])
      ∙ ap (joined (pieces size_at a)) (front (rest ++ byte ∷ []) ∙ one_by rest byte (rest_none a) (size_at (rest ++ byte ∷ [])) refl)
      ∙ grown_joined (size_at (rest ++ byte ∷ [])) (pieces size_at a) byte

  -- what a cut is, by fuel
  cut_by : (n : ℕ) (a : List ℕ) → length a ≤ suc n → ((b : List ℕ) → length b ≤ n → AreCut size_at b (pieces size_at b)) → (o : Option ℕ) → size_at a ≡ o
      → AreCut size_at a (with_piece o a (pieces size_at (drop (unwrap_or o 0) a)))
  cut_by n a p below None e = record { joined = refl; each = tt; none = e }
  cut_by n a p below (Some k) e =
      let b = settles.bound a k e in
      let l = length-drop k a in
      let t = length-take-le k a b.1 in
      let others = below (drop k a) (omega arith) in
      let whole : size_at (take k a ++ drop k a) ≡ Some k = ap size_at (take-append-drop k a) ∙ e in
      record {
        joined = sym (take-append-drop k a) ∙ ap (λ bytes. take k a ++ bytes) others.joined
            ∙ sym (append_assoc (take k a) (flat_map (λ piece. piece) (pieces size_at (drop k a)).whole) (pieces size_at (drop k a)).rest);
        each = (settles.back (take k a) (drop k a) k whole (omega arith) ∙ ap Some (sym t), others.each);
        none = others.none;
      }

  cut_at : (n : ℕ) (a : List ℕ) → length a ≤ n → AreCut size_at a (pieces size_at a)
  cut_at zero a p = rw (front a, none_in_nothing a p) (record { joined = refl; each = tt; none = none_in_nothing a p })
  cut_at (suc n) a p = rw (front a) (cut_by n a p (cut_at n) (size_at a) refl)

  -- The pieces are a cut of the bytes ..
  pub pieces-cut : (a : List ℕ) → AreCut size_at a (pieces size_at a)
  pieces-cut a = cut_at (length a) a (omega arith)

  cut_alike : (whole : List (List ℕ)) (rest : List ℕ) → AllByRecursion (λ piece. size_at piece ≡ Some (length piece)) whole → size_at rest ≡ None
      → pieces size_at (flat_map (λ piece. piece) whole ++ rest) ≡ record { whole = whole; rest = rest }
  cut_alike [] rest each none = front rest ∙ ap (λ o. with_piece o rest (pieces size_at (drop (unwrap_or o 0) rest))) none
  cut_alike (w ∷ whole) rest each none =
      let later = flat_map (λ piece. piece) whole ++ rest in
      let all = flat_map (λ piece. piece) (w ∷ whole) ++ rest in
      let assoc : all ≡ w ++ later = append_assoc w (flat_map (λ piece. piece) whole) rest in
      let size : size_at all ≡ Some (length w) = ap size_at assoc ∙ settles.stays w later (length w) each.0 in
      let front_is : take (length w) all ≡ w = ap (take (length w)) assoc ∙ take_at w later (length w) refl in
      let back_is : drop (length w) all ≡ later = ap (drop (length w)) assoc ∙ drop_at w later (length w) refl in
      front all
      ∙ ap (λ o. with_piece o all (pieces size_at (drop (unwrap_or o 0) all))) size
      ∙ ap (λ bytes. record { whole = bytes ∷ (pieces size_at (drop (length w) all)).whole; rest = (pieces size_at (drop (length w) all)).rest }) front_is
      ∙ ap (λ bytes. record { whole = w ∷ (pieces size_at bytes).whole; rest = (pieces size_at bytes).rest }) back_is
      ∙ ap (λ (p : Pieces). record { whole = w ∷ p.whole; rest = p.rest }) (cut_alike whole rest each.1 none)

  -- .. and the only one.
  pub pieces-only : (a : List ℕ) (cut : Pieces) → AreCut size_at a cut → cut ≡ pieces size_at a
  pieces-only a cut is = sym (ap (pieces size_at) is.joined ∙ cut_alike cut.whole cut.rest is.each is.none)
