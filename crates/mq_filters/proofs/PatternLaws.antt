-- A filter that matches a topic is the one that its pattern and the topic give (MQTT 5.0, section 4.7).
use Rattle.std.proofs.Common.{◌≡◌, ℕ, ◌==◌, ◌+◌, ◌*◌, ◌/◌, ◌%◌, arith, Bool, true, false, cond, ◌&&◌, ◌||◌, not, List, [], ◌∷◌, ◌++◌, length, append-nil, None, Some, Result, Ok, Err, IfOk, OnOk, Bor, lit<, refl, ap, sym, ◌∙◌, subst}
use Rattle.std.specs.Prelude.{is_none}
use Rattle.std.specs.declared.string.String.{String}
use Rattle.std.specs.String.{string_bytes, string_eq}
use Rattle.std.specs.Str.{bytes_eq}
use Rattle.std.specs.Option.{option_or}
use Rattle.std.specs.List.{list_any, onto_first, position_or_len, after_first, join_with_byte, IsDistinct, AllByRecursion}
use Rattle.std.specs.Map.{keys_of, lookup}
use Rattle.std.proofs.lemmas.Bool.{eqb-true}
use Rattle.std.proofs.lemmas.List.Splits.{join_with_byte-slice_split, slice_split_first, slice_split_none}
use Rattle.std.proofs.lemmas.List.Sums.{fails_before_first}
use Rattle.std.proofs.lemmas.Str.Pattern.{split_once_first, IsSplitOnceResult}
use Rattle.mq_topic.specs.Levels.{is_name, levels_of, level_fault, first_fault, filter_fault}
use Rattle.mq_topic.specs.Matching.{is_hash, is_plus, is_empty, begins_wild, begins_dollar, levels_match, matches}
use Rattle.mq_filters.specs.Standings.{has_ceiling, AllFilters}
use Rattle.mq_filters.specs.Patterning.{pattern_of, filled, fill, is_plain}
use Rattle.mq_filters.proofs.LiteralLaws.{AreNames, levels-named, plain, others, hash-none, plus-none, is_first, is_second, never_true, equal, itself, level-good, matched-levels, matched-name}

-- ---- the pattern of levels

-- what the wildcards in a level count
abbrev kind : List ℕ → ℕ
kind [] = 0
kind (b ∷ level) = cond (b == 43) (kind level + 1) (cond (b == 35) (kind level + 2) (kind level))

abbrev pattern : List (List ℕ) → ℕ
pattern [] = 0
pattern (level ∷ levels) = kind level + pattern levels * 3

pattern-onto : (b : ℕ) (levels : List (List ℕ)) → pattern (onto_first b levels) ≡ cond (b == 43) (pattern levels + 1) (cond (b == 35) (pattern levels + 2) (pattern levels))
pattern-onto b [] = go (b == 43) (b == 35)
  where
    go : (p h : Bool) → cond p 1 (cond h 2 0) + 0 * 3 ≡ cond p 1 (cond h 2 0)
    go true h = refl
    go false true = refl
    go false false = refl
pattern-onto b (level ∷ levels) = go (b == 43) (b == 35)
  where
    go : (p h : Bool) → cond p (kind level + 1) (cond h (kind level + 2) (kind level)) + pattern levels * 3
        ≡ cond p (kind level + pattern levels * 3 + 1) (cond h (kind level + pattern levels * 3 + 2) (kind level + pattern levels * 3))
    go true h = omega arith
    go false true = omega arith
    go false false = refl

pattern-levels : (bytes : List ℕ) → pattern_of bytes ≡ pattern (levels_of bytes)
pattern-levels [] = refl
pattern-levels (b ∷ bytes) = go (b == 47) refl (pattern-levels bytes)
  where
    go : (c : Bool) → (b == 47) ≡ c → pattern_of bytes ≡ pattern (levels_of bytes)
        → cond c (pattern_of bytes * 3) (cond (b == 43) (pattern_of bytes + 1) (cond (b == 35) (pattern_of bytes + 2) (pattern_of bytes))) ≡ pattern (cond c ([] ∷ levels_of bytes) (onto_first b (levels_of bytes)))
    go true n rest = omega (arith, rest)
    go false n rest = ap (λ s. cond (b == 43) (s + 1) (cond (b == 35) (s + 2) s)) rest ∙ sym (pattern-onto b (levels_of bytes))

-- a level without a wildcard counts nothing
kind-named : (level : List ℕ) → is_name level ≡ true → kind level ≡ 0
kind-named [] h = refl
kind-named (b ∷ level) h =
    ap (λ p. cond p (kind level + 1) (cond (b == 35) (kind level + 2) (kind level))) (plus-none b (plain b level h))
    ∙ ap (λ p. cond p (kind level + 2) (kind level)) (hash-none b (plain b level h))
    ∙ kind-named level (others b level h)

-- ---- a filter that matches, by its pattern

filled-by : (s digit rest : ℕ) (name : List ℕ) (names : List (List ℕ)) → s % 3 ≡ digit → s / 3 ≡ rest
    → filled s (name ∷ names) ≡ cond (digit == 2) ((35 ∷ []) ∷ []) (cond (digit == 1) (43 ∷ []) name ∷ filled rest names)
filled-by s digit rest name names d r =
    ap (λ n. cond (n == 2) ((35 ∷ []) ∷ []) (cond (n == 1) (43 ∷ []) name ∷ filled (s / 3) names)) d
    ∙ ap (λ n. cond (digit == 2) ((35 ∷ []) ∷ []) (cond (digit == 1) (43 ∷ []) name ∷ filled n names)) r

-- the first level is the name's, or `+`
same-level : (level name : List ℕ) (rest : ℕ) (names : List (List ℕ)) → is_name name ≡ true → (is_plus level || bytes_eq level name) ≡ true → level ∷ filled rest names ≡ filled (kind level + rest * 3) (name ∷ names)
same-level level name rest names named h = go (is_plus level) refl h
  where
    go : (b : Bool) → is_plus level ≡ b → (b || bytes_eq level name) ≡ true → level ∷ filled rest names ≡ filled (kind level + rest * 3) (name ∷ names)
    go true n h =
        subst (λ (l : List ℕ). l ∷ filled rest names ≡ filled (kind l + rest * 3) (name ∷ names)) (sym (equal level (43 ∷ []) n))
        (sym (filled-by (1 + rest * 3) 1 rest name names (omega arith) (omega arith)))
    go false n h =
        subst (λ (l : List ℕ). l ∷ filled rest names ≡ filled (kind l + rest * 3) (name ∷ names)) (sym (equal level name h))
        (sym (filled-by (kind name + rest * 3) 0 rest name names (let none = kind-named name named in omega (arith, none)) (let none = kind-named name named in omega (arith, none))))

levels-filled : (filters names : List (List ℕ)) → AreNames names → levels_match filters names ≡ true → filters ≡ filled (pattern filters) names
levels-filled [] [] named h = refl
levels-filled [] (name ∷ names) named h = absurd (cc)
levels-filled (level ∷ []) [] named h = subst (λ (l : List ℕ). l ∷ [] ≡ filled (pattern (l ∷ [])) []) (sym (equal level (35 ∷ []) h)) refl
levels-filled (level ∷ next ∷ filters) [] named h = absurd (cc)
levels-filled (level ∷ []) (name ∷ names) named h = go (is_hash level) refl h (levels-filled [] names named.1)
  where
    go : (b : Bool) → is_hash level ≡ b → (b || ((is_plus level || bytes_eq level name) && levels_match [] names)) ≡ true → (levels_match [] names ≡ true → [] ≡ filled 0 names) → level ∷ [] ≡ filled (kind level + 0 * 3) (name ∷ names)
    go true n h rest = subst (λ (l : List ℕ). l ∷ [] ≡ filled (kind l + 0 * 3) (name ∷ names)) (sym (equal level (35 ∷ []) n)) refl
    go false n h rest =
        ap (λ ls. level ∷ ls) (rest (is_second (is_plus level || bytes_eq level name) (levels_match [] names) h))
        ∙ same-level level name 0 names named.0 (is_first (is_plus level || bytes_eq level name) (levels_match [] names) h)
levels-filled (level ∷ next ∷ filters) (name ∷ names) named h =
    ap (λ ls. level ∷ ls) (levels-filled (next ∷ filters) names named.1 (is_second (is_plus level || bytes_eq level name) (levels_match (next ∷ filters) names) h))
    ∙ same-level level name (pattern (next ∷ filters)) names named.0 (is_first (is_plus level || bytes_eq level name) (levels_match (next ∷ filters) names) h)

matched-filled : (filter topic : List ℕ) → matches filter topic ≡ true → filter ≡ fill (pattern_of filter) topic
matched-filled filter topic h =
    sym (join_with_byte-slice_split 47 filter)
    ∙ ap (join_with_byte 47) (levels-filled (levels_of filter) (levels_of topic) (levels-named topic (matched-name filter topic h)) (matched-levels filter topic h))
    ∙ ap (λ s. fill s topic) (sym (pattern-levels filter))

-- ---- the levels of what is filled

-- a level without `/`; levels without `/`
abbrev IsWhole : List ℕ → Type 0
IsWhole [] = Unit {0}
IsWhole (b ∷ level) = ((b == 47) ≡ false) × IsWhole level

abbrev AreWhole : List (List ℕ) → Type 0
AreWhole [] = Unit {0}
AreWhole (level ∷ levels) = IsWhole level × AreWhole levels

levels-whole : (bytes : List ℕ) → AreWhole (levels_of bytes)
levels-whole [] = (tt, tt)
levels-whole (b ∷ bytes) = go (b == 47) refl (levels_of bytes) (levels-whole bytes)
  where
    go : (c : Bool) → (b == 47) ≡ c → (levels : List (List ℕ)) → AreWhole levels → AreWhole (cond c ([] ∷ levels) (onto_first b levels))
    go true n levels rest = (tt, rest)
    go false n [] rest = ((n, tt), tt)
    go false n (level ∷ levels) rest = ((n, rest.0), rest.1)

-- there is a level
abbrev some : List (List ℕ) → Bool
some [] = false
some (level ∷ levels) = true

levels-some : (bytes : List ℕ) → some (levels_of bytes) ≡ true
levels-some [] = refl
levels-some (b ∷ bytes) = go (b == 47) (levels_of bytes)
  where
    go : (c : Bool) (levels : List (List ℕ)) → some (cond c ([] ∷ levels) (onto_first b levels)) ≡ true
    go true levels = refl
    go false [] = refl
    go false (level ∷ levels) = refl

one-level : (level : List ℕ) → IsWhole level → levels_of level ≡ level ∷ []
one-level [] whole = refl
one-level (b ∷ level) whole = ap (λ c. cond c ([] ∷ levels_of level) (onto_first b (levels_of level))) whole.0 ∙ ap (onto_first b) (one-level level whole.1)

first-level : (level bytes : List ℕ) → IsWhole level → levels_of (level ++ (47 ∷ bytes)) ≡ level ∷ levels_of bytes
first-level [] bytes whole = refl
first-level (b ∷ level) bytes whole =
    ap (λ c. cond c ([] ∷ levels_of (level ++ (47 ∷ bytes))) (onto_first b (levels_of (level ++ (47 ∷ bytes))))) whole.0
    ∙ ap (onto_first b) (first-level level bytes whole.1)

joined-levels : (levels : List (List ℕ)) → some levels ≡ true → AreWhole levels → levels_of (join_with_byte 47 levels) ≡ levels
joined-levels [] h whole = absurd (cc)
joined-levels (level ∷ []) h whole = one-level level whole.0
joined-levels (level ∷ next ∷ levels) h whole = first-level level (join_with_byte 47 (next ∷ levels)) whole.0 ∙ ap (λ ls. level ∷ ls) (joined-levels (next ∷ levels) refl whole.1)

filled-some : (s : ℕ) (names : List (List ℕ)) → some names ≡ true → some (filled s names) ≡ true
filled-some s [] h = absurd (cc)
filled-some s (name ∷ names) h = go (s % 3 == 2)
  where
    go : (b : Bool) → some (cond b ((35 ∷ []) ∷ []) (cond (s % 3 == 1) (43 ∷ []) name ∷ filled (s / 3) names)) ≡ true
    go true = refl
    go false = refl

filled-whole : (s : ℕ) (names : List (List ℕ)) → AreWhole names → AreWhole (filled s names)
filled-whole s [] whole = go (s % 3 == 2)
  where
    go : (b : Bool) → AreWhole (cond b ((35 ∷ []) ∷ []) [])
    go true = ((refl, tt), tt)
    go false = tt
filled-whole s (name ∷ names) whole = go (s % 3 == 2) (s % 3 == 1) (filled-whole (s / 3) names whole.1)
  where
    go : (b c : Bool) → AreWhole (filled (s / 3) names) → AreWhole (cond b ((35 ∷ []) ∷ []) (cond c (43 ∷ []) name ∷ filled (s / 3) names))
    go true c rest = ((refl, tt), tt)
    go false true rest = ((refl, tt), rest)
    go false false rest = (whole.0, rest)

fill-levels : (s : ℕ) (topic : List ℕ) → levels_of (fill s topic) ≡ filled s (levels_of topic)
fill-levels s topic = joined-levels (filled s (levels_of topic)) (filled-some s (levels_of topic) (levels-some topic)) (filled-whole s (levels_of topic) (levels-whole topic))

-- ---- what is filled matches, and is valid

also-match : (level : List ℕ) (levels : List (List ℕ)) (name : List ℕ) (names : List (List ℕ)) → (is_plus level || bytes_eq level name) ≡ true → levels_match levels names ≡ true → levels_match (level ∷ levels) (name ∷ names) ≡ true
also-match level [] name names h rest = ap (λ b. is_hash level || (b && levels_match [] names)) h ∙ ap (λ b. is_hash level || b) rest ∙ go (is_hash level)
  where
    go : (b : Bool) → (b || true) ≡ true
    go true = refl
    go false = refl
also-match level (next ∷ levels) name names h rest = ap (λ b. b && levels_match (next ∷ levels) names) h ∙ rest

filled-match : (s : ℕ) (names : List (List ℕ)) → levels_match (filled s names) names ≡ true
filled-match s [] = go (s % 3 == 2)
  where
    go : (b : Bool) → levels_match (cond b ((35 ∷ []) ∷ []) []) [] ≡ true
    go true = refl
    go false = refl
filled-match s (name ∷ names) = go (s % 3 == 2) (s % 3 == 1) (filled-match (s / 3) names)
  where
    same : (is_plus name || bytes_eq name name) ≡ true
    same = ap (λ b. is_plus name || b) (itself name) ∙ or_true (is_plus name)
      where
        or_true : (b : Bool) → (b || true) ≡ true
        or_true true = refl
        or_true false = refl

    go : (b c : Bool) → levels_match (filled (s / 3) names) names ≡ true → levels_match (cond b ((35 ∷ []) ∷ []) (cond c (43 ∷ []) name ∷ filled (s / 3) names)) (name ∷ names) ≡ true
    go true c rest = refl
    go false true rest = also-match (43 ∷ []) (filled (s / 3) names) name names refl rest
    go false false rest = also-match name (filled (s / 3) names) name names same rest

also-good : (level : List ℕ) (levels : List (List ℕ)) → ((last : Bool) → level_fault level last ≡ None) → first_fault levels ≡ None → first_fault (level ∷ levels) ≡ None
also-good level [] h rest = h true
also-good level (next ∷ levels) h rest = ap (λ o. option_or o (first_fault (next ∷ levels))) (h false) ∙ rest

plus-good : (last : Bool) → level_fault (43 ∷ []) last ≡ None
plus-good true = refl
plus-good false = refl

filled-good : (s : ℕ) (names : List (List ℕ)) → AreNames names → first_fault (filled s names) ≡ None
filled-good s [] named = go (s % 3 == 2)
  where
    go : (b : Bool) → first_fault (cond b ((35 ∷ []) ∷ []) []) ≡ None
    go true = refl
    go false = refl
filled-good s (name ∷ names) named = go (s % 3 == 2) (s % 3 == 1) (filled-good (s / 3) names named.1)
  where
    go : (b c : Bool) → first_fault (filled (s / 3) names) ≡ None → first_fault (cond b ((35 ∷ []) ∷ []) (cond c (43 ∷ []) name ∷ filled (s / 3) names)) ≡ None
    go true c rest = refl
    go false true rest = also-good (43 ∷ []) (filled (s / 3) names) plus-good rest
    go false false rest = also-good name (filled (s / 3) names) (λ last. level-good name last named.0) rest

not-wild : (a b : Bool) → not b ≡ true → not (a && b) ≡ true
not-wild true b h = h
not-wild false b h = refl

filled-valid : (filter : List ℕ) (levels : List (List ℕ)) → not (is_name filter) ≡ true → levels_of filter ≡ levels → first_fault levels ≡ None → is_none (filter_fault filter) ≡ true
filled-valid [] levels wild are good = absurd (cc)
filled-valid (b ∷ filter) levels wild are good = ap (λ ls. is_none (first_fault ls)) are ∙ ap (λ o. is_none o) good

filled-matches : (filter topic : List ℕ) (s : ℕ) → not (is_name filter) ≡ true → is_plain topic ≡ true → fill s topic ≡ filter → matches filter topic ≡ true
unfolding matches
filled-matches filter topic s wild plain same =
    ap (λ b. b && (is_name topic && (not (is_empty topic) && (levels_match (levels_of filter) (levels_of topic) && not (begins_wild filter && begins_dollar topic))))) valid
    ∙ ap (λ b. b && (not (is_empty topic) && (levels_match (levels_of filter) (levels_of topic) && not (begins_wild filter && begins_dollar topic)))) named
    ∙ ap (λ b. b && (levels_match (levels_of filter) (levels_of topic) && not (begins_wild filter && begins_dollar topic))) (is_first (not (is_empty topic)) (not (begins_dollar topic)) both)
    ∙ ap (λ b. b && not (begins_wild filter && begins_dollar topic)) (ap (λ ls. levels_match ls (levels_of topic)) are ∙ filled-match s (levels_of topic))
    ∙ not-wild (begins_wild filter) (begins_dollar topic) (is_second (not (is_empty topic)) (not (begins_dollar topic)) both)
  where
    named : is_name topic ≡ true
    named = is_first (is_name topic) (not (is_empty topic) && not (begins_dollar topic)) plain

    both : (not (is_empty topic) && not (begins_dollar topic)) ≡ true
    both = is_second (is_name topic) (not (is_empty topic) && not (begins_dollar topic)) plain

    are : levels_of filter ≡ filled s (levels_of topic)
    are = ap levels_of (sym same) ∙ fill-levels s topic

    valid : is_none (filter_fault filter) ≡ true
    valid = filled-valid filter (filled s (levels_of topic)) wild are (filled-good s (levels_of topic) (levels-named topic named))

-- ---- the filter of a pattern, level by level

filled-none : (names : List (List ℕ)) → filled 0 names ≡ names
filled-none [] = refl
filled-none (name ∷ names) = ap (λ ls. name ∷ ls) (filled-none names)

pub fill-none : (topic : List ℕ) → fill 0 topic ≡ topic
fill-none topic = ap (join_with_byte 47) (filled-none (levels_of topic)) ∙ join_with_byte-slice_split 47 topic

filled-hash : (s : ℕ) → (s % 3 == 2) ≡ true → (names : List (List ℕ)) → filled s names ≡ (35 ∷ []) ∷ []
filled-hash s h [] = ap (λ b. cond b ((35 ∷ []) ∷ []) []) h
filled-hash s h (name ∷ names) = ap (λ b. cond b ((35 ∷ []) ∷ []) (cond (s % 3 == 1) (43 ∷ []) name ∷ filled (s / 3) names)) h

pub fill-hash : (s : ℕ) (topic : List ℕ) → (s % 3 == 2) ≡ true → fill s topic ≡ 35 ∷ []
fill-hash s topic h = ap (join_with_byte 47) (filled-hash s h (levels_of topic))

joined-more : (level : List ℕ) (levels : List (List ℕ)) → some levels ≡ true → join_with_byte 47 (level ∷ levels) ≡ level ++ (47 ∷ join_with_byte 47 levels)
joined-more level [] h = absurd (cc)
joined-more level (next ∷ levels) h = refl

pub fill-cut : (s : ℕ) (topic : List ℕ) (level others : Bor (List ℕ)) → IsSplitOnceResult 47 topic (Some (level, others)) → (s % 3 == 2) ≡ false
    → fill s topic ≡ cond (s % 3 == 1) (43 ∷ []) level.now ++ (47 ∷ fill (s / 3) others.now)
fill-cut s topic level others cases h =
    ap (λ ls. join_with_byte 47 (filled s ls)) are
    ∙ ap (λ b. join_with_byte 47 (cond b ((35 ∷ []) ∷ []) (cond (s % 3 == 1) (43 ∷ []) level.now ∷ filled (s / 3) (levels_of others.now)))) h
    ∙ joined-more (cond (s % 3 == 1) (43 ∷ []) level.now) (filled (s / 3) (levels_of others.now)) (filled-some (s / 3) (levels_of others.now) (levels-some others.now))
  where
    are : levels_of topic ≡ level.now ∷ levels_of others.now
    are =
        let cut = split_once_first 47 topic (Some (level, others)) cases (lit< tt) in
        slice_split_first (λ b. b == 47) topic 0 cut.0 ∙ ap (λ l. l ∷ levels_of (after_first (λ b. b == 47) topic)) (sym cut.1) ∙ ap (λ bs. level.now ∷ levels_of bs) (sym cut.2)

pub fill-last : (s : ℕ) (topic : List ℕ) → IsSplitOnceResult 47 topic None → (s % 3 == 2) ≡ false
    → fill s topic ≡ cond (s % 3 == 1) (43 ∷ []) topic ++ cond (s / 3 % 3 == 2) (47 ∷ 35 ∷ []) []
fill-last s topic cases h =
    ap (λ ls. join_with_byte 47 (filled s ls)) are
    ∙ ap (λ b. join_with_byte 47 (cond b ((35 ∷ []) ∷ []) (cond (s % 3 == 1) (43 ∷ []) topic ∷ filled (s / 3) []))) h
    ∙ go (s / 3 % 3 == 2)
  where
    whole : position_or_len (λ b. b == 47) topic ≡ length topic
    whole = split_once_first 47 topic None cases (lit< tt)

    are : levels_of topic ≡ topic ∷ []
    are = slice_split_none (λ b. b == 47) topic (λ k d lt. fails_before_first (λ b. b == 47) topic k d (omega (arith, whole)))

    go : (b : Bool) → join_with_byte 47 (cond (s % 3 == 1) (43 ∷ []) topic ∷ cond b ((35 ∷ []) ∷ []) []) ≡ cond (s % 3 == 1) (43 ∷ []) topic ++ cond b (47 ∷ 35 ∷ []) []
    go true = refl
    go false = sym (append-nil (cond (s % 3 == 1) (43 ∷ []) topic))

-- ---- a filter of a known pattern is found

found-at : (test : ℕ → Bool) (n : ℕ) → test n ≡ true → (patterns : List ℕ) → list_any (λ s. s == n) patterns ≡ true → list_any test patterns ≡ true
found-at test n h [] known = absurd (cc)
found-at test n h (s ∷ patterns) known = go (s == n) refl known (found-at test n h patterns)
  where
    or_true : (b : Bool) → (b || true) ≡ true
    or_true true = refl
    or_true false = refl

    go : (b : Bool) → (s == n) ≡ b → (b || list_any (λ s. s == n) patterns) ≡ true → (list_any (λ s. s == n) patterns ≡ true → list_any test patterns ≡ true) → (test s || list_any test patterns) ≡ true
    go true e known rest = ap (λ b. b || list_any test patterns) (ap test (eqb-true s n e) ∙ h)
    go false e known rest = ap (λ b. test s || b) (rest known) ∙ or_true (test s)

none-at : (test : ℕ → Bool) → ((s : ℕ) → test s ≡ true → ⊥) → (patterns : List ℕ) → list_any test patterns ≡ true → ⊥
none-at test never [] h = absurd (cc)
none-at test never (s ∷ patterns) h = go (test s) refl h (none-at test never patterns)
  where
    go : (b : Bool) → test s ≡ b → (b || list_any test patterns) ≡ true → (list_any test patterns ≡ true → ⊥) → ⊥
    go true e h rest = never s e
    go false e h rest = rest h

found-by : (patterns : List ℕ) (filter topic : List ℕ) → not (is_name filter) ≡ true → is_plain topic ≡ true → list_any (λ s. s == pattern_of filter) patterns ≡ true
    → list_any (λ s. bytes_eq (fill s topic) filter) patterns ≡ matches filter topic
found-by patterns filter topic wild plain known = go (matches filter topic) refl
  where
    go : (b : Bool) → matches filter topic ≡ b → list_any (λ s. bytes_eq (fill s topic) filter) patterns ≡ b
    go true n =
        found-at (λ s. bytes_eq (fill s topic) filter) (pattern_of filter) (ap (λ f. bytes_eq f filter) (sym (matched-filled filter topic n)) ∙ itself filter) patterns known
    go false n =
        never_true (list_any (λ s. bytes_eq (fill s topic) filter) patterns) (none-at (λ s. bytes_eq (fill s topic) filter) (λ s h.
        let yes = filled-matches filter topic s wild plain (equal (fill s topic) filter h) in absurd (cc)) patterns)

-- ---- those of a map

any-none : (patterns : List ℕ) → list_any (λ s. false) patterns ≡ false
any-none [] = refl
any-none (s ∷ patterns) = any-none patterns

any-with : (p q : ℕ → Bool) (c : Bool) (patterns : List ℕ) → list_any (λ s. (p s && c) || q s) patterns ≡ ((list_any p patterns && c) || list_any q patterns)
any-with p q c [] = refl
any-with p q c (s ∷ patterns) = ap (λ b. ((p s && c) || q s) || b) (any-with p q c patterns) ∙ go (p s) (q s) c (list_any p patterns) (list_any q patterns)
  where
    go : (a b c x y : Bool) → (((a && c) || b) || ((x && c) || y)) ≡ (((a || x) && c) || (b || y))
    go true b true x y = refl
    go true true false true y = refl
    go true true false false y = refl
    go true false false true y = refl
    go true false false false y = refl
    go false true true true y = refl
    go false true true false y = refl
    go false true false true y = refl
    go false true false false y = refl
    go false false true true y = refl
    go false false true false y = refl
    go false false false true y = refl
    go false false false false y = refl

module _ {Y : Type 0} where
  looked-apart : (filter : List ℕ) (test : ℕ → Bool) (k : String Y) (es : List (String Y × ℕ)) → filter ≡ string_bytes k → AllByRecursion (λ y. string_eq k y ≡ false) (keys_of es)
      → list_any (λ e. bytes_eq filter (string_bytes e.0) && test e.1) es ≡ false
  looked-apart filter test k [] same apart = refl
  looked-apart filter test k (e ∷ es) same apart =
      ap (λ b. (b && test e.1) || list_any (λ e. bytes_eq filter (string_bytes e.0) && test e.1) es) (ap (λ f. bytes_eq f (string_bytes e.0)) same ∙ apart.0)
      ∙ looked-apart filter test k es same apart.1

  looked-up : (filter : List ℕ) (test : ℕ → Bool) (es : List (String Y × ℕ)) → IsDistinct string_eq (keys_of es)
      → has_ceiling test (lookup (λ k. bytes_eq filter (string_bytes k)) es) ≡ list_any (λ e. bytes_eq filter (string_bytes e.0) && test e.1) es
  unfolding IsDistinct
  looked-up filter test [] apart = refl
  looked-up filter test (e ∷ es) apart = go (bytes_eq filter (string_bytes e.0)) refl (looked-up filter test es apart.1)
    where
      or_false : (b : Bool) → b ≡ (b || false)
      or_false true = refl
      or_false false = refl

      go : (b : Bool) → bytes_eq filter (string_bytes e.0) ≡ b → has_ceiling test (lookup (λ k. bytes_eq filter (string_bytes k)) es) ≡ list_any (λ e. bytes_eq filter (string_bytes e.0) && test e.1) es
          → has_ceiling test (cond b (Some e.1) (lookup (λ k. bytes_eq filter (string_bytes k)) es)) ≡ ((b && test e.1) || list_any (λ e. bytes_eq filter (string_bytes e.0) && test e.1) es)
      go true n rest = or_false (test e.1) ∙ ap (λ b. test e.1 || b) (sym (looked-apart filter test e.0 es (equal filter (string_bytes e.0) n) apart.0))
      go false n rest = rest

  -- the same filters are found by their entries and by the patterns
  swapped : (topic : List ℕ) (test : ℕ → Bool) (patterns : List ℕ) (es : List (String Y × ℕ))
      → list_any (λ s. list_any (λ e. bytes_eq (fill s topic) (string_bytes e.0) && test e.1) es) patterns ≡ list_any (λ e. list_any (λ s. bytes_eq (fill s topic) (string_bytes e.0)) patterns && test e.1) es
  swapped topic test patterns [] = any-none patterns
  swapped topic test patterns (e ∷ es) =
      any-with (λ s. bytes_eq (fill s topic) (string_bytes e.0)) (λ s. list_any (λ e. bytes_eq (fill s topic) (string_bytes e.0) && test e.1) es) (test e.1) patterns
      ∙ ap (λ b. (list_any (λ s. bytes_eq (fill s topic) (string_bytes e.0)) patterns && test e.1) || b) (swapped topic test patterns es)

  each-found : (topic : List ℕ) (test : ℕ → Bool) (patterns : List ℕ) (es : List (String Y × ℕ)) → is_plain topic ≡ true → AllFilters (λ f. not (is_name f)) es → AllFilters (λ f. list_any (λ s. s == pattern_of f) patterns) es
      → list_any (λ e. list_any (λ s. bytes_eq (fill s topic) (string_bytes e.0)) patterns && test e.1) es ≡ list_any (λ e. matches (string_bytes e.0) topic && test e.1) es
  each-found topic test patterns [] plain wild known = refl
  each-found topic test patterns (e ∷ es) plain wild known =
      ap (λ b. (b && test e.1) || list_any (λ e. list_any (λ s. bytes_eq (fill s topic) (string_bytes e.0)) patterns && test e.1) es) (found-by patterns (string_bytes e.0) topic wild.0 plain known.0)
      ∙ ap (λ b. (matches (string_bytes e.0) topic && test e.1) || b) (each-found topic test patterns es plain wild.1 known.1)

  each-looked : (topic : List ℕ) (test : ℕ → Bool) (es : List (String Y × ℕ)) → IsDistinct string_eq (keys_of es) → (patterns : List ℕ)
      → list_any (λ s. has_ceiling test (lookup (λ k. bytes_eq (fill s topic) (string_bytes k)) es)) patterns ≡ list_any (λ s. list_any (λ e. bytes_eq (fill s topic) (string_bytes e.0) && test e.1) es) patterns
  each-looked topic test es apart [] = refl
  each-looked topic test es apart (s ∷ patterns) =
      ap (λ b. b || list_any (λ s. has_ceiling test (lookup (λ k. bytes_eq (fill s topic) (string_bytes k)) es)) patterns) (looked-up (fill s topic) test es apart)
      ∙ ap (λ b. list_any (λ e. bytes_eq (fill s topic) (string_bytes e.0) && test e.1) es || b) (each-looked topic test es apart patterns)

  pub patterns-any : (topic : List ℕ) (test : ℕ → Bool) (patterns : List ℕ) (es : List (String Y × ℕ)) → is_plain topic ≡ true → AllFilters (λ f. not (is_name f)) es → AllFilters (λ f. list_any (λ s. s == pattern_of f) patterns) es → IsDistinct string_eq (keys_of es)
      → list_any (λ s. has_ceiling test (lookup (λ k. bytes_eq (fill s topic) (string_bytes k)) es)) patterns ≡ list_any (λ e. matches (string_bytes e.0) topic && test e.1) es
  patterns-any topic test patterns es plain wild known apart = each-looked topic test es apart patterns ∙ swapped topic test patterns es ∙ each-found topic test patterns es plain wild known

-- what follows from an answer, where there is one
pub ok-more : {T E : Type 0} (P Q : T → Type 0) (r : Result T E) → ((x : T) → P x → Q x) → IfOk r P → IfOk r Q
ok-more P Q (Ok x) f h = f x h
ok-more P Q (Err e) f h = tt

pub on-ok : {T E A B : Type 0} (r : Result T E) → (A → B) → OnOk r A → OnOk r B
on-ok (Ok x) f h = f h
on-ok (Err e) f h = tt

pub appended : (before level rest : List ℕ) → ((before ++ level) ++ (47 ∷ [])) ++ rest ≡ before ++ (level ++ (47 ∷ rest))
appended [] [] rest = refl
appended [] (b ∷ level) rest = ap (λ l. b ∷ l) (appended [] level rest)
appended (b ∷ before) level rest = ap (λ l. b ∷ l) (appended before level rest)

pub all-more : {Y : Type 0} (p q : List ℕ → Bool) → ((f : List ℕ) → p f ≡ true → q f ≡ true) → (es : List (String Y × ℕ)) → AllFilters p es → AllFilters q es
all-more p q more [] all = tt
all-more p q more (e ∷ es) all = (more (string_bytes e.0) all.0, all-more p q more es all.1)

pub none-there : {A : Type 0} (test : A → Bool) (es : List A) → length es ≡ 0 → false ≡ list_any test es
none-there test [] h = refl
none-there test (e ∷ es) h = absurd (omega (arith, h))
