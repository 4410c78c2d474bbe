-- What is known of a filter, after all filters of a packet.
use Rattle.std.proofs.Common.{◌≡◌, ℕ, ◌+◌, ◌-◌, ◌==◌, nat_lt, arith, Bool, true, false, cond, ◌&&◌, ◌||◌, not, List, [], ◌∷◌, Option, Some, None, refl, ap, sym, ◌∙◌}
use Rattle.std.specs.Prelude.{option_map, unwrap_or}
use Rattle.std.specs.Option.{option_or}
use Rattle.std.specs.Str.{bytes_eq}
use Rattle.std.specs.List.{list_any}
use Rattle.std.proofs.lemmas.Bool.Decides.{nat_tests}
use Rattle.std.proofs.lemmas.Slice.Eq.{bytes_eq-Decides}
use Rattle.mq_rules.specs.declared.text.NotedFilter.{NotedFilter}
use Rattle.mq_rules.specs.Words.{only}
use Rattle.mq_rules.specs.Notes.{refuses}
use Rattle.mq_rules.specs.Subscriptions.{Standing, granted}
use Rattle.mq_rules.specs.FurtherSubscriptions.{has_filter, last_code, subscribed_each, some_coded}
use Rattle.mq_subscriptions.specs.declared.requested.FilterState.{FilterState}
use Rattle.mq_subscriptions.specs.Deletings.{no_request, named, stands_at, refused, asked_at, asked_once, asked_each, coded, coded_once, coded_each, some_stood}

-- two texts are equal, whichever comes first
pub eq-turn : (a b : List ℕ) → bytes_eq a b ≡ bytes_eq b a
eq-turn a b = go (bytes_eq a b) refl (bytes_eq b a) refl
  where
    go : (x : Bool) → bytes_eq a b ≡ x → (y : Bool) → bytes_eq b a ≡ y → x ≡ y
    go true h true k = refl
    go false h false k = refl
    go true h false k = sym ((bytes_eq-Decides b a).1 (sym ((bytes_eq-Decides a b).0 h))) ∙ k
    go false h true k = sym h ∙ (bytes_eq-Decides a b).1 (sym ((bytes_eq-Decides b a).0 k))

-- ---- where it isn't among them

pub none-named : (more : ℕ) (f : List ℕ) (gs : List NotedFilter) → has_filter f gs ≡ false → named more f gs ≡ 0
none-named more f [] h = refl
none-named more f (g ∷ gs) h = go (bytes_eq f g.filter) h (none-named more f gs)
  where
    go : (b : Bool) → (b || has_filter f gs) ≡ false → (has_filter f gs ≡ false → named more f gs ≡ 0) → cond b more 0 + named more f gs ≡ 0
    go true h rest = absurd (cc)
    go false h rest = let none = rest h in omega (arith, none)

pub nothing-named : (f : List ℕ) (gs : List NotedFilter) → named 0 f gs ≡ 0
nothing-named f [] = refl
nothing-named f (g ∷ gs) = go (bytes_eq f g.filter) (nothing-named f gs)
  where
    go : (b : Bool) → named 0 f gs ≡ 0 → cond b 0 0 + named 0 f gs ≡ 0
    go true rest = omega (arith, rest)
    go false rest = omega (arith, rest)

pub none-stands : (f : List ℕ) (gs : List NotedFilter) (codes : List ℕ) → has_filter f gs ≡ false → stands_at f (granted gs codes) ≡ 0
none-stands f [] codes h = refl
none-stands f (g ∷ gs) [] h = go (bytes_eq f g.filter) h (none-stands f gs [])
  where
    go : (b : Bool) → (b || has_filter f gs) ≡ false → (has_filter f gs ≡ false → stands_at f (granted gs []) ≡ 0) → cond b 1 0 + stands_at f (granted gs []) ≡ 0
    go true h rest = absurd (cc)
    go false h rest = let none = rest h in omega (arith, none)
none-stands f (g ∷ gs) (code ∷ codes) h = go (bytes_eq f g.filter) refl h (refuses code) (none-stands f gs codes)
  where
    go : (b : Bool) → bytes_eq f g.filter ≡ b → (b || has_filter f gs) ≡ false → (r : Bool) → (has_filter f gs ≡ false → stands_at f (granted gs codes) ≡ 0)
        → stands_at f (cond r (granted gs codes) (record { filter = g.filter; ceiling = code } ∷ granted gs codes)) ≡ 0
    go true is h r rest = absurd (cc)
    go false is h true rest = rest h
    go false is h false rest = let none = rest h in ap (λ b. cond b 1 0 + stands_at f (granted gs codes)) is ∙ omega (arith, none)

-- ---- a request

pub asked-all : (at more : ℕ) (gs : List NotedFilter) (f : List ℕ) (old : Option FilterState)
    → asked_each at more gs f old ≡ cond (has_filter f gs) (Some (record { at = at; granted = false; places = named more f gs + (unwrap_or old no_request).places })) old
asked-all at more [] f old = refl
asked-all at more (g ∷ gs) f old = asked-all at more gs f (asked_once at more g.filter f old) ∙ go (bytes_eq f g.filter) (has_filter f gs) refl
  where
    kept : ℕ
    kept = (unwrap_or old no_request).places

    moved : named more f gs + (more + kept) ≡ (more + named more f gs) + kept
    moved = omega arith

    alone : has_filter f gs ≡ false → more + kept ≡ (more + named more f gs) + kept
    alone h = let none = none-named more f gs h in omega (arith, none)

    with_none : named more f gs + kept ≡ (0 + named more f gs) + kept
    with_none = omega arith

    go : (b h : Bool) → has_filter f gs ≡ h
        → cond h (Some (record { at = at; granted = false; places = named more f gs + (unwrap_or (cond b (Some (asked_at at more old)) old) no_request).places })) (cond b (Some (asked_at at more old)) old)
        ≡ cond (b || h) (Some (record { at = at; granted = false; places = (cond b more 0 + named more f gs) + kept })) old
    go true true is = ap (λ n. Some (record { at = at; granted = false; places = n })) moved
    go true false is = ap (λ n. Some (record { at = at; granted = false; places = n })) (alone is)
    go false true is = ap (λ n. Some (record { at = at; granted = false; places = n })) with_none
    go false false is = refl

-- ---- Reason Codes

pub uncoded : (f : List ℕ) (gs : List NotedFilter) → last_code f gs [] ≡ None
uncoded f [] = refl
uncoded f (g ∷ gs) = refl

-- by the last place that has one
abbrev pub coded_all : ℕ → List ℕ → List NotedFilter → List ℕ → FilterState → FilterState
coded_all at f gs codes s = record { at = s.at; granted = cond (s.at == at) (unwrap_or (option_map (λ code. not (refuses code)) (last_code f gs codes)) s.granted) s.granted; places = s.places - refused f gs codes }

never-coded : (at : ℕ) (s : FilterState) → s ≡ record { at = s.at; granted = cond (s.at == at) s.granted s.granted; places = s.places - 0 }
never-coded at s = go (s.at == at) ∙ ap (λ n. record { at = s.at; granted = cond (s.at == at) s.granted s.granted; places = n }) (omega arith)
  where
    go : (b : Bool) → s ≡ record { at = s.at; granted = cond b s.granted s.granted; places = s.places }
    go true = refl
    go false = refl

pub coded-each : (at : ℕ) (gs : List NotedFilter) (codes f : List ℕ) (old : Option FilterState) → coded_each at gs codes f old ≡ option_map (coded_all at f gs codes) old
coded-each at [] codes f None = refl
coded-each at [] codes f (Some s) = ap Some (never-coded at s)
coded-each at (g ∷ gs) [] f None = refl
coded-each at (g ∷ gs) [] f (Some s) = ap Some (never-coded at s)
coded-each at (g ∷ gs) (code ∷ codes) f None = ap (coded_each at gs codes f) (never (bytes_eq f g.filter)) ∙ coded-each at gs codes f None
  where
    never : (b : Bool) → cond b (option_map (coded at code) None) None ≡ None
    never true = refl
    never false = refl
coded-each at (g ∷ gs) (code ∷ codes) f (Some s) = coded-each at gs codes f (coded_once at g.filter code f (Some s)) ∙ go (bytes_eq f g.filter) (s.at == at) refl
  where
    taken : s.places - cond (refuses code) 1 0 - refused f gs codes ≡ s.places - (cond (refuses code) 1 0 + refused f gs codes)
    taken = omega arith

    left : s.places - refused f gs codes ≡ s.places - (0 + refused f gs codes)
    left = omega arith

    later : (o : Option ℕ) (b : Bool) → unwrap_or (option_map (λ code. not (refuses code)) o) b ≡ unwrap_or (option_map (λ code. not (refuses code)) (option_or o None)) b
    later None b = refl
    later (Some code) b = refl

    first : (o : Option ℕ) (b : Bool) → unwrap_or (option_map (λ code. not (refuses code)) o) (not (refuses code)) ≡ unwrap_or (option_map (λ code. not (refuses code)) (option_or o (Some code))) b
    first None b = refl
    first (Some other) b = refl

    go : (b a : Bool) → (s.at == at) ≡ a
        → option_map (coded_all at f gs codes) (cond b (Some (record { at = s.at; granted = cond (s.at == at) (not (refuses code)) s.granted; places = s.places - cond (refuses code) 1 0 })) (Some s))
        ≡ Some (record { at = s.at; granted = cond (s.at == at) (unwrap_or (option_map (λ code. not (refuses code)) (option_or (last_code f gs codes) (only b (Some code)))) s.granted) s.granted; places = s.places - (cond (b && refuses code) 1 0 + refused f gs codes) })
    go true true is =
        ap (λ a. Some (record { at = s.at; granted = cond a (unwrap_or (option_map (λ code. not (refuses code)) (last_code f gs codes)) (cond a (not (refuses code)) s.granted)) (cond a (not (refuses code)) s.granted); places = s.places - cond (refuses code) 1 0 - refused f gs codes })) is
        ∙ ap (λ g. Some (record { at = s.at; granted = g; places = s.places - cond (refuses code) 1 0 - refused f gs codes })) (first (last_code f gs codes) s.granted)
        ∙ ap (λ a. Some (record { at = s.at; granted = cond a (unwrap_or (option_map (λ code. not (refuses code)) (option_or (last_code f gs codes) (Some code))) s.granted) s.granted; places = s.places - cond (refuses code) 1 0 - refused f gs codes })) (sym is)
        ∙ ap (λ n. Some (record { at = s.at; granted = cond (s.at == at) (unwrap_or (option_map (λ code. not (refuses code)) (option_or (last_code f gs codes) (Some code))) s.granted) s.granted; places = n })) taken
    go true false is =
        ap (λ a. Some (record { at = s.at; granted = cond a (unwrap_or (option_map (λ code. not (refuses code)) (last_code f gs codes)) (cond a (not (refuses code)) s.granted)) (cond a (not (refuses code)) s.granted); places = s.places - cond (refuses code) 1 0 - refused f gs codes })) is
        ∙ ap (λ a. Some (record { at = s.at; granted = cond a (unwrap_or (option_map (λ code. not (refuses code)) (option_or (last_code f gs codes) (Some code))) s.granted) s.granted; places = s.places - cond (refuses code) 1 0 - refused f gs codes })) (sym is)
        ∙ ap (λ n. Some (record { at = s.at; granted = cond (s.at == at) (unwrap_or (option_map (λ code. not (refuses code)) (option_or (last_code f gs codes) (Some code))) s.granted) s.granted; places = n })) taken
    go false a is =
        ap (λ g. Some (record { at = s.at; granted = cond (s.at == at) g s.granted; places = s.places - refused f gs codes })) (later (last_code f gs codes) s.granted)
        ∙ ap (λ n. Some (record { at = s.at; granted = cond (s.at == at) (unwrap_or (option_map (λ code. not (refuses code)) (option_or (last_code f gs codes) None)) s.granted) s.granted; places = n })) left

-- each place of a SUBSCRIBE stands as long as it has no Reason Code, and then unless that refuses it
pub all-named : (f : List ℕ) (gs : List NotedFilter) → named 1 f gs ≡ stands_at f (granted gs [])
all-named f [] = refl
all-named f (g ∷ gs) = let rest = all-named f gs in omega (arith, rest)

abbrev once : Bool → ℕ
once b = cond b 1 0

never-once : (b : Bool) → once (b && false) ≡ 0
never-once true = refl
never-once false = refl

pub stands-refused : (f : List ℕ) (gs : List NotedFilter) (codes : List ℕ) → stands_at f (granted gs []) ≡ stands_at f (granted gs codes) + refused f gs codes
stands-refused f [] codes = omega arith
stands-refused f (g ∷ gs) [] = omega arith
stands-refused f (g ∷ gs) (code ∷ codes) = go (bytes_eq f g.filter) refl (refuses code) (stands-refused f gs codes)
  where
    go : (b : Bool) → bytes_eq f g.filter ≡ b → (r : Bool) → stands_at f (granted gs []) ≡ stands_at f (granted gs codes) + refused f gs codes
        → cond b 1 0 + stands_at f (granted gs []) ≡ stands_at f (cond r (granted gs codes) (record { filter = g.filter; ceiling = code } ∷ granted gs codes)) + (cond (b && r) 1 0 + refused f gs codes)
    go b is false rest = let same : once (bytes_eq f g.filter) ≡ once b = ap once is in let none = never-once b in omega (arith, rest, same, none)
    go true is true rest = omega (arith, rest)
    go false is true rest = omega (arith, rest)

-- some place stands
pub any-stands : (f : List ℕ) (ss : List Standing) → list_any (λ s. bytes_eq f s.filter) ss ≡ nat_lt 0 (stands_at f ss)
any-stands f [] = sym (nothing 0 refl)
  where
    nothing : (n : ℕ) → n ≡ 0 → nat_lt 0 n ≡ false
    nothing n is = grind (arith, nat_tests)
any-stands f (s ∷ ss) = go (bytes_eq f s.filter) (any-stands f ss)
  where
    first : (n : ℕ) → true ≡ nat_lt 0 (1 + n)
    first n = grind (arith, nat_tests)

    later : (n : ℕ) → nat_lt 0 n ≡ nat_lt 0 (0 + n)
    later n = grind (arith, nat_tests)

    go : (b : Bool) → list_any (λ s. bytes_eq f s.filter) ss ≡ nat_lt 0 (stands_at f ss) → (b || list_any (λ s. bytes_eq f s.filter) ss) ≡ nat_lt 0 (cond b 1 0 + stands_at f ss)
    go true rest = first (stands_at f ss)
    go false rest = rest ∙ later (stands_at f ss)

-- ---- subscriptions that stood

-- some filter that passes both tests, each at its first place alone
pub stood-each : (subscribed still : List ℕ → Bool) (test : ℕ → Bool) (gs : List NotedFilter) (codes : List ℕ)
    → some_coded (λ stands code. stands && test code) (subscribed_each (λ f. subscribed f && still f) gs) codes ≡ some_stood still test gs (subscribed_each subscribed gs) codes
stood-each subscribed still test [] codes = refl
stood-each subscribed still test (g ∷ gs) [] = refl
stood-each subscribed still test (g ∷ gs) (code ∷ codes) =
    ap (λ b. ((subscribed g.filter && still g.filter) && test code) || b)
    ((λ i. some_coded (λ stands code. stands && test code) (subscribed_each (λ f. moved (subscribed f) (still f) (bytes_eq f g.filter) i) gs) codes)
    ∙ stood-each (λ f. subscribed f && not (bytes_eq f g.filter)) still test gs codes)
  where
    moved : (a b c : Bool) → ((a && b) && not c) ≡ ((a && not c) && b)
    moved true true c = go (not c)
      where
        go : (d : Bool) → d ≡ (d && true)
        go true = refl
        go false = refl
    moved true false c = go (not c)
      where
        go : (d : Bool) → false ≡ (d && false)
        go true = refl
        go false = refl
    moved false b c = refl
