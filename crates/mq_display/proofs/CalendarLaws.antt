-- Years and months, looked for by counting on.
use Rattle.std.proofs.Common.{◌≡◌, ℕ, zero, suc, ◌+◌, ◌-◌, ◌≤◌, ◌<◌, Bool, true, false, nat_le, refl, ap, subst, ◌∙◌, arith}
use Rattle.std.specs.Prelude.{◌==◌, ◌||◌, if◌then◌else◌}
use Rattle.mq_display.specs.Calendar.{IsDate, day_of_month, days_before_month, days_before_year, days_of_month, days_of_year, days_of_year_before, is_leap_year, last_begun, month_of, sum_of_first, year_of}

-- a sum of more numbers is no less
pub sum_rises : (f : ℕ → ℕ) (a b : ℕ) → a ≤ b → sum_of_first a f ≤ sum_of_first b f
unfolding sum_of_first
sum_rises f a zero le = let none : a ≡ 0 = omega (arith, le) in rw none (omega arith)
sum_rises f a (suc b) le = go (sum_rises f a b) (nat_le a b) refl
  where
    go : (a ≤ b → sum_of_first a f ≤ sum_of_first b f) → (t : Bool) → nat_le a b ≡ t → sum_of_first a f ≤ sum_of_first b f + f b
    go fewer true is = let less = fewer (grind arith) in omega (arith, less)
    go fewer false is = let all : a ≡ suc b = grind arith in rw all (omega arith)

pub year_rises : (a b : ℕ) → a ≤ b → days_before_year a ≤ days_before_year b
unfolding days_before_year
year_rises a b le = sum_rises (λ n. days_of_year (1970 + n)) (a - 1970) (b - 1970) (omega (arith, le))

pub month_rises : (year a b : ℕ) → a ≤ b → days_before_month year a ≤ days_before_month year b
unfolding days_before_month
month_rises year a b le = sum_rises (λ n. days_of_month year (1 + n)) (a - 1) (b - 1) (omega (arith, le))

-- one year more
pub year_next : (year : ℕ) → 1970 ≤ year → days_before_year (year + 1) ≡ days_before_year year + days_of_year year
unfolding days_before_year sum_of_first
year_next year low =
    let after : year + 1 - 1970 ≡ suc (year - 1970) = omega (arith, low) in
    let same : 1970 + (year - 1970) ≡ year = omega (arith, low) in
    ap (λ (n : ℕ). sum_of_first n (λ n. days_of_year (1970 + n))) after
    ∙ ap (λ (y : ℕ). sum_of_first (year - 1970) (λ n. days_of_year (1970 + n)) + days_of_year y) same

-- one month more
pub month_next : (year month : ℕ) → 1 ≤ month → days_before_month year (month + 1) ≡ days_before_month year month + days_of_month year month
unfolding days_before_month sum_of_first
month_next year month low =
    let after : month + 1 - 1 ≡ suc (month - 1) = omega (arith, low) in
    let same : 1 + (month - 1) ≡ month = omega (arith, low) in
    ap (λ (n : ℕ). sum_of_first n (λ n. days_of_month year (1 + n))) after
    ∙ ap (λ (m : ℕ). sum_of_first (month - 1) (λ n. days_of_month year (1 + n)) + days_of_month year m) same

-- The last one that has begun is the one that has begun, while the next one hasn't.
pub last_begun_is : (begins : ℕ → ℕ) (last days n : ℕ) → ((a b : ℕ) → a ≤ b → begins a ≤ begins b) → n ≤ last → begins n ≤ days → days < begins (n + 1)
    → last_begun begins last days ≡ n
unfolding last_begun
last_begun_is begins zero days n rises le begun next = omega (arith, le)
last_begun_is begins (suc m) days n rises le begun next = go (λ fewer. last_begun_is begins m days n rises fewer begun next) (nat_le (begins (suc m)) days) refl
  where
    go : (n ≤ m → last_begun begins m days ≡ n) → (t : Bool) → nat_le (begins (suc m)) days ≡ t → (if t then suc m else last_begun begins m days) ≡ n
    go earlier true is = at (nat_le (n + 1) (suc m)) refl
      where
        at : (t : Bool) → nat_le (n + 1) (suc m) ≡ t → suc m ≡ n
        at true later = let more = rises (n + 1) (suc m) (grind arith) in absurd (grind (arith, more))
        at false later = grind arith
    go earlier false is = earlier (before (nat_le n m) refl)
      where
        before : (t : Bool) → nat_le n m ≡ t → n ≤ m
        before true fewer = grind arith
        before false more = absurd (let all : n ≡ suc m = grind arith in let some : begins (suc m) ≤ days = subst (λ (k : ℕ). begins k ≤ days) all begun in grind (arith, some))

-- ---- counting on from a first year, or from a first month

-- a year has some days
pub year_some : (year : ℕ) → 0 < days_of_year year
unfolding days_of_year
year_some year = go (is_leap_year year)
  where
    go : (t : Bool) → 0 < (if t then 366 else 365)
    go true = omega arith
    go false = omega arith

-- a month has some days, and at most 31
pub month_bounds : (year month : ℕ) → (0 < days_of_month year month) × (days_of_month year month ≤ 31)
unfolding days_of_month
month_bounds year month = go (month == 4 || month == 6 || month == 9 || month == 11) (month == 2) (is_leap_year year)
  where
    go : (a b t : Bool) → (0 < (if a then 30 else (if b then (if t then 29 else 28) else 31))) × ((if a then 30 else (if b then (if t then 29 else 28) else 31)) ≤ 31)
    go true b t = (omega arith, omega arith)
    go false true true = (omega arith, omega arith)
    go false true false = (omega arith, omega arith)
    go false false t = (omega arith, omega arith)

-- the twelve months of a year are its days
pub months_whole : (year : ℕ) → days_before_month year 13 ≡ days_of_year year
unfolding days_before_month sum_of_first days_of_month days_of_year
months_whole year = go (is_leap_year year) refl
  where
    go : (t : Bool) → is_leap_year year ≡ t → days_before_month year 13 ≡ days_of_year year
    go true is = rw is refl
    go false is = rw is refl

-- A day comes so many days after the first day of this year, which may be later than its own.
pub record IsAfterYears (day year days : ℕ) : Type 0 where
  pub low : 1970 ≤ year
  pub sum : days_before_year year + days ≡ day

pub years_begin : (day : ℕ) → IsAfterYears day 1970 day
unfolding days_before_year sum_of_first
years_begin day = record { low = omega arith; sum = omega arith }

pub years_go_on : (day year days count : ℕ) → IsAfterYears day year days → count ≡ days_of_year year → count ≤ days → IsAfterYears day (year + 1) (days - count)
years_go_on day year days count so_far is some = record { low = omega (arith, so_far.low); sum = omega (arith, so_far.sum, year_next year so_far.low, is, some) }

-- all years up to 2099 have this many days
pub years_whole : days_before_year 2100 ≡ 47482
unfolding days_before_year sum_of_first days_of_year is_leap_year
years_whole = refl

pub years_end : (day year days : ℕ) → IsAfterYears day year days → day < 47482 → year ≤ 2099
years_end day year days so_far small = go (nat_le 2100 year) refl
  where
    go : (t : Bool) → nat_le 2100 year ≡ t → year ≤ 2099
    go true is = let more = year_rises 2100 year (grind arith) in absurd (omega (arith, more, years_whole, so_far.sum, small))
    go false is = grind arith

pub year_found : (day year days : ℕ) → IsAfterYears day year days → day < 47482 → days < days_of_year year → year_of day ≡ year
unfolding year_of
year_found day year days so_far small rest =
    last_begun_is days_before_year 2099 day year year_rises (years_end day year days so_far small) (omega (arith, so_far.sum))
    (omega (arith, so_far.sum, rest, year_next year so_far.low))

-- A day that comes so many days after the first day of this year comes so many days after the first day of this month.
pub record IsAfterMonths (year before month days : ℕ) : Type 0 where
  pub low : 1 ≤ month
  pub sum : days_before_month year month + days ≡ before

pub months_begin : (year before : ℕ) → IsAfterMonths year before 1 before
unfolding days_before_month sum_of_first
months_begin year before = record { low = omega arith; sum = omega arith }

pub months_go_on : (year before month days count : ℕ) → IsAfterMonths year before month days → count ≡ days_of_month year month → count ≤ days
    → IsAfterMonths year before (month + 1) (days - count)
months_go_on year before month days count so_far is some =
    record { low = omega (arith, so_far.low); sum = omega (arith, so_far.sum, month_next year month so_far.low, is, some) }

pub months_end : (year before month days : ℕ) → IsAfterMonths year before month days → before < days_of_year year → month ≤ 12
months_end year before month days so_far small = go (nat_le 13 month) refl
  where
    go : (t : Bool) → nat_le 13 month ≡ t → month ≤ 12
    go true is = let more = month_rises year 13 month (grind arith) in absurd (omega (arith, more, months_whole year, so_far.sum, small))
    go false is = grind arith

pub month_found : (year before month days : ℕ) → IsAfterMonths year before month days → before < days_of_year year → days < days_of_month year month
    → last_begun (days_before_month year) 12 before ≡ month
month_found year before month days so_far small rest =
    last_begun_is (days_before_month year) 12 before month (month_rises year) (months_end year before month days so_far small) (omega (arith, so_far.sum))
    (omega (arith, so_far.sum, rest, month_next year month so_far.low))

-- ---- the date of a day, by what its days add up to

-- The last one that has begun has begun, if the first one has.
pub begun : (begins : ℕ → ℕ) (last days : ℕ) → begins 0 ≤ days → begins (last_begun begins last days) ≤ days
unfolding last_begun
begun begins zero days first = first
begun begins (suc m) days first = go (begun begins m days first) (nat_le (begins (suc m)) days) refl
  where
    go : begins (last_begun begins m days) ≤ days → (t : Bool) → nat_le (begins (suc m)) days ≡ t → begins (if t then suc m else last_begun begins m days) ≤ days
    go earlier true is = grind (arith, is)
    go earlier false is = earlier

-- The one after it hasn't, if that after the last one of all hasn't.
pub not_begun : (begins : ℕ → ℕ) (last days : ℕ) → days < begins (last + 1) → days < begins (last_begun begins last days + 1)
unfolding last_begun
not_begun begins zero days next = next
not_begun begins (suc m) days next = go (not_begun begins m days) (nat_le (begins (suc m)) days) refl
  where
    go : (days < begins (m + 1) → days < begins (last_begun begins m days + 1)) → (t : Bool) → nat_le (begins (suc m)) days ≡ t
        → days < begins ((if t then suc m else last_begun begins m days) + 1)
    go earlier true is = next
    go earlier false is =
        let same : suc m ≡ m + 1 = omega arith in
        let later : days < begins (suc m) = grind (arith, is) in
        earlier (subst (λ (k : ℕ). days < begins k) same later)

none_before : (year : ℕ) → year ≤ 1970 → days_before_year year ≡ 0
unfolding days_before_year sum_of_first
none_before year le = ap (λ (n : ℕ). sum_of_first n (λ n. days_of_year (1970 + n))) (let none : year - 1970 ≡ 0 = omega (arith, le) in none)

none_before_month : (year month : ℕ) → month ≤ 1 → days_before_month year month ≡ 0
unfolding days_before_month sum_of_first
none_before_month year month le = ap (λ (n : ℕ). sum_of_first n (λ n. days_of_month year (1 + n))) (let none : month - 1 ≡ 0 = omega (arith, le) in none)

year_low : (day : ℕ) → day < days_before_year (year_of day + 1) → 1970 ≤ year_of day
year_low day next = go (nat_le (year_of day + 1) 1970) refl
  where
    go : (t : Bool) → nat_le (year_of day + 1) 1970 ≡ t → 1970 ≤ year_of day
    go true is = let none = none_before (year_of day + 1) (grind arith) in absurd (omega (arith, none, next))
    go false is = grind arith

month_low : (year days month : ℕ) → days < days_before_month year (month + 1) → 1 ≤ month
month_low year days month next = go (nat_le (month + 1) 1) refl
  where
    go : (t : Bool) → nat_le (month + 1) 1 ≡ t → 1 ≤ month
    go true is = let none = none_before_month year (month + 1) (grind arith) in absurd (omega (arith, none, next))
    go false is = grind arith

last_at_most : (begins : ℕ → ℕ) (last days : ℕ) → last_begun begins last days ≤ last
unfolding last_begun
last_at_most begins zero days = omega arith
last_at_most begins (suc m) days = go (last_at_most begins m days) (nat_le (begins (suc m)) days)
  where
    go : last_begun begins m days ≤ m → (t : Bool) → (if t then suc m else last_begun begins m days) ≤ suc m
    go earlier true = omega arith
    go earlier false = omega (arith, earlier)

-- the date that is found is that of the day
pub date_found : (day : ℕ) → day < 47482 → IsDate day (year_of day) (month_of day) (day_of_month day)
unfolding year_of month_of day_of_month days_of_year_before
date_found day small =
    let year : ℕ = last_begun days_before_year 2099 day in
    let start : days_before_year 0 ≡ 0 = none_before 0 (omega arith) in
    let had : days_before_year year ≤ day = begun days_before_year 2099 day (omega (arith, start)) in
    let next : day < days_before_year (year + 1) = not_begun days_before_year 2099 day (omega (arith, years_whole, small)) in
    let low : 1970 ≤ year = year_low day next in
    let more : days_before_year (year + 1) ≡ days_before_year year + days_of_year year = year_next year low in
    let days : ℕ = day - days_before_year year in
    let month : ℕ = last_begun (days_before_month year) 12 days in
    let start_of_year : days_before_month year 0 ≡ 0 = none_before_month year 0 (omega arith) in
    let had_month : days_before_month year month ≤ days = begun (days_before_month year) 12 days (omega (arith, start_of_year)) in
    let next_month : days < days_before_month year (month + 1) = not_begun (days_before_month year) 12 days (omega (arith, months_whole year, more, had, next)) in
    let low_month : 1 ≤ month = month_low year days month next_month in
    let more_month : days_before_month year (month + 1) ≡ days_before_month year month + days_of_month year month = month_next year month low_month in
    record {
      first_year = low;
      first_month = low_month;
      last_month = last_at_most (days_before_month year) 12 days;
      first_day = omega arith;
      last_day = omega (arith, more_month, next_month, had_month);
      days = omega (arith, had, had_month);
    }

-- no other date is
pub date_alone : (day year month number : ℕ) → day < 47482 → IsDate day year month number → (year_of day ≡ year) × (month_of day ≡ month) × (day_of_month day ≡ number)
unfolding month_of day_of_month days_of_year_before
date_alone day year month number small date =
    let days : ℕ = days_before_month year month + (number - 1) in
    let years : IsAfterYears day year days = record { low = date.first_year; sum = omega (arith, date.days) } in
    let to_next : days_before_month year (month + 1) ≤ days_before_month year 13 = month_rises year (month + 1) 13 (omega (arith, date.last_month)) in
    let more : days_before_month year (month + 1) ≡ days_before_month year month + days_of_month year month = month_next year month date.first_month in
    let within : days < days_of_year year = omega (arith, to_next, more, months_whole year, date.first_day, date.last_day) in
    let year_is : year_of day ≡ year = year_found day year days years small within in
    let left : day - days_before_year year ≡ days = omega (arith, date.days) in
    let months : IsAfterMonths year days month (number - 1) = record { low = date.first_month; sum = omega arith } in
    let month_is : last_begun (days_before_month year) 12 days ≡ month =
    month_found year days month (number - 1) months within (omega (arith, date.first_day, date.last_day)) in
    let number_is : days - days_before_month year month + 1 ≡ number = omega (arith, date.first_day) in
    (year_is, rw (year_is, left) month_is, rw (year_is, left, month_is) number_is)
