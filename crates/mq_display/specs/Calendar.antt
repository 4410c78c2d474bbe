-- The Gregorian calendar from 1970 to 2099, and a moment of it in words. Days are numbered from 0, which is 1970-01-01.
use Rattle.std.specs.Prelude.{◌≡◌, ◌≤◌, ℕ, zero, suc, ◌+◌, ◌-◌, ◌/◌, ◌%◌, ◌==◌, nat_le, nat_lt, Bool, ◌&&◌, ◌||◌, not, if◌then◌else◌, List, [], ◌∷◌, ◌++◌, codes}

-- ---- years and months

-- every fourth year is a leap year, but of those at the end of a century only every fourth
unfoldable pub is_leap_year : (year : ℕ) → Bool
is_leap_year year = year % 4 == 0 && (not (year % 100 == 0) || year % 400 == 0)

-- how many days a year has
unfoldable pub days_of_year : (year : ℕ) → ℕ
days_of_year year = if is_leap_year year then 366 else 365

-- how many days a month has: April, June, September and November 30, February 28 or in a leap year 29, and each other one 31
unfoldable pub days_of_month : (year month : ℕ) → ℕ
days_of_month year month =
    if month == 4 || month == 6 || month == 9 || month == 11 then 30 else (if month == 2 then (if is_leap_year year then 29 else 28) else 31)

-- the sum of what a function gives for the first `count` numbers, from 0 on
unfoldable pub sum_of_first : (count : ℕ) → (ℕ → ℕ) → ℕ
sum_of_first zero f = 0
sum_of_first (suc n) f = sum_of_first n f + f n

-- how many days there are from 1970-01-01 to the first day of a year
unfoldable pub days_before_year : (year : ℕ) → ℕ
days_before_year year = sum_of_first (year - 1970) (λ n. days_of_year (1970 + n))

-- how many days there are from the first day of a year to that of one of its months
unfoldable pub days_before_month : (year month : ℕ) → ℕ
days_before_month year month = sum_of_first (month - 1) (λ n. days_of_month year (1 + n))

-- ---- the date of a day

-- Of years or months, each of which begins when so many days are over, the last one up to this one that has begun when this many days are over.
unfoldable pub last_begun : (begins : ℕ → ℕ) → (last days : ℕ) → ℕ
last_begun begins zero days = zero
last_begun begins (suc n) days = if nat_le (begins (suc n)) days then suc n else last_begun begins n days

-- the year of a day is the last one that has begun
unfoldable pub year_of : (day : ℕ) → ℕ
year_of day = last_begun days_before_year 2099 day

-- how many days of its year were over before it
unfoldable pub days_of_year_before : (day : ℕ) → ℕ
days_of_year_before day = day - days_before_year (year_of day)

-- its month is the last one of that year that has begun
unfoldable pub month_of : (day : ℕ) → ℕ
month_of day = last_begun (days_before_month (year_of day)) 12 (days_of_year_before day)

-- its number in that month, from 1 on
unfoldable pub day_of_month : (day : ℕ) → ℕ
day_of_month day = days_of_year_before day - days_before_month (year_of day) (month_of day) + 1

-- This year, month and number are the date of a day: the calendar has that date, and so many days come before it.
pub record IsDate (day year month number : ℕ) : Type 0 where
  pub first_year : 1970 ≤ year
  pub first_month : 1 ≤ month
  pub last_month : month ≤ 12
  pub first_day : 1 ≤ number
  pub last_day : number ≤ days_of_month year month
  pub days : days_before_year year + days_before_month year month + (number - 1) ≡ day

-- ---- words

-- the character of a number's last decimal digit
abbrev pub digit : (number : ℕ) → ℕ
digit number = 48 + number % 10

-- a number's last two, four and six decimal digits
abbrev pub two_digits : (number : ℕ) → List ℕ
two_digits number = digit (number / 10) ∷ digit number ∷ []

abbrev pub four_digits : (number : ℕ) → List ℕ
four_digits number = two_digits (number / 100) ++ two_digits number

abbrev pub six_digits : (number : ℕ) → List ℕ
six_digits number = two_digits (number / 10000) ++ four_digits number

-- the date of a day, as 2026-11-26
abbrev pub date_text : (day : ℕ) → List ℕ
date_text day = four_digits (year_of day) ++ codes "-" ++ two_digits (month_of day) ++ codes "-" ++ two_digits (day_of_month day)

-- the time of a day at which this many seconds of it are over, as 17:03:21
abbrev pub time_text : (seconds : ℕ) → List ℕ
time_text seconds = two_digits (seconds / 3600) ++ codes ":" ++ two_digits (seconds / 60 % 60) ++ codes ":" ++ two_digits (seconds % 60)

-- the time this many microseconds after 1970-01-01 00:00:00 UTC, as 2026-11-26 17:03:21.123456 UTC
unfoldable pub utc_text : (moment : ℕ) → List ℕ
utc_text moment =
    date_text (moment / 86400000000) ++ codes " " ++ time_text (moment / 1000000 % 86400) ++ codes "." ++ six_digits (moment % 1000000) ++ codes " UTC"

-- a moment is plausible as such a number of microseconds: it is from 2000-01-01 to before 2100-01-01
abbrev pub is_plausible : (moment : ℕ) → Bool
is_plausible moment = nat_le 946684800000000 moment && nat_lt moment 4102444800000000

-- the words on the moment of an event's record as a time, if the records of the log have moments and it is plausible as a time
abbrev pub time_words : (timed : Bool) → (moment : ℕ) → List ℕ
time_words timed moment = if timed && is_plausible moment then codes " (at " ++ utc_text moment ++ codes ")" else []
