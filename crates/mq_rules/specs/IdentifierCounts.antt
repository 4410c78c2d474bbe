-- How many Packet Identifiers pass a test (MQTT 5.0, section 2.2.1).
use Rattle.std.specs.Prelude.{ℕ, zero, suc, ◌+◌, Bool, cond}

-- how many of the numbers below n pass the test
unfoldable pub count_below : (ℕ → Bool) → ℕ → ℕ
count_below test zero = 0
count_below test (suc n) = cond (test n) 1 0 + count_below test n

-- How many Packet Identifiers pass the test. Each is a number of two bytes.
unfoldable pub ids_where : (ℕ → Bool) → ℕ
ids_where test = count_below test 65536
