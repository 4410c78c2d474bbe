-- Looking back over a connection for one event that passes a test, and for how many do.
use Rattle.std.proofs.Common.{◌≡◌, ℕ, ◌+◌, Bool, true, false, cond, ◌&&◌, ◌||◌, not, List, [], ◌∷◌, refl, ap, ◌∙◌, arith}
use Rattle.mq_rules.specs.declared.note.Seen.{Seen}
use Rattle.mq_rules.specs.Notes.{is_open}
use Rattle.mq_rules.specs.Moments.{Moment, newest, some, count}
use Rattle.mq_rules.specs.Connections.{connection}
use Rattle.mq_rules.proofs.Exports.{connection-newest, some-next}

-- an OPEN that fails the test is the last of its connection to look at
pub none_at_open : (test : Moment → Bool) (e : Seen) (past : List Seen) → test (newest e past) ≡ false → is_open e.note ≡ true → some test (connection (e ∷ past)) ≡ false
none_at_open test e past fails opens = some-next test e past ∙ ap (λ b. b || (not (is_open e.note) && some test (connection past))) fails ∙ ap (λ b. not b && some test (connection past)) opens

-- how many pass, one event further back
count-next : (test : Moment → Bool) (e : Seen) (past : List Seen) → count test (connection (e ∷ past)) ≡ cond (test (newest e past)) 1 0 + cond (is_open e.note) 0 (count test (connection past))
count-next test e past = ap (count test) (connection-newest e past) ∙ ap (λ n. cond (test (newest e past)) 1 0 + n) (go (is_open e.note))
  where
    go : (b : Bool) → count test (cond b [] (connection past)) ≡ cond b 0 (count test (connection past))
    go true = refl
    go false = refl

-- where this many were counted before the event, and this one is counted or isn't
pub count_back : (test : Moment → Bool) (e : Seen) (past : List Seen) (counted one : ℕ) → one ≡ cond (test (newest e past)) 1 0
    → (counted + one) + cond (is_open e.note) 0 (count test (connection past)) ≡ counted + count test (connection (e ∷ past))
count_back test e past counted one is =
    let next = count-next test e past in
    let it : one ≡ cond (test (newest e past)) 1 0 = is in
    go (count test (connection (e ∷ past))) (cond (test (newest e past)) 1 0) (cond (is_open e.note) 0 (count test (connection past))) next it
  where
    go : (whole here rest : ℕ) → whole ≡ here + rest → one ≡ here → (counted + one) + rest ≡ counted + whole
    go whole here rest sum it = omega arith

-- the event is an OPEN, and so the last one to count
pub counted_at_open : (test : Moment → Bool) (e : Seen) (past : List Seen) (counted one : ℕ) → one ≡ cond (test (newest e past)) 1 0 → is_open e.note ≡ true
    → counted + one ≡ counted + count test (connection (e ∷ past))
counted_at_open test e past counted one is opens = go (is_open e.note) opens (count_back test e past counted one is)
  where
    go : (b : Bool) → b ≡ true → (counted + one) + cond b 0 (count test (connection past)) ≡ counted + count test (connection (e ∷ past)) → counted + one ≡ counted + count test (connection (e ∷ past))
    go true h sum = omega arith
    go false h sum = absurd (cc)
