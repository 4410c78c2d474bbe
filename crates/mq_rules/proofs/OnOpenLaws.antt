-- What has come on the connection that is open, with one event more.
use Rattle.std.proofs.Common.{◌≡◌, Bool, true, false, cond, ◌&&◌, ◌||◌, not, List, [], ◌∷◌, refl, ap, sym, ◌∙◌}
use Rattle.mq_rules.specs.declared.note.Note.{Note}
use Rattle.mq_rules.specs.declared.note.Note.TheVariants as notes
use Rattle.mq_rules.specs.declared.note.Seen.{Seen}
use Rattle.mq_rules.specs.Notes.{is_open, is_close, is_boundary}
use Rattle.mq_rules.specs.Moments.{Moment, newest}
use Rattle.mq_rules.specs.Connections.{is_connected, connection, on_open, needs_connection, IsOnConnection}
use Rattle.mq_rules.proofs.ConnLaws.{connection-next}

-- something is sent or received
abbrev pub has_item : Note → Bool
has_item (notes.Sent item) = true
has_item (notes.Recv item) = true
has_item _ = false

item-connected : (n : Note) → needs_connection n ≡ false → has_item n ≡ false
item-connected notes.Open h = refl
item-connected (notes.Close cuts part) h = absurd (cc)
item-connected notes.Rest h = absurd (cc)
item-connected (notes.Release identifier) h = refl
item-connected (notes.Sent item) h = absurd (cc)
item-connected (notes.Recv item) h = absurd (cc)

close-itemless : (n : Note) → is_close n ≡ true → has_item n ≡ false
close-itemless (notes.Close cuts part) h = refl
close-itemless notes.Open h = absurd (cc)
close-itemless notes.Rest h = absurd (cc)
close-itemless (notes.Release identifier) h = absurd (cc)
close-itemless (notes.Sent item) h = absurd (cc)
close-itemless (notes.Recv item) h = absurd (cc)

open-no_close : (n : Note) → is_open n ≡ true → is_close n ≡ false
open-no_close notes.Open h = refl
open-no_close (notes.Close cuts part) h = absurd (cc)
open-no_close notes.Rest h = absurd (cc)
open-no_close (notes.Release identifier) h = absurd (cc)
open-no_close (notes.Sent item) h = absurd (cc)
open-no_close (notes.Recv item) h = absurd (cc)

-- What is found among these by a recursion on them. What is neither sent nor received leaves it as it is where nothing was found.
pub on_open-fold : {X : Type 0} (f : List Moment → X) (more : X → X) (e : Seen) (past : List Seen) → ((ms : List Moment) → f (newest e past ∷ ms) ≡ more (f ms))
    → (has_item e.note ≡ false → more (f []) ≡ f []) → IsOnConnection e past → f (on_open (e ∷ past)) ≡ more (cond (is_boundary e.note) (f []) (f (on_open past)))
on_open-fold {X} f more e past one idle on =
    ap (λ ms. f (cond (is_connected (e ∷ past)) ms [])) (connection-next e past)
    ∙ go (is_open e.note) (is_close e.note) (is_connected past) (open-no_close e.note) (λ c. idle (close-itemless e.note c))
    (λ k. idle (item-connected e.note (needless (needs_connection e.note) (is_connected past) on k)))
  where
    needless : (needs k : Bool) → (needs ≡ true → k ≡ true) → k ≡ false → needs ≡ false
    needless false k on h = refl
    needless true k on h = absurd (let there : k ≡ true = on refl in cc)

    go : (o c k : Bool) → (o ≡ true → c ≡ false) → (c ≡ true → more (f []) ≡ f []) → (k ≡ false → more (f []) ≡ f [])
        → f (cond (o || (not c && k)) (newest e past ∷ cond o [] (connection past)) []) ≡ more (cond (o || c) (f []) (f (cond k (connection past) [])))
    go true c k no_close at_close at_gap = one []
    go false true k no_close at_close at_gap = sym (at_close refl)
    go false false true no_close at_close at_gap = one (connection past)
    go false false false no_close at_close at_gap = sym (at_gap refl)

-- where one is open, it is what has come on the latest connection
pub on_open-connected : (past : List Seen) → is_connected past ≡ true → on_open past ≡ connection past
on_open-connected past h = ap (λ b. cond b (connection past) []) h
