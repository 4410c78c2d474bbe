-- What was sent again on a connection, going back over it event by event.
use Rattle.std.proofs.Common.{◌≡◌, ℕ, Bool, true, false, cond, ◌&&◌, ◌||◌, not, List, [], ◌∷◌, refl, ap, sym, ◌∙◌}
use Rattle.mq_rules.specs.declared.note.Note.{Note}
use Rattle.mq_rules.specs.declared.note.Seen.{Seen}
use Rattle.mq_rules.specs.Words.{is_id}
use Rattle.mq_rules.specs.Notes.{is_open, delivery_of, sent_as, pubrel_in}
use Rattle.mq_rules.specs.Moments.{newest, note, some}
use Rattle.mq_rules.specs.Connections.{connection}
use Rattle.mq_rules.proofs.Exports.{connection-next}
use Rattle.mq_plain.specs.Owing.{sends_under}

some-connection : (test : Note → Bool) (e : Seen) (past : List Seen)
    → some (λ m. test (note m)) (connection (e ∷ past)) ≡ (test e.note || (not (is_open e.note) && some (λ m. test (note m)) (connection past)))
some-connection test e past = ap (some (λ m. test (note m))) (connection-next e past) ∙ go (is_open e.note)
  where
    go : (b : Bool) → some (λ m. test (note m)) (cond b (newest e past ∷ []) (newest e past ∷ connection past)) ≡ (test e.note || (not b && some (λ m. test (note m)) (connection past)))
    go true = refl
    go false = refl

pub again-start : (i : ℕ) (past : List Seen) (was : Bool) → was ≡ false → (was || some (λ m. sends_under i (note m)) (connection past)) ≡ some (λ m. sends_under i (note m)) (connection past)
again-start i past was h = ap (λ b. b || some (λ m. sends_under i (note m)) (connection past)) h

pub again-open : (i : ℕ) (e : Seen) (past : List Seen) (was delivers now releases : Bool) → delivers ≡ (is_id i (delivery_of e.note) || was) → now ≡ (releases || delivers)
    → releases ≡ is_id i (sent_as pubrel_in e.note) → is_open e.note ≡ true → now ≡ (was || some (λ m. sends_under i (note m)) (connection (e ∷ past)))
again-open i e past was delivers now releases is then_is released opens =
    then_is ∙ ap (λ b. releases || b) is ∙ ap (λ b. b || (is_id i (delivery_of e.note) || was)) released
    ∙ go (is_id i (sent_as pubrel_in e.note)) (is_id i (delivery_of e.note)) was (some (λ m. sends_under i (note m)) (connection past))
    ∙ ap (λ o. was || (sends_under i e.note || (not o && some (λ m. sends_under i (note m)) (connection past)))) (sym opens)
    ∙ ap (λ b. was || b) (sym (some-connection (sends_under i) e past))
  where
    go : (r d w x : Bool) → (r || (d || w)) ≡ (w || ((d || r) || (not true && x)))
    go true true true x = refl
    go true true false x = refl
    go true false true x = refl
    go true false false x = refl
    go false true true x = refl
    go false true false x = refl
    go false false true x = refl
    go false false false x = refl

pub again-on : (i : ℕ) (e : Seen) (past : List Seen) (was delivers now releases : Bool) → delivers ≡ (is_id i (delivery_of e.note) || was) → now ≡ (releases || delivers)
    → releases ≡ is_id i (sent_as pubrel_in e.note) → is_open e.note ≡ false
    → (now || some (λ m. sends_under i (note m)) (connection past)) ≡ (was || some (λ m. sends_under i (note m)) (connection (e ∷ past)))
again-on i e past was delivers now releases is then_is released opens =
    ap (λ b. b || some (λ m. sends_under i (note m)) (connection past)) (then_is ∙ ap (λ b. releases || b) is ∙ ap (λ b. b || (is_id i (delivery_of e.note) || was)) released)
    ∙ go (is_id i (sent_as pubrel_in e.note)) (is_id i (delivery_of e.note)) was (some (λ m. sends_under i (note m)) (connection past))
    ∙ ap (λ o. was || (sends_under i e.note || (not o && some (λ m. sends_under i (note m)) (connection past)))) (sym opens)
    ∙ ap (λ b. was || b) (sym (some-connection (sends_under i) e past))
  where
    go : (r d w x : Bool) → ((r || (d || w)) || x) ≡ (w || ((d || r) || (not false && x)))
    go true true true x = refl
    go true true false x = refl
    go true false true x = refl
    go true false false x = refl
    go false true true x = refl
    go false true false x = refl
    go false false true x = refl
    go false false false x = refl
