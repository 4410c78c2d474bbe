-- The line of a packet.
use Rattle.std.proofs.Common.{◌≡◌, ℕ, OnOk, Result, Ok, Err, List, [], ◌∷◌, ◌++◌, ap, ◌∙◌, append_assoc}
use Rattle.mq_log.specs.Refusing.{spaced}
use Rattle.mq_report.specs.Report.{line}

-- the parts of a packet's line, one after another
pub packet_line_put : {E : Type 0} (r : Result (Unit {0}) E) (old a b c d e new place word packet : List ℕ) → a ≡ old ++ place → b ≡ a ++ 32 ∷ [] → c ≡ b ++ word
    → d ≡ c ++ 32 ∷ [] → e ≡ d ++ packet → OnOk r (new ≡ e ++ 10 ∷ []) → OnOk r (new ≡ old ++ line (place ++ 32 ∷ spaced (word ∷ packet ∷ [])))
packet_line_put (Ok done) old a b c d e new place word packet p q s t u h =
    h ∙ ap (λ (l : List ℕ). l ++ 10 ∷ [])
    (u ∙ ap (λ (l : List ℕ). l ++ packet) (t ∙ ap (λ (l : List ℕ). l ++ 32 ∷ []) (s ∙ ap (λ (l : List ℕ). l ++ word) (q ∙ ap (λ (l : List ℕ). l ++ 32 ∷ []) p)
    ∙ append_assoc (old ++ place) (32 ∷ []) word) ∙ append_assoc (old ++ place) (32 ∷ word) (32 ∷ [])) ∙ append_assoc (old ++ place) (32 ∷ (word ++ 32 ∷ [])) packet
    ∙ append_assoc old place (32 ∷ ((word ++ 32 ∷ []) ++ packet)) ∙ ap (λ (l : List ℕ). old ++ (place ++ 32 ∷ l)) (append_assoc word (32 ∷ []) packet))
    ∙ append_assoc old (place ++ 32 ∷ (word ++ 32 ∷ packet)) (10 ∷ [])
packet_line_put (Err fault) old a b c d e new place word packet p q s t u h = tt
