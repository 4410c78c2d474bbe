-- The topics of what is sent on a connection, with one event more.
use Rattle.std.proofs.Common.{◌≡◌, ℕ, ◌==◌, Bool, true, false, cond, List, [], length, Option, Some, None, refl, ap, sym, ◌∙◌}
use Rattle.std.specs.Option.{option_or, option_and_then}
use Rattle.std.specs.Prelude.{unwrap_or, option_map}
use Rattle.mq_rules.specs.declared.role.Role.{Role}
use Rattle.mq_rules.specs.declared.fate.Fate.{Fate}
use Rattle.mq_rules.specs.declared.rule.Rule.TheVariants.{B02}
use Rattle.mq_rules.specs.declared.note.Note.{Note}
use Rattle.mq_rules.specs.declared.packet_note.PublishNote.{PublishNote}
use Rattle.mq_rules.specs.Moments.{Moment, note, position}
use Rattle.mq_rules.specs.Notes.{sent_publish, qos_number}
use Rattle.mq_rules.specs.Subscriptions.{topic_set, last_set, topic_of, standing_at}
use Rattle.mq_rules.specs.declared.evidence.Evidence.{Evidence}
use Rattle.mq_rules.specs.Evidence.{nothing}
use Rattle.mq_evidence.specs.Evidence.{found, reason, it_with, two_of, greatest_for, last_matching}
use Rattle.mq_evidence.specs.Stretches.{longer}
use Rattle.mq_evidence.specs.Topics.{topic_next, topic_by}

pub topic-kept : (alias : ℕ) (over : Bool) (n : Note) (m : Moment) (ms : List Moment) (old new : Option (List ℕ)) → note m ≡ n → old ≡ last_set alias ms → new ≡ topic_next over n alias old → new ≡ last_set alias (longer over true m ms)
topic-kept alias over n m ms old new same before grown =
    grown
    ∙ ap (topic_next over n alias) before
    ∙ ap (λ x. topic_next over x alias (last_set alias ms)) (sym same)
    ∙ go over
  where
    go : (b : Bool) → option_or (topic_set alias (note m)) (cond b None (last_set alias ms)) ≡ option_or (topic_set alias (note m)) (last_set alias (cond b [] ms))
    go true = refl
    go false = refl

-- the topic of a PUBLISH by topics that are the same
pub topic-same : (p : PublishNote) (v w : ℕ → Option (List ℕ)) → ((alias : ℕ) → v alias ≡ w alias) → topic_by v p ≡ topic_by w p
topic-same p v w h = ap (λ o. cond (length p.topic == 0) o (Some p.topic)) (go p.topic_alias)
  where
    go : (a : Option ℕ) → option_and_then v a ≡ option_and_then w a
    go None = refl
    go (Some alias) = h alias

-- ---- what a PUBLISH of too high a QoS conflicts with

-- that of one with this topic
abbrev exceeding : Role → Fate → Moment → Option (List ℕ) → Evidence
exceeding role f k topic = unwrap_or (option_map (λ topic. it_with (last_matching role f topic k) (two_of (option_map (λ p. qos_number p.qos) (sent_publish (note k))) (greatest_for topic (standing_at role f k)))) topic) nothing

-- where nothing is sent, or what is sent has no topic that is known
pub exceeding-none : (role : Role) (f : Fate) (k : Moment) → sent_publish (note k) ≡ None → found (reason role B02) (Some f) None k ≡ nothing
exceeding-none role f k none = ap (λ o. exceeding role f k (option_and_then (topic_of k) o)) none

pub exceeding-untold : (role : Role) (f : Fate) (k : Moment) (p : PublishNote) → sent_publish (note k) ≡ Some p → topic_of k p ≡ None → found (reason role B02) (Some f) None k ≡ nothing
exceeding-untold role f k p sent none = ap (λ o. exceeding role f k (option_and_then (topic_of k) o)) sent ∙ ap (exceeding role f k) none

-- where its topic is known
pub exceeding-is : (role : Role) (f : Fate) (k : Moment) (p : PublishNote) (topic : List ℕ) → sent_publish (note k) ≡ Some p → topic_of k p ≡ Some topic
    → found (reason role B02) (Some f) None k ≡ record { because = option_map position (last_matching role f topic k); numbers = two_of (Some (qos_number p.qos)) (greatest_for topic (standing_at role f k)) }
exceeding-is role f k p topic sent is =
    ap (λ o. exceeding role f k (option_and_then (topic_of k) o)) sent
    ∙ ap (exceeding role f k) is
    ∙ ap (λ o. record { because = option_map position (last_matching role f topic k); numbers = two_of (option_map (λ p. qos_number p.qos) o) (greatest_for topic (standing_at role f k)) }) sent
