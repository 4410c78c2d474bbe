-- What is delivered, by the PUBLISH and its topic.
use Rattle.std.proofs.Common.{◌≡◌, ℕ, Bool, true, false, ◌&&◌, not, cond, List, Option, Some, None, option_map, refl, ap}
use Rattle.std.specs.Option.{option_and_then}
use Rattle.mq_rules.specs.declared.role.Role.{Role}
use Rattle.mq_rules.specs.declared.fate.Fate.{Fate}
use Rattle.mq_rules.specs.declared.note.Seen.{Seen}
use Rattle.mq_rules.specs.declared.packet_note.PublishNote.{PublishNote}
use Rattle.mq_rules.specs.Words.{is_some_and}
use Rattle.mq_rules.specs.Notes.{sent_publish}
use Rattle.mq_rules.specs.Moments.{newest}
use Rattle.mq_rules.specs.Subscriptions.{topic_of}
use Rattle.mq_rules.specs.FurtherSubscriptions.{is_clear_before}
use Rattle.mq_rules.specs.MatchingSubscriptions.{Subscribed, is_matched_so, some_matching}
use Rattle.mq_plain.specs.Matching.{delivered_after, delivered_by, delivered_on, some_matching_after}

pub matched-so : (role : Role) (f : Fate) (e : Seen) (past : List Seen) (test : PublishNote → ((Subscribed → Bool) → Bool) → Bool)
    → is_matched_so role f (newest e past) test ≡ (is_clear_before role f (newest e past) && is_some_and (λ d. test d.publish (some_matching_after role f past d.topic)) (delivered_after e.note past))
matched-so role f e past test = ap (λ b. is_clear_before role f (newest e past) && b) (go (sent_publish e.note))
  where
    first : (p : PublishNote) (duplicate : Bool) (topic : Option (List ℕ)) → (not duplicate && is_some_and (λ topic. test p (some_matching role f (newest e past) topic)) topic)
        ≡ is_some_and (λ d. test d.publish (some_matching_after role f past d.topic)) (cond duplicate None (option_map (delivered_on p) topic))
    first p true topic = refl
    first p false None = refl
    first p false (Some topic) = refl

    go : (o : Option PublishNote) → is_some_and (λ p. not p.duplicate && is_some_and (λ topic. test p (some_matching role f (newest e past) topic)) (topic_of (newest e past) p)) o
        ≡ is_some_and (λ d. test d.publish (some_matching_after role f past d.topic)) (option_and_then (delivered_by past) o)
    go None = refl
    go (Some p) = first p p.duplicate (topic_of (newest e past) p)
