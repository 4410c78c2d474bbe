-- What a CLOSE says: the bytes of the packets that its connection leaves unfinished.
use Rattle.std.proofs.Common.{◌≡◌, ℕ, Bool, true, false, List, length, drop, Option, Some, None, sym, ◌∙◌, ap}
use Rattle.std.specs.Prelude.{◌+◌, ◌==◌, nat_lt, if◌then◌else◌, option_map}
use Rattle.std.specs.Int.{w16, from_be_bytes}
use Rattle.mq_log.specs.declared.kind.RecordKind.{RecordKind}
use Rattle.mq_log.specs.declared.kind.RecordKind.TheVariants as kinds
use Rattle.mq_log.specs.declared.kind.Direction.TheVariants as directions
use Rattle.mq_log.specs.Framing.{kind_of, ahead_in, begun_records, carried}
use Rattle.mq_log.specs.Events.{UnfinishedPackets, Item, opened, closed, rested, released, sent, received, item_at, unfinished_in, unfinished_at, part_at, packet_at, event_by, event_in, event_at}
use Rattle.mq_trace.specs.Joined.{opened_records, joined}
use Rattle.mq_trace.proofs.JoinedLaws.{newest}

-- Of all kinds of record only a CLOSE completes this event, and it says what it is given.
closed_by : (at : UnfinishedPackets) (ahead : ℕ) (kind : Option RecordKind) (part so_far : List ℕ) (unfinished : UnfinishedPackets) → event_by at ahead kind part so_far ≡ Some (closed unfinished) → unfinished ≡ at
closed_by at ahead None part so_far unfinished e = absurd (cc)
closed_by at ahead (Some kinds.Open) part so_far unfinished e = by (length part == ahead) e
  where
    by : (t : Bool) → (if t then Some opened else None) ≡ Some (closed unfinished) → unfinished ≡ at
    by true is = absurd (cc)
    by false is = absurd (cc)
closed_by at ahead (Some kinds.Close) part so_far unfinished e = by (length part == ahead) e
  where
    by : (t : Bool) → (if t then Some (closed at) else None) ≡ Some (closed unfinished) → unfinished ≡ at
    by true is = cc
    by false is = absurd (cc)
closed_by at ahead (Some kinds.Rest) part so_far unfinished e = by (length part == ahead) e
  where
    by : (t : Bool) → (if t then Some rested else None) ≡ Some (closed unfinished) → unfinished ≡ at
    by true is = absurd (cc)
    by false is = absurd (cc)
closed_by at ahead (Some kinds.Release) part so_far unfinished e = by (length part == ahead + 2) (from_be_bytes w16 (drop ahead part)) e
  where
    by : (t : Bool) (n : ℕ) → (if t then Some (released n) else None) ≡ Some (closed unfinished) → unfinished ≡ at
    by true n is = absurd (cc)
    by false n is = absurd (cc)
closed_by at ahead (Some kinds.Sent) part so_far unfinished e = by (item_at so_far) e
  where
    by : (item : Option Item) → option_map sent item ≡ Some (closed unfinished) → unfinished ≡ at
    by None is = absurd (cc)
    by (Some item) is = absurd (cc)
closed_by at ahead (Some kinds.Recv) part so_far unfinished e = by (item_at so_far) e
  where
    by : (item : Option Item) → option_map received item ≡ Some (closed unfinished) → unfinished ≡ at
    by None is = absurd (cc)
    by (Some item) is = absurd (cc)

-- what two streams leave unfinished
abbrev left_by : List ℕ → List ℕ → UnfinishedPackets
left_by out back = record { sent = unfinished_in out; received = unfinished_in back }

unfinished_joined : (log : List ℕ) → unfinished_at log
    ≡ left_by (joined (ahead_in log) (opened_records (begun_records log)) directions.Sent (begun_records log)) (joined (ahead_in log) (opened_records (begun_records log)) directions.Recv (begun_records log))
unfolding unfinished_at
unfinished_joined log =
    ap (λ (bytes : List ℕ). left_by bytes (carried (ahead_in log) directions.Recv (begun_records log))) (sym (newest (ahead_in log) directions.Sent (begun_records log)))
    ∙ ap (λ (bytes : List ℕ). left_by (joined (ahead_in log) (opened_records (begun_records log)) directions.Sent (begun_records log)) bytes) (sym (newest (ahead_in log) directions.Recv (begun_records log)))

pub close-is : (log : List ℕ) (byte : ℕ) (unfinished : UnfinishedPackets) → event_at log byte ≡ Some (closed unfinished)
    → unfinished ≡ left_by (joined (ahead_in log) (opened_records (begun_records log)) directions.Sent (begun_records log)) (joined (ahead_in log) (opened_records (begun_records log)) directions.Recv (begun_records log))
unfolding event_at event_in
close-is log byte unfinished is = by (nat_lt (length log) 8) is ∙ unfinished_joined log
  where
    by : (t : Bool) → (if t then None else event_by (unfinished_at log) (ahead_in log) (kind_of (part_at log byte)) (part_at log byte) (packet_at log byte)) ≡ Some (closed unfinished) → unfinished ≡ unfinished_at log
    by true e = absurd (cc)
    by false e = closed_by (unfinished_at log) (ahead_in log) (kind_of (part_at log byte)) (part_at log byte) (packet_at log byte) unfinished e
