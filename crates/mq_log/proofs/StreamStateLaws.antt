-- What one byte more does to what is kept of a direction.
use Rattle.std.proofs.Common.{◌≡◌, ℕ, ◌≤◌, Bool, true, false, cond, nat_lt, List, [], ◌∷◌, ◌++◌, length, Option, Some, None, is_some, refl, sym, ◌∙◌, ap}
use Rattle.std.proofs.lemmas.List.{append-nil}
use Rattle.mq_log.specs.declared.kind.Direction.{Direction}
use Rattle.mq_log.specs.declared.kind.Direction.TheVariants as directions
use Rattle.mq_log.specs.Pieces.{Pieces, pieces}
use Rattle.mq_packet.specs.Stream.{frame_size, is_lost}
use Rattle.mq_log.specs.Framing.{kind_of, direction_of, opens, if_direction, stream, begun_records, carried, records, ahead_in}
use Rattle.mq_log.specs.Events.{packet_with}
use Rattle.mq_log.specs.Context.{state_with, state_of, state_after, state_by, state_then, so_far_in}
use Rattle.mq_log.proofs.PiecesLaws.{Settles, grown, pieces-grow, nothing_cut}
use Rattle.mq_packet.proofs.Exports.{frame_bounds, frame_stays, frame_stood, is_lost_stays, lost_no_frame}
use Rattle.mq_log.proofs.FramingLaws.{carried-grow}

pub frame_settles : Settles frame_size
frame_settles = record { bound = frame_bounds; stays = frame_stays; back = frame_stood }

pub nothing_lost : is_lost [] ≡ false
unfolding is_lost
nothing_lost = refl

pub state-nothing : state_of [] ≡ record { unfinished = []; lost = false }
unfolding state_of stream
state-nothing = ap (λ (p : Pieces). state_with p.rest) (nothing_cut frame_size frame_settles) ∙ ap (λ b. record { unfinished = cond b [] []; lost = b }) nothing_lost

-- a half with a rest that is known to be lost, or not
state_lost : (rest : List ℕ) (b : Bool) → is_lost rest ≡ b → state_with rest ≡ record { unfinished = cond b [] rest; lost = b }
state_lost rest b is = ap (λ b. record { unfinished = cond b [] rest; lost = b }) is

grown_rest : (o : Option ℕ) (p : Pieces) (byte : ℕ) → (grown o p byte).rest ≡ cond (is_some o) [] (p.rest ++ byte ∷ [])
grown_rest None p byte = refl
grown_rest (Some size) p byte = refl

rest-grow : (h : List ℕ) (byte : ℕ) → (stream (h ++ byte ∷ [])).rest ≡ cond (is_some (frame_size ((stream h).rest ++ byte ∷ []))) [] ((stream h).rest ++ byte ∷ [])
unfolding stream
rest-grow h byte =
    ap (λ (p : Pieces). p.rest) (pieces-grow frame_size frame_settles h byte)
    ∙ grown_rest (frame_size ((pieces frame_size h).rest ++ byte ∷ [])) (pieces frame_size h) byte

after_by : (rest : List ℕ) (byte : ℕ) (b : Bool) → is_lost rest ≡ b → (l : Bool) → is_lost (rest ++ byte ∷ []) ≡ l → (o : Option ℕ) → frame_size (rest ++ byte ∷ []) ≡ o
    → state_with (cond (is_some o) [] (rest ++ byte ∷ []))
    ≡ cond b (record { unfinished = []; lost = true }) (cond l (record { unfinished = []; lost = true })
    (cond (is_some o) (record { unfinished = []; lost = false }) (record { unfinished = rest ++ byte ∷ []; lost = false })))
after_by rest byte true is false was o frame = let stays = is_lost_stays rest (byte ∷ []) is in absurd (cc)
after_by rest byte b is true was (Some size) frame = let none = lost_no_frame (rest ++ byte ∷ []) was in absurd (cc)
after_by rest byte true is true was None frame = state_lost (rest ++ byte ∷ []) true was
after_by rest byte false is true was None frame = state_lost (rest ++ byte ∷ []) true was
after_by rest byte false is false was None frame = state_lost (rest ++ byte ∷ []) false was
after_by rest byte false is false was (Some size) frame = state_lost [] false nothing_lost

after_with : (rest : List ℕ) (byte : ℕ) (b : Bool) → is_lost rest ≡ b
    → state_after (record { unfinished = cond b [] rest; lost = b }) byte
    ≡ cond b (record { unfinished = []; lost = true }) (cond (is_lost (rest ++ byte ∷ [])) (record { unfinished = []; lost = true })
    (cond (is_some (frame_size (rest ++ byte ∷ []))) (record { unfinished = []; lost = false }) (record { unfinished = rest ++ byte ∷ []; lost = false })))
unfolding state_after
after_with rest byte true is = refl
after_with rest byte false is = refl

-- one byte more of the direction's own
pub state-grow : (h : List ℕ) (byte : ℕ) → state_of (h ++ byte ∷ []) ≡ state_after (state_of h) byte
unfolding state_of
state-grow h byte =
    let rest = (stream h).rest in
    let lost = is_lost rest in
    ap state_with (rest-grow h byte)
    ∙ after_by rest byte (is_lost rest) refl (is_lost (rest ++ byte ∷ [])) refl (frame_size (rest ++ byte ∷ [])) refl
    ∙ sym (after_with rest byte (is_lost rest) refl)

-- a byte that goes one way, seen from either direction
state_carried : (direction : Direction) (carries : Option Direction) (h : List ℕ) (byte : ℕ) → state_of (h ++ if_direction direction carries (byte ∷ [])) ≡ state_by direction carries (state_of h) byte
state_carried directions.Sent None h byte = ap state_of (append-nil h)
state_carried directions.Sent (Some directions.Sent) h byte = state-grow h byte
state_carried directions.Sent (Some directions.Recv) h byte = ap state_of (append-nil h)
state_carried directions.Recv None h byte = ap state_of (append-nil h)
state_carried directions.Recv (Some directions.Sent) h byte = ap state_of (append-nil h)
state_carried directions.Recv (Some directions.Recv) h byte = state-grow h byte

state_moved : (direction : Direction) (h : List ℕ) (part : List ℕ) (byte : ℕ) (o b : Bool)
    → state_of (cond o [] (h ++ cond b (if_direction direction (direction_of (kind_of part)) (byte ∷ [])) []))
    ≡ cond o (record { unfinished = []; lost = false }) (cond b (state_by direction (direction_of (kind_of part)) (state_of h) byte) (state_of h))
state_moved direction h part byte true b = state-nothing
state_moved direction h part byte false true = state_carried direction (direction_of (kind_of part)) h byte
state_moved direction h part byte false false = ap state_of (append-nil h)

-- one byte more of the log
pub state-then : (direction : Direction) (log : List ℕ) (byte : ℕ) → 8 ≤ length log
    → state_of (carried (ahead_in (log ++ byte ∷ [])) direction (begun_records (log ++ byte ∷ []))) ≡ state_then (ahead_in log) direction (state_of (carried (ahead_in log) direction (begun_records log))) ((records log).rest ++ byte ∷ []) byte
unfolding state_then
state-then direction log byte h =
    let part = (records log).rest ++ byte ∷ [] in
    ap state_of (carried-grow direction log byte h) ∙ state_moved direction (carried (ahead_in log) direction (begun_records log)) part byte (opens (kind_of part)) (nat_lt (ahead_in log) (length part))

so_far_by_lost : (rest : List ℕ) (byte : ℕ) (b : Bool) → cond b [] (rest ++ byte ∷ []) ≡ cond b [] (cond b [] rest ++ byte ∷ [])
so_far_by_lost rest byte true = refl
so_far_by_lost rest byte false = refl

-- the packet of the next byte, from what is kept
pub so_far-kept : (h : List ℕ) (byte : ℕ) → packet_with h byte ≡ so_far_in (state_of h) byte
unfolding state_of
so_far-kept h byte = so_far_by_lost (stream h).rest byte (is_lost (stream h).rest)
