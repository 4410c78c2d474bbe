-- When the client was last heard, and its Keep Alive, with one event more.
use Rattle.std.proofs.Common.{◌≡◌, ℕ, Bool, true, false, cond, not, List, [], ◌∷◌, Option, Some, None, refl, ap, ◌∙◌}
use Rattle.std.specs.Prelude.{◌-◌, ◌==◌, is_some, is_none, option_map, unwrap_or}
use Rattle.std.specs.Option.{option_or}
use Rattle.mq_rules.specs.declared.role.Role.{Role}
use Rattle.mq_rules.specs.declared.note.Seen.{Seen}
use Rattle.mq_rules.specs.declared.packet_note.ConnectNote.{ConnectNote}
use Rattle.mq_rules.specs.declared.packet_note.ConnackNote.{ConnackNote}
use Rattle.mq_rules.specs.Notes.{is_open, connect_of, connack_of}
use Rattle.mq_rules.specs.Moments.{Moment, newest, note, position, latest, first_given}
use Rattle.mq_rules.specs.Connections.{connection, first_connect, first_connack}
use Rattle.mq_rules.specs.Pasts.{connect_before}
use Rattle.mq_rules.specs.KeepAlive.{is_heard, keep_alive_by}
use Rattle.mq_rules.proofs.Exports.{connection-newest, first_found-next}
use Rattle.mq_evidence.specs.declared.hearing.Heard.{Heard}
use Rattle.mq_evidence.specs.Hearing.{heard_at, asked_seconds}

-- what is given first on the connection
pub given-next : {A : Type 0} (gives : Moment → Option A) (e : Seen) (past : List Seen)
    → first_given gives (connection (e ∷ past)) ≡ option_or (cond (is_open e.note) None (first_given gives (connection past))) (gives (newest e past))
given-next gives e past =
    ap (first_given gives) (connection-newest e past)
    ∙ ap (λ o. option_or o (gives (newest e past))) (go (is_open e.note))
  where
    go : (b : Bool) → first_given gives (cond b [] (connection past)) ≡ cond b None (first_given gives (connection past))
    go true = refl
    go false = refl

-- the Keep Alive that the client asks for
pub asked-next : (role : Role) (e : Seen) (past : List Seen)
    → asked_seconds role (connection (e ∷ past)) ≡ option_or (cond (is_open e.note) None (asked_seconds role (connection past))) (option_map (λ (c : ConnectNote). c.keep_alive) (connect_of role e.note))
asked-next role e past =
    ap (option_map seconds) (first_found-next (connect_of role) e past)
    ∙ go (is_open e.note) (first_connect role (connection past)) (connect_of role e.note)
  where
    seconds : ConnectNote → ℕ
    seconds c = c.keep_alive

    go : (b : Bool) (o p : Option ConnectNote) → option_map seconds (option_or (cond b None o) p) ≡ option_or (cond b None (option_map seconds o)) (option_map seconds p)
    go true o p = refl
    go false None p = refl
    go false (Some c) p = refl

-- The first CONNACK gives a Keep Alive, if it is only 0.
pub answered-given : (role : Role) (ms : List Moment) → is_some (first_given (keep_alive_by role) ms) ≡ is_some (first_connack role ms)
answered-given role [] = refl
answered-given role (m ∷ ms) = go (first_given (keep_alive_by role) ms) (first_connack role ms) (connack_of role (note m)) made (answered-given role ms)
  where
    made : ConnackNote → ℕ
    made c = cond (c.code == 0) (unwrap_or c.server_keep_alive (unwrap_or (option_map (λ (d : ConnectNote). d.keep_alive) (connect_before role m)) 0)) 0

    go : (o : Option ℕ) (p c : Option ConnackNote) (of : ConnackNote → ℕ) → is_some o ≡ is_some p → is_some (option_or o (option_map of c)) ≡ is_some (option_or p c)
    go None None None of h = refl
    go None None (Some c) of h = refl
    go None (Some d) c of h = absurd (cc)
    go (Some n) None c of h = absurd (cc)
    go (Some n) (Some d) c of h = refl

pub unanswered : (role : Role) (ms : List Moment) → not (is_some (first_given (keep_alive_by role) ms)) ≡ is_none (first_connack role ms)
unanswered role ms = ap not (answered-given role ms) ∙ go (first_connack role ms)
  where
    go : (o : Option ConnackNote) → not (is_some o) ≡ is_none o
    go None = refl
    go (Some c) = refl

-- where and when the client was last heard
pub heard-next : (role : Role) (e : Seen) (past : List Seen) → option_map heard_at (latest (is_heard role) (connection (e ∷ past)))
    ≡ cond (is_heard role (newest e past)) (Some (heard_at (newest e past))) (cond (is_open e.note) None (option_map heard_at (latest (is_heard role) (connection past))))
heard-next role e past =
    ap (λ ms. option_map heard_at (latest (is_heard role) ms)) (connection-newest e past)
    ∙ go (is_heard role (newest e past)) (is_open e.note)
  where
    go : (h b : Bool) → option_map heard_at (cond h (Some (newest e past)) (latest (is_heard role) (cond b [] (connection past))))
        ≡ cond h (Some (heard_at (newest e past))) (cond b None (option_map heard_at (latest (is_heard role) (connection past))))
    go true b = refl
    go false true = refl
    go false false = refl

-- what is kept of a moment is enough for its position, and for the time since
pub heard-position : (o : Option Moment) → option_map (λ (h : Heard). h.position) (option_map heard_at o) ≡ option_map position o
heard-position None = refl
heard-position (Some m) = refl

pub heard-since : (now : ℕ) (o : Option Moment) → unwrap_or (option_map (λ (h : Heard). now - h.moment) (option_map heard_at o)) 0 ≡ unwrap_or (option_map (λ (m : Moment). now - m.event.place.moment) o) 0
heard-since now None = refl
heard-since now (Some m) = refl
