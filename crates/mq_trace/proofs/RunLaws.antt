-- What several bytes do is what the first of them do, and then the others.
use Rattle.std.proofs.Common.{◌≡◌, ℕ, List, [], ◌∷◌, ◌++◌, Option, Some, None, refl, sym, ◌∙◌, ap, append_assoc}
use Rattle.std.proofs.lemmas.List.{append-nil}
use Rattle.std.specs.Option.{option_or}
use Rattle.mq_log.specs.declared.refusal.Refusal.{Refusal}
use Rattle.mq_log.specs.Events.{Placed, events}
use Rattle.mq_log.specs.Refusals.{refused}
use Rattle.mq_log.specs.Context.{Context, context, refusal_for, placed_for, put, after}
use Rattle.mq_trace.specs.Runs.{after_bytes, refused_in, events_by}
use Rattle.mq_log.proofs.Exports.{refused-grow, refusal-kept, events-kept, context-grow}

pub option_or-assoc : {A : Type 0} (a b c : Option A) → option_or (option_or a b) c ≡ option_or a (option_or b c)
option_or-assoc (Some x) b c = refl
option_or-assoc None b c = refl

pub after_bytes_append : (c : Context) (a b : List ℕ) → after_bytes c (a ++ b) ≡ after_bytes (after_bytes c a) b
after_bytes_append c [] b = refl
after_bytes_append c (byte ∷ a) b = after_bytes_append (after c byte) a b

pub refused_append : (limit : ℕ) (c : Context) (a b : List ℕ) → refused_in limit c (a ++ b) ≡ option_or (refused_in limit c a) (refused_in limit (after_bytes c a) b)
refused_append limit c [] b = refl
refused_append limit c (byte ∷ a) b =
    ap (option_or (refusal_for limit c byte)) (refused_append limit (after c byte) a b)
    ∙ sym (option_or-assoc (refusal_for limit c byte) (refused_in limit (after c byte) a) (refused_in limit (after_bytes (after c byte) a) b))

pub events_append : (c : Context) (a b : List ℕ) → events_by c (a ++ b) ≡ events_by (after_bytes c a) b ++ events_by c a
events_append c [] b = sym (append-nil (events_by c b))
events_append c (byte ∷ a) b =
    ap (λ events. events ++ put (placed_for c byte) []) (events_append (after c byte) a b)
    ∙ append_assoc (events_by (after_bytes (after c byte) a) b) (events_by (after c byte) a) (put (placed_for c byte) [])

-- bytes after a log, one after the other
more : (log : List ℕ) (byte : ℕ) (bytes : List ℕ) → log ++ byte ∷ bytes ≡ (log ++ byte ∷ []) ++ bytes
more log byte bytes = sym (append_assoc log (byte ∷ []) bytes)

pub context_run : (log bytes : List ℕ) → context (log ++ bytes) ≡ after_bytes (context log) bytes
context_run log [] = ap context (append-nil log)
context_run log (byte ∷ bytes) =
    ap context (more log byte bytes)
    ∙ context_run (log ++ byte ∷ []) bytes
    ∙ ap (λ c. after_bytes c bytes) (context-grow log byte)

option_or-none : {A : Type 0} (a : Option A) → a ≡ option_or a None
option_or-none (Some x) = refl
option_or-none None = refl

pub refused_run : (limit : ℕ) (log bytes : List ℕ) → refused limit (log ++ bytes) ≡ option_or (refused limit log) (refused_in limit (context log) bytes)
refused_run limit log [] = ap (refused limit) (append-nil log) ∙ option_or-none (refused limit log)
refused_run limit log (byte ∷ bytes) =
    ap (refused limit) (more log byte bytes)
    ∙ refused_run limit (log ++ byte ∷ []) bytes
    ∙ ap (λ c. option_or (refused limit (log ++ byte ∷ [])) (refused_in limit c bytes)) (context-grow log byte)
    ∙ ap (λ o. option_or o (refused_in limit (after (context log) byte) bytes)) (refused-grow limit log byte ∙ ap (option_or (refused limit log)) (refusal-kept limit log byte))
    ∙ option_or-assoc (refused limit log) (refusal_for limit (context log) byte) (refused_in limit (after (context log) byte) bytes)

pub put_front : (o : Option Placed) (log : List Placed) → put o log ≡ put o [] ++ log
put_front None log = refl
put_front (Some e) log = refl

pub events_run : (log bytes : List ℕ) → events (log ++ bytes) ≡ events_by (context log) bytes ++ events log
events_run log [] = ap events (append-nil log)
events_run log (byte ∷ bytes) =
    ap events (more log byte bytes)
    ∙ events_run (log ++ byte ∷ []) bytes
    ∙ ap (λ c. events_by c bytes ++ events (log ++ byte ∷ [])) (context-grow log byte)
    ∙ ap (λ past. events_by (after (context log) byte) bytes ++ past) (events-kept log byte ∙ put_front (placed_for (context log) byte) (events log))
    ∙ sym (append_assoc (events_by (after (context log) byte) bytes) (put (placed_for (context log) byte) []) (events log))

-- Nothing is refused of a log whose bytes were not refused before, nor these ..
pub passes : (limit : ℕ) (log bytes : List ℕ) → refused limit log ≡ None → refused_in limit (context log) bytes ≡ None → refused limit (log ++ bytes) ≡ None
passes limit log bytes before none =
    refused_run limit log bytes ∙ ap (λ o. option_or o (refused_in limit (context log) bytes)) before ∙ none

-- .. and the first refusal of these is that of the log.
pub stops : (limit : ℕ) (log bytes : List ℕ) (r : Refusal) → refused limit log ≡ None → refused_in limit (context log) bytes ≡ Some r → refused limit (log ++ bytes) ≡ Some r
stops limit log bytes r before stands =
    refused_run limit log bytes ∙ ap (λ o. option_or o (refused_in limit (context log) bytes)) before ∙ stands
