-- How much all watchers keep.
use Rattle.std.proofs.Common.{◌≡◌, ℕ, ◌+◌, ◌*◌, ◌≤◌, ◌==◌, arith, nat_eq, Bool, true, false, cond, ◌||◌, not, List, [], ◌∷◌, length, Option, Some, None, option_map, refl, ap, sym, subst, ◌∙◌}
use Rattle.std.specs.Prelude.{is_some}
use Rattle.std.specs.List.{list_any}
use Rattle.std.specs.Option.{option_or, option_and_then}
use Rattle.std.proofs.lemmas.Bool.{eqb-true}
use Rattle.mq_rules.specs.declared.role.Role.{Role}
use Rattle.mq_rules.specs.declared.role.Role.TheVariants.{Client, Server}
use Rattle.mq_rules.specs.declared.rule.Rule.{Rule}
use Rattle.mq_rules.specs.declared.rule.Rule.TheVariants.{E1R, E2R, E3R, E4R, E6R}
use Rattle.mq_rules.specs.declared.note.Note.{Note}
use Rattle.mq_rules.specs.declared.note.Note.TheVariants as notes
use Rattle.mq_rules.specs.declared.note.Seen.{Seen}
use Rattle.mq_rules.specs.declared.packet_note.PublishNote.{PublishNote}
use Rattle.mq_rules.specs.Words.{is_some_and, is_id, only}
use Rattle.mq_rules.specs.Notes.{is_open, sent_publish}
use Rattle.mq_rules.specs.Moments.{Moment, newest, note, some, count}
use Rattle.mq_rules.specs.Connections.{is_connected, connection, latest_fate}
use Rattle.mq_rules.specs.Pasts.{set_alias}
use Rattle.mq_rules.specs.Subscriptions.{topic_set, last_set}
use Rattle.mq_rules.specs.Rules.{line_of, found_line, lines, binds_end}
use Rattle.mq_rules.specs.Burden.{sets_another, aliases_sent}
use Rattle.mq_rules.proofs.Exports.{connection-newest, or_false}
use Rattle.mq_exchanges.specs.Requesting.{binds_requests}
use Rattle.mq_fates.specs.Holding.{settled}
use Rattle.mq_rules.specs.IdentifierCounts.{ids_where}
use Rattle.mq_subscriptions.specs.Burden.{aliased_ids}
use Rattle.mq_watchers.specs.Burden.{aliases_undecided}
use Rattle.mq_fates.proofs.Exports.{ids-listed}

-- ---- exchanges

-- exchanges of messages bind both ends, and both exchanges of requests the same one
pub record Bindings (role : Role) : Type 0 where
  pub puback : binds_end E1R role ≡ true
  pub pubrec : binds_end E2R role ≡ true
  pub pubrel : binds_end E3R role ≡ true
  pub pubcomp : binds_end E4R role ≡ true
  pub unsuback : binds_end E6R role ≡ binds_requests role

pub bindings : (role : Role) → Bindings role
unfolding line_of found_line lines
bindings Client = record { puback = refl; pubrec = refl; pubrel = refl; pubcomp = refl; unsuback = refl }
bindings Server = record { puback = refl; pubrec = refl; pubrel = refl; pubcomp = refl; unsuback = refl }

-- what is counted where a statement binds the end
pub bound-counted : (settled : Rule) (role : Role) (n : ℕ) → binds_end settled role ≡ true → cond (binds_end settled role) n 0 ≡ n
bound-counted settled role n h = ap (λ b. cond b n 0) h

pub requests-within : (role : Role) (m n : ℕ) → cond (binds_requests role) (m + 3 * m + (n + 3 * n)) 0 ≤ 4 * cond (binds_requests role) m 0 + 4 * cond (binds_end E6R role) n 0
requests-within role m n = subst (λ b. cond (binds_requests role) (m + 3 * m + (n + 3 * n)) 0 ≤ 4 * cond (binds_requests role) m 0 + 4 * cond b n 0) (sym (bindings role).unsuback) (go (binds_requests role))
  where
    go : (b : Bool) → cond b (m + 3 * m + (n + 3 * n)) 0 ≤ 4 * cond b m 0 + 4 * cond b n 0
    go true = omega arith
    go false = omega arith

-- ---- Topic Aliases

-- an alias has a topic where a PUBLISH set it
set-topic : (i : ℕ) (n : Note) → is_some {T = List ℕ} (topic_set i n) ≡ is_id i (set_alias n)
set-topic i n = go (sent_publish n)
  where
    put : (topic : List ℕ) (b : Bool) → is_some {T = List ℕ} (only b (Some topic)) ≡ b
    put topic true = refl
    put topic false = refl

    go : (o : Option PublishNote) → is_some {T = List ℕ} (only (is_id i (option_and_then (λ p. only (not (length p.topic == 0)) p.topic_alias) o)) (option_map (λ p. p.topic) o)) ≡ is_id i (option_and_then (λ p. only (not (length p.topic == 0)) p.topic_alias) o)
    go None = refl
    go (Some p) = put p.topic (is_id i (only (not (length p.topic == 0)) p.topic_alias))

abbrev is_set : ℕ → List Moment → Bool
is_set i ms = some (λ m. is_id i (set_alias (note m))) ms

set-last : (i : ℕ) (ms : List Moment) → is_some {T = List ℕ} (last_set i ms) ≡ is_set i ms
set-last i [] = refl
set-last i (m ∷ ms) = either (topic_set i (note m)) (last_set i ms) ∙ ap (λ b. b || is_some {T = List ℕ} (last_set i ms)) (set-topic i (note m)) ∙ ap (λ b. is_id i (set_alias (note m)) || b) (set-last i ms)
  where
    either : (o p : Option (List ℕ)) → is_some {T = List ℕ} (option_or o p) ≡ (is_some {T = List ℕ} o || is_some {T = List ℕ} p)
    either None p = refl
    either (Some topic) p = refl

-- an alias that is set, if none before it was the same, before others
abbrev first_of : Bool → Option ℕ → List ℕ → List ℕ
first_of true (Some alias) rest = alias ∷ rest
first_of true None rest = rest
first_of false set rest = rest

-- the aliases that are set, each once
abbrev firsts : List Moment → List ℕ
firsts [] = []
firsts (m ∷ ms) = first_of (sets_another m) (set_alias (note m)) (firsts ms)

firsts-length : (ms : List Moment) → length (firsts ms) ≤ count sets_another ms
firsts-length [] = omega arith
firsts-length (m ∷ ms) = go (sets_another m) (set_alias (note m)) (firsts-length ms)
  where
    go : (b : Bool) (o : Option ℕ) → length (firsts ms) ≤ count sets_another ms → length (first_of b o (firsts ms)) ≤ cond b 1 0 + count sets_another ms
    go true (Some alias) h = omega (arith, h)
    go true None h = omega (arith, h)
    go false o h = omega (arith, h)

open-silent : (n : Note) → is_open n ≡ true → set_alias n ≡ None
open-silent notes.Open h = refl
open-silent (notes.Close cuts part) h = absurd (cc)
open-silent notes.Rest h = absurd (cc)
open-silent (notes.Release identifier) h = absurd (cc)
open-silent (notes.Sent item) h = absurd (cc)
open-silent (notes.Recv item) h = absurd (cc)

firsts-have : (i : ℕ) (log : List Seen) → is_set i (connection log) ≡ true → list_any (nat_eq i) (firsts (connection log)) ≡ true
firsts-have i [] h = absurd (cc)
firsts-have i (e ∷ past) h =
    ap (λ ms. list_any (nat_eq i) (firsts ms)) (connection-newest e past)
    ∙ go (is_open e.note) refl (sym (ap (is_set i) (connection-newest e past)) ∙ h) (firsts-have i past)
  where
    right : (b c : Bool) → c ≡ true → (b || c) ≡ true
    right true c h = refl
    right false c h = h

    kept : (b : Bool) (o : Option ℕ) (xs : List ℕ) → list_any (nat_eq i) xs ≡ true → list_any (nat_eq i) (first_of b o xs) ≡ true
    kept true (Some alias) xs h = right (i == alias) (list_any (nat_eq i) xs) h
    kept true None xs h = h
    kept false o xs h = h

    -- none before it was the same
    here : (o : Option ℕ) → is_set i (connection past) ≡ false → is_id i o ≡ true → list_any (nat_eq i) (first_of (is_some_and (λ alias. not (is_set alias (connection past))) o) o (firsts (connection past))) ≡ true
    here None none h = absurd (cc)
    here (Some alias) none h =
        let same : i ≡ alias = eqb-true i alias h in
        ap (λ b. list_any (nat_eq i) (first_of b (Some alias) (firsts (connection past)))) (ap (λ j. not (is_set j (connection past))) (sym same) ∙ ap not none)
        ∙ ap (λ b. b || list_any (nat_eq i) (firsts (connection past))) h

    later : (b : Bool) → is_set i (connection past) ≡ b → (is_id i (set_alias e.note) || is_set i (connection past)) ≡ true → (is_set i (connection past) ≡ true → list_any (nat_eq i) (firsts (connection past)) ≡ true)
        → list_any (nat_eq i) (firsts (newest e past ∷ connection past)) ≡ true
    later true is h rest = kept (sets_another (newest e past)) (set_alias e.note) (firsts (connection past)) (rest is)
    later false is h rest = here (set_alias e.note) is (sym (or_false (is_id i (set_alias e.note))) ∙ ap (λ b. is_id i (set_alias e.note) || b) (sym is) ∙ h)

    go : (b : Bool) → is_open e.note ≡ b → is_set i (newest e past ∷ cond b [] (connection past)) ≡ true → (is_set i (connection past) ≡ true → list_any (nat_eq i) (firsts (connection past)) ≡ true)
        → list_any (nat_eq i) (firsts (newest e past ∷ cond b [] (connection past))) ≡ true
    go true o h rest = absurd (let bad : false ≡ true = sym (ap (λ set. is_id i set || false) (open-silent e.note o)) ∙ h in cc)
    go false o h rest = later (is_set i (connection past)) refl h rest

-- each alias with a topic has a first PUBLISH that set it
pub aliased-within : (log : List Seen) → aliased_ids log ≤ aliases_sent log
unfolding aliased_ids aliases_sent
aliased-within log = go (is_connected log)
  where
    go : (b : Bool) → ids_where (λ alias. is_some {T = List ℕ} (last_set alias (cond b (connection log) []))) ≤ cond b (count sets_another (connection log)) 0
    go true =
        let listed = ids-listed (λ alias. is_some {T = List ℕ} (last_set alias (connection log))) (firsts (connection log)) (λ i h. firsts-have i log (sym (set-last i (connection log)) ∙ h)) in
        let long = firsts-length (connection log) in
        omega (arith, listed, long)
    go false = let listed = ids-listed (λ alias. false) [] (λ i h. absurd (cc)) in omega (arith, listed)

settled-decided : (role : Role) (log : List Seen) → is_some (latest_fate role log) ≡ true → settled role log ≡ log
settled-decided role [] h = refl
settled-decided role (e ∷ past) h = ap (λ b. cond b (e ∷ past) (settled role past)) h

-- those of a decided connection are among the settled ones
pub aliases-once : (role : Role) (log : List Seen) → aliases_sent log ≤ aliases_sent (settled role log) + aliases_undecided role log
aliases-once role log = go (is_some (latest_fate role log)) refl
  where
    go : (b : Bool) → is_some (latest_fate role log) ≡ b → aliases_sent log ≤ aliases_sent (settled role log) + cond b 0 (aliases_sent log)
    go true h = let same : aliases_sent (settled role log) ≡ aliases_sent log = ap aliases_sent (settled-decided role log h) in omega (arith, same)
    go false h = omega arith
