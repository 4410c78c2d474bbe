-- One more event of what is held.
use Rattle.std.proofs.Common.{◌≡◌, ◌+◌, ◌<◌, arith, Bool, true, false, cond, ◌&&◌, List, [], ◌∷◌, ◌++◌, length, Option, Some, None, refl, ap, sym, subst, ◌∙◌}
use Rattle.std.specs.Prelude.{is_some, reverse}
use Rattle.std.specs.Option.{option_or}
use Rattle.std.proofs.lemmas.List.{reverse-append}
use Rattle.mq_rules.specs.declared.role.Role.{Role}
use Rattle.mq_rules.specs.declared.role.Tested.{Tested}
use Rattle.mq_rules.specs.declared.fate.Fate.{Fate}
use Rattle.mq_rules.specs.declared.history.History.{History}
use Rattle.mq_rules.specs.declared.rule.Rule.{Rule}
use Rattle.mq_rules.specs.declared.note.Seen.{Seen}
use Rattle.mq_rules.specs.Notes.{is_open}
use Rattle.mq_rules.specs.Moments.{newest, IsPlaced}
use Rattle.mq_rules.specs.Connections.{latest_fate, gives_fate, AreOnConnections}
use Rattle.mq_rules.specs.Histories.{history, history_after, gives_now}
use Rattle.mq_rules.specs.FaultKeys.{FaultMap}
use Rattle.mq_rules.proofs.Exports.{and_false, gains_nothing, gives-is, history-next, latest_fate-next, there}
use Rattle.mq_rules.specs.Under.{IsInTurn, Follows}
use Rattle.mq_rules.specs.Growing.{Gains, GainsWithin}
use Rattle.mq_fates.specs.Holding.{is_nothing, AreHeld, CanPass, turns_session, settled, Holds}
use Rattle.mq_fates.proofs.HoldLaws.{undecided-turns}

-- the fate that is kept next
pub fate-next : (role : Role) (tested : Tested) (fate now : Option Fate) (kept : History) (e : Seen) (past : List Seen) → role ≡ tested.role → kept ≡ history tested.role past → fate ≡ latest_fate tested.role past
    → now ≡ cond (is_open e.note) None (option_or fate (gives_now role kept e.note)) → now ≡ latest_fate tested.role (e ∷ past)
fate-next role tested fate now kept e past same_role same_history same_fate is =
    is ∙ ap (λ r. cond (is_open e.note) None (option_or fate (gives_now r kept e.note))) same_role
    ∙ ap (λ h. cond (is_open e.note) None (option_or fate (gives_now tested.role h e.note))) same_history
    ∙ ap (λ g. cond (is_open e.note) None (option_or fate g)) (sym (gives-is tested.role e past))
    ∙ ap (λ o. cond (is_open e.note) None (option_or o (gives_fate tested.role (newest e past)))) same_fate ∙ sym (latest_fate-next tested.role e past)

-- and the history
pub history-goes : (role : Role) (tested : Tested) (kept then : History) (e : Seen) (past : List Seen) → role ≡ tested.role → kept ≡ history tested.role past
    → then ≡ history_after role kept e.note → then ≡ history tested.role (e ∷ past)
history-goes role tested kept then e past same_role same_history grown =
    grown ∙ ap (λ r. history_after r kept e.note) same_role ∙ ap (λ h. history_after tested.role h e.note) same_history ∙ sym (history-next tested.role e past)

settled-undecided : (role : Role) (e : Seen) (past : List Seen) → latest_fate role (e ∷ past) ≡ None → settled role (e ∷ past) ≡ settled role past
settled-undecided role e past h = ap (λ o. cond (is_some {T = Fate} o) (e ∷ past) (settled role past)) h

settled-decided : (role : Role) (f : Fate) (e : Seen) (past : List Seen) → latest_fate role (e ∷ past) ≡ Some f → settled role (e ∷ past) ≡ e ∷ past
settled-decided role f e past h = ap (λ o. cond (is_some {T = Fate} o) (e ∷ past) (settled role past)) h

-- an event that leaves its connection undecided is the OPEN exactly if nothing is held
opens-first : (role : Role) (e : Seen) (hs base : List Seen) → AreHeld role hs base → is_some (latest_fate role base) ≡ true → (is_open e.note ≡ true → is_some (latest_fate role (hs ++ base)) ≡ true)
    → latest_fate role (e ∷ (hs ++ base)) ≡ None → is_open e.note ≡ is_nothing hs
opens-first role e [] base held known in_turn none = go (is_open e.note) (there (latest_fate role base) known) (sym (latest_fate-next role e base) ∙ none)
  where
    go : (b : Bool) → (g : Fate) × (latest_fate role base ≡ Some g) → cond b None (option_or (latest_fate role base) (gives_fate role (newest e base))) ≡ None → b ≡ true
    go true g h = refl
    go false g h = absurd (let bad : Some g.0 ≡ None = ap (λ o. option_or o (gives_fate role (newest e base))) (sym g.1) ∙ h in cc)
opens-first role e (d ∷ hs) base held known in_turn none = go (is_open e.note) in_turn
  where
    go : (b : Bool) → (b ≡ true → is_some (latest_fate role (d ∷ (hs ++ base))) ≡ true) → b ≡ false
    go false h = refl
    go true h = absurd (let bad : is_some {T = Fate} None ≡ true = sym (ap is_some held.1) ∙ h refl in cc)

pub holds-more : (agrees : Option Fate → List Seen → Type 0) (role : Role) (fate now : Option Fate) (kept then : History) (held more : List Seen) (tested : Tested) (e : Seen) (past : List Seen)
    → Holds agrees role fate kept held tested past → Follows tested e past → now ≡ cond (is_open e.note) None (option_or fate (gives_now role kept e.note)) → then ≡ history_after role kept e.note
    → now ≡ None → more ≡ held ++ (e ∷ []) → Holds agrees role now then more tested (e ∷ past)
holds-more agrees role fate now kept then held more tested e past h follows is after none grown = record {
  same_role = h.same_role;
  same_history = history-goes role tested kept then e past h.same_role h.same_history after;
  same_fate = latest;
  known = subst (λ log. is_some (latest_fate tested.role log) ≡ true) (sym base) h.known;
  joined = ap (λ log. e ∷ log) h.joined ∙ ap (λ hs. hs ++ settled tested.role past) (sym pushed) ∙ ap (λ log. reverse more ++ log) (sym base);
  are_held = subst (λ log. AreHeld tested.role (reverse more) log) (sym base) (subst (λ hs. AreHeld tested.role hs (settled tested.role past)) (sym pushed)
      (opens-first tested.role e (reverse held) (settled tested.role past) h.are_held h.known (subst (λ log. is_open e.note ≡ true → is_some (latest_fate tested.role log) ≡ true) h.joined follows.in_turn.0) undecided, undecided, h.are_held));
  so_far = subst (λ log. agrees (latest_fate tested.role log) log) (sym base) h.so_far;
}
  where
    latest : now ≡ latest_fate tested.role (e ∷ past)
    latest = fate-next role tested fate now kept e past h.same_role h.same_history h.same_fate is

    base : settled tested.role (e ∷ past) ≡ settled tested.role past
    base = settled-undecided tested.role e past (sym latest ∙ none)

    pushed : reverse more ≡ e ∷ reverse held
    pushed = ap reverse grown ∙ reverse-append held (e ∷ [])

    undecided : latest_fate tested.role (e ∷ (reverse held ++ settled tested.role past)) ≡ None
    undecided = ap (λ log. latest_fate tested.role (e ∷ log)) (sym h.joined) ∙ sym latest ∙ none

pub holding-gains : (agrees : Option Fate → List Seen → Type 0) (judges : Rule → Bool) (role : Role) (fate now : Option Fate) (kept : History) (held : List Seen) (tested : Tested) (e : Seen) (past : List Seen) (m : FaultMap)
    → Holds agrees role fate kept held tested past → now ≡ cond (is_open e.note) None (option_or fate (gives_now role kept e.note)) → now ≡ None
    → Gains (λ k r. judges r && turns_session tested e past k r) tested (e ∷ past) (length past + 1) m m
holding-gains agrees judges role fate now kept held tested e past m h is none =
    gains_nothing (λ k r. judges r && turns_session tested e past k r) tested (e ∷ past) (length past + 1) m
    (λ k r. ap (λ b. judges r && b) (undecided-turns tested e past (sym (fate-next role tested fate now kept e past h.same_role h.same_history h.same_fate is) ∙ none) k r) ∙ and_false (judges r))

-- what the step needs to know where the connection is decided
pub record Ready (agrees : Option Fate → List Seen → Type 0) (tested : Tested) (f : Fate) (e : Seen) (past hs : List Seen) : Type 0 where
  pub base : List Seen
  pub can : CanPass tested f e hs base
  pub before : agrees (latest_fate tested.role base) base
  pub whole : hs ++ base ≡ past
  pub after : latest_fate tested.role (e ∷ past) ≡ Some f
  pub position : e.place.position ≡ length past + 1

pub ready : (agrees : Option Fate → List Seen → Type 0) (role : Role) (fate now : Option Fate) (kept : History) (held given : List Seen) (tested : Tested) (f : Fate) (e : Seen) (past : List Seen)
    → Holds agrees role fate kept held tested past → Follows tested e past → now ≡ cond (is_open e.note) None (option_or fate (gives_now role kept e.note)) → now ≡ Some f → given ≡ held
    → Ready agrees tested f e past (reverse given)
ready agrees role fate now kept held given tested f e past h follows is some same = record {
  base = base;
  can = record {
    hand = record { later = subst (λ log. length log < e.place.position) joined (let p = follows.placed.0 in omega arith); are_held = subst (λ hs. AreHeld tested.role (reverse hs) base) (sym same) h.are_held; placed = subst IsPlaced joined follows.placed.1; in_turn = subst (IsInTurn tested.role) joined follows.in_turn.1; on_connections = subst AreOnConnections joined follows.on_connections.1 };
    known = h.known;
    follows = subst (Follows tested e) joined follows;
    decided = ap (λ log. latest_fate tested.role (e ∷ log)) (sym joined) ∙ after;
  };
  before = h.so_far;
  whole = sym joined;
  after = after;
  position = follows.placed.0;
}
  where
    base : List Seen
    base = settled tested.role past

    joined : past ≡ reverse given ++ base
    joined = h.joined ∙ ap (λ hs. reverse hs ++ base) (sym same)

    after : latest_fate tested.role (e ∷ past) ≡ Some f
    after = sym (fate-next role tested fate now kept e past h.same_role h.same_history h.same_fate is) ∙ some

pub holds-none : (agrees : Option Fate → List Seen → Type 0) (role : Role) (now : Option Fate) (then : History) (left : List Seen) (tested : Tested) (f : Fate) (e : Seen) (past hs : List Seen) (r : Ready agrees tested f e past hs)
    → role ≡ tested.role → then ≡ history tested.role (e ∷ past) → now ≡ Some f → left ≡ [] → (others : Option Fate → List Seen → Type 0) → others (Some f) (e ∷ (hs ++ r.base)) → Holds others role now then left tested (e ∷ past)
holds-none agrees role now then left tested f e past hs r same_role same_history some empty others turns_held = record {
  same_role = same_role;
  same_history = same_history;
  same_fate = some ∙ sym r.after;
  known = ap (λ log. is_some (latest_fate tested.role log)) all ∙ ap is_some r.after;
  joined = sym all ∙ ap (λ ds. reverse ds ++ settled tested.role (e ∷ past)) (sym empty);
  are_held = subst (λ ds. AreHeld tested.role (reverse ds) (settled tested.role (e ∷ past))) (sym empty) tt;
  so_far = subst (λ log. others (latest_fate tested.role log) log) (sym all) (subst (λ o. others o (e ∷ past)) (sym r.after) (subst (λ log. others (Some f) (e ∷ log)) r.whole turns_held));
}
  where
    all : settled tested.role (e ∷ past) ≡ e ∷ past
    all = settled-decided tested.role f e past r.after

pub ready-gains : (agrees : Option Fate → List Seen → Type 0) (judges : Rule → Bool) (tested : Tested) (f : Fate) (e : Seen) (past hs : List Seen) (old new : FaultMap) (r : Ready agrees tested f e past hs)
    → Gains (λ k s. judges s && turns_session tested e (hs ++ r.base) k s) tested (e ∷ (hs ++ r.base)) e.place.position old new → Gains (λ k s. judges s && turns_session tested e past k s) tested (e ∷ past) (length past + 1) old new
ready-gains agrees judges tested f e past hs old new r g =
    subst (λ n. Gains (λ k s. judges s && turns_session tested e past k s) tested (e ∷ past) n old new) r.position
    (subst (λ log. Gains (λ k s. judges s && turns_session tested e log k s) tested (e ∷ log) e.place.position old new) r.whole g)

pub ready-within : (agrees : Option Fate → List Seen → Type 0) (judges : Rule → Bool) (tested : Tested) (f : Fate) (e : Seen) (past hs : List Seen) (old new : FaultMap) (r : Ready agrees tested f e past hs)
    → GainsWithin (λ k s. judges s && turns_session tested e (hs ++ r.base) k s) tested (e ∷ (hs ++ r.base)) e.place.position old new → GainsWithin (λ k s. judges s && turns_session tested e past k s) tested (e ∷ past) (length past + 1) old new
ready-within agrees judges tested f e past hs old new r g =
    subst (λ n. GainsWithin (λ k s. judges s && turns_session tested e past k s) tested (e ∷ past) n old new) r.position
    (subst (λ log. GainsWithin (λ k s. judges s && turns_session tested e log k s) tested (e ∷ log) e.place.position old new) r.whole g)
