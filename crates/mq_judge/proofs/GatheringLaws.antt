-- What is kept to say what isn't judged, with one event more.
use Rattle.std.proofs.Common.{◌≡◌, ℕ, Bool, true, false, cond, List, ◌∷◌, ◌++◌, Option, Some, None, is_some, refl, sym, ap, subst, ◌∙◌, ◌&&◌, ◌||◌, not}
use Rattle.std.specs.Prelude.{is_none, option_map}
use Rattle.std.specs.Option.{option_or}
use Rattle.mq_log.specs.declared.kind.Direction.{Direction}
use Rattle.mq_log.specs.declared.kind.Direction.TheVariants as directions
use Rattle.mq_log.specs.declared.place.Place3.{Place3}
use Rattle.mq_log.specs.Events.{Item, Placed, UnfinishedPackets}
use Rattle.mq_log.specs.Flows.{item_event}
use Rattle.mq_rules.specs.declared.bare.Bare.{Bare}
use Rattle.mq_rules.specs.declared.bare.BareFields.{BareFields}
use Rattle.mq_rules.specs.declared.bare.BareFields.TheVariants as bares
use Rattle.mq_rules.specs.declared.fate.Fate.{Fate}
use Rattle.mq_rules.specs.declared.note.Note.{Note}
use Rattle.mq_rules.specs.declared.packet_note.DisconnectNote.{DisconnectNote}
use Rattle.mq_rules.specs.declared.packet_note.PacketFields.{PacketFields}
use Rattle.mq_rules.specs.declared.note.Seen.{Seen}
use Rattle.mq_rules.specs.declared.role.Role.{Role}
use Rattle.mq_rules.specs.declared.role.Role.TheVariants.{Client, Server}
use Rattle.mq_rules.specs.declared.role.Tested.{Tested}
use Rattle.mq_rules.specs.Words.{only, is_some_and}
use Rattle.mq_rules.specs.Notes.{is_open, is_rest, decides, connack_in, fate_by, disconnect_in, subscription_in, received_subscription, bare_fields, bare_note, note_of_bare}
use Rattle.mq_rules.specs.Moments.{newest, note, moments, some, latest}
use Rattle.mq_rules.specs.Connections.{connection, latest_fate, gives_fate, fate_by_answer, accepted, ends_binding, is_binding}
use Rattle.std.specs.List.{list_any}
use Rattle.mq_rules.specs.Subscriptions.{asks_to_share, is_shared}
use Rattle.mq_rules.specs.Under.{seen}
use Rattle.mq_rules.proofs.Exports.{latest_fate-same, option_or-none, some-next}
use Rattle.mq_fates.specs.Taking.{ends_by}
use Rattle.mq_report.specs.declared.report.unjudged.Gap.{Gap}
use Rattle.mq_report.specs.declared.report.unjudged.Gap.TheVariants.{UnknownSession, UndecidedSession, NoRest}
use Rattle.mq_judge.specs.Unjudged.{place, lost_at, is_unknown, turns_unknown, shown_at, with_last, shown_in, latest_open, first_sharing, shared_by, shared_in, unrested_in, unreleased, unfinished_of, with_unfinished, with_dropped, with_whole}
use Rattle.mq_judge.specs.Gathering.{Gathers, IsShown}
use Rattle.mq_judge.specs.declared.shown.Shown.{Shown}
use Rattle.mq_judge.specs.declared.unjudged.Unjudged.{Unjudged}

-- where the latest connection begins, with one event more
open-next : (e : Seen) (past : List Seen) → latest_open (e ∷ past) ≡ cond (is_open e.note) (Some e.place) (latest_open past)
open-next e past = go (is_open e.note)
  where
    go : (b : Bool) → option_map place (cond b (Some (newest e past)) (latest (λ m. is_open (note m)) (moments past))) ≡ cond b (Some e.place) (latest_open past)
    go true = refl
    go false = refl

-- a REST binds by what is kept
binds-kept : (role : Role) (e : Seen) (past : List Seen) (before : Option Fate) (ended : Bool) → before ≡ latest_fate role past → ended ≡ some ends_binding (connection past)
    → (is_rest e.note && (accepted before && not ended)) ≡ is_binding role (newest e past)
unfolding is_binding
binds-kept role e past before ended fate over =
    ap (λ (o : Option Fate). is_rest e.note && (accepted o && not ended)) fate ∙ ap (λ (b : Bool). is_rest e.note && (accepted (latest_fate role past) && not b)) over

-- one event more was taken in
pub gathered-next : (tested : Tested) (e : Seen) (past : List Seen) (before after : Option Fate) (old new : Unjudged)
    → before ≡ latest_fate tested.role past → after ≡ latest_fate tested.role (e ∷ past)
    → ((gaps : List Gap) → IsShown old.shown gaps → IsShown new.shown (with_last gaps (option_or (lost_at e.place e.note) (only (is_none before && is_some_and is_unknown after) (Some (UnknownSession e.place))))))
    → new.opened ≡ cond (is_open e.note) (Some e.place) old.opened → new.shared ≡ option_or old.shared (only (asks_to_share (newest e past)) (Some e.place))
    → new.rested ≡ ((is_rest e.note && (accepted before && not old.ended)) || old.rested) → new.ended ≡ (ends_by e.note || (not (is_open e.note) && old.ended))
    → Gathers old tested past → Gathers new tested (e ∷ past)
gathered-next tested e past before after old new fate fates shows opens shares rests ends was = record {
  shown = λ here. shows (shown_in tested.role past) was.shown here ∙ ap (λ (gap : Option Gap). with_last (shown_in tested.role past) gap) same;
  opened = opens ∙ ap (λ (o : Option Place3). cond (is_open e.note) (Some e.place) o) was.opened ∙ sym (open-next e past);
  shared = shares ∙ ap (λ (o : Option Place3). option_or o (only (asks_to_share (newest e past)) (Some e.place))) was.shared;
  rested = rests ∙ ap (λ (b : Bool). b || old.rested) (binds-kept tested.role e past before old.ended fate was.ended) ∙ ap (λ (b : Bool). is_binding tested.role (newest e past) || b) was.rested;
  ended = ends ∙ ap (λ (t : Bool). ends_by e.note || (not (is_open e.note) && t)) was.ended ∙ sym (some-next ends_binding e past);
}
  where
    same : option_or (lost_at e.place e.note) (only (is_none before && is_some_and is_unknown after) (Some (UnknownSession e.place))) ≡ shown_at tested.role (newest e past)
    same =
        ap (λ (o : Option Fate). option_or (lost_at e.place e.note) (only (is_none o && is_some_and is_unknown after) (Some (UnknownSession e.place)))) fate
        ∙ ap (λ (o : Option Fate). option_or (lost_at e.place e.note) (only (is_none (latest_fate tested.role past) && is_some_and is_unknown o) (Some (UnknownSession e.place)))) fates

-- ---- what they show together

-- what is added is what the events show together, each part after those before it
pub whole-all : (tested : Tested) (past : List Seen) (fate : Option Fate) (kept : Unjudged) (shown one two three whole : List Gap) (undecided shared unrested unreleasing : Option Gap)
    → fate ≡ latest_fate tested.role past → Gathers kept tested past
    → one ≡ with_last shown undecided → undecided ≡ only (is_none fate) (option_map UndecidedSession kept.opened)
    → two ≡ with_last one shared → shared ≡ shared_by tested.role kept.shared
    → three ≡ with_last two unrested → unrested ≡ only (not kept.rested) (Some NoRest)
    → whole ≡ with_last three unreleasing → unreleasing ≡ unreleased tested → whole ≡ with_whole shown tested past
whole-all tested past fate kept shown one two three whole undecided shared unrested unreleasing fates was first says second asks third rests last kept_so =
    last ∙ ap (with_last three) kept_so ∙ ap (λ (gaps : List Gap). with_last gaps (unreleased tested))
    (third ∙ ap (with_last two) (rests ∙ ap (λ (b : Bool). only {A = Gap} (not b) (Some NoRest)) was.rested) ∙ ap (λ (gaps : List Gap). with_last gaps (unrested_in tested.role past))
    (second ∙ ap (with_last one) (asks ∙ ap (shared_by tested.role) was.shared) ∙ ap (λ (gaps : List Gap). with_last gaps (shared_in tested.role past))
    (first ∙ ap (with_last shown) (says ∙ ap (λ (o : Option Fate). only (is_none o) (option_map UndecidedSession kept.opened)) fates ∙ ap (λ (o : Option Place3). only (is_none (latest_fate tested.role past)) (option_map UndecidedSession o)) was.opened))))

-- ---- what is dropped

-- a packet that came is no CLOSE, and drops nothing
nothing-dropped : (direction : Direction) (item : Item) (gaps : List Gap) (at : Place3) → with_dropped gaps at (item_event direction item) ≡ gaps
nothing-dropped directions.Sent item gaps at = refl
nothing-dropped directions.Recv item gaps at = refl

pub dropped-still : (direction : Direction) (item : Item) (p : Placed) (kept : Shown) (gaps : List Gap) → p.event ≡ item_event direction item → IsShown kept gaps
    → IsShown kept (with_dropped gaps p.place p.event)
dropped-still direction item p kept gaps is was = λ here. was here ∙ sym (ap (with_dropped gaps p.place) is ∙ nothing-dropped direction item gaps p.place)

-- what both directions leave unfinished is kept
pub both-kept : (old now new : Shown) (at : Option Place3) (packets : UnfinishedPackets) (gaps : List Gap) (one two : Option Gap)
    → IsShown old gaps → (IsShown old gaps → IsShown now (with_last gaps one)) → one ≡ unfinished_of directions.Sent at packets.sent
    → (IsShown now (with_last gaps one) → IsShown new (with_last (with_last gaps one) two)) → two ≡ unfinished_of directions.Recv at packets.received
    → IsShown new (with_unfinished gaps at packets)
both-kept old now new at packets gaps one two was first sent second received =
    subst (λ (o : Option Gap). IsShown new (with_last (with_last gaps (unfinished_of directions.Sent at packets.sent)) o)) received
    (subst (λ (o : Option Gap). IsShown new (with_last (with_last gaps o) two)) sent (second (first was)))

-- what CLOSEs dropped was added, and then what the log's end leaves unfinished
pub dropped-all : (start now one two dropped : List Gap) (packets : UnfinishedPackets) (left came : Option Gap)
    → now ≡ start ++ dropped → one ≡ with_last now left → left ≡ unfinished_of directions.Sent None packets.sent
    → two ≡ with_last one came → came ≡ unfinished_of directions.Recv None packets.received → two ≡ with_unfinished (start ++ dropped) None packets
dropped-all start now one two dropped packets left came added first sent second received =
    second ∙ ap (with_last one) received ∙ ap (λ (gaps : List Gap). with_last gaps (unfinished_of directions.Recv None packets.received))
    (first ∙ ap (with_last now) sent ∙ ap (λ (gaps : List Gap). with_last gaps (unfinished_of directions.Sent None packets.sent)) added)

-- ---- an event that shows nothing of this

-- an event that decides nothing makes no session one that can't be told
stays-known : (role : Role) (e : Seen) (past : List Seen) → is_open e.note ≡ false → decides role e.note ≡ None → turns_unknown role (newest e past) ≡ false
unfolding gives_fate
stays-known role e past closed undecided =
    ap (λ (o : Option Fate). is_none (latest_fate role past) && is_some_and is_unknown o) same ∙ go (latest_fate role past)
  where
    same : latest_fate role (e ∷ past) ≡ latest_fate role past
    same =
        latest_fate-same role e past closed
        ∙ ap (λ (o : Option Fate). option_or (latest_fate role past) (option_map (fate_by_answer role (newest e past)) o)) undecided ∙ option_or-none (latest_fate role past)

    go : (o : Option Fate) → (is_none o && is_some_and is_unknown o) ≡ false
    go None = refl
    go (Some f) = refl

-- with it what is kept stays as it is
passed-by : (tested : Tested) (e : Seen) (past : List Seen) (kept : Unjudged) → is_open e.note ≡ false → is_rest e.note ≡ false → ends_by e.note ≡ false
    → decides tested.role e.note ≡ None → lost_at e.place e.note ≡ None → received_subscription e.note ≡ None → Gathers kept tested past → Gathers kept tested (e ∷ past)
unfolding is_binding
passed-by tested e past kept closed awake unended undecided found asked was = record {
  shown = λ here. was.shown here ∙ sym (ap (λ (gap : Option Gap). with_last (shown_in tested.role past) gap) nothing);
  opened = was.opened ∙ sym (open-next e past ∙ ap (λ (b : Bool). cond b (Some e.place) (latest_open past)) closed);
  shared = was.shared ∙ sym (ap (λ o. option_or (first_sharing past) (only (is_some_and (λ s. list_any is_shared s.filters) o) (Some e.place))) asked ∙ option_or-none _);
  rested = was.rested ∙ sym (ap (λ (b : Bool). (b && (accepted (latest_fate tested.role past) && not (some ends_binding (connection past)))) || some (is_binding tested.role) (moments past)) awake);
  ended = was.ended ∙ sym (some-next ends_binding e past ∙ ap (λ (b : Bool). b || (not (is_open e.note) && some ends_binding (connection past))) unended ∙ ap (λ (b : Bool). not b && some ends_binding (connection past)) closed);
}
  where
    nothing : shown_at tested.role (newest e past) ≡ None
    nothing =
        ap (λ (o : Option Gap). option_or o (only (turns_unknown tested.role (newest e past)) (Some (UnknownSession e.place)))) found
        ∙ ap (λ (b : Bool). only {A = Gap} b (Some (UnknownSession e.place))) (stays-known tested.role e past closed undecided)

-- a bare packet is such an event: it is no CONNACK, no SUBSCRIBE and no DISCONNECT
record ShowsNothing (n : Note) : Type 0 where
  closed : is_open n ≡ false
  awake : is_rest n ≡ false
  unended : ends_by n ≡ false
  undecided : (role : Role) → decides role n ≡ None
  found : (at : Place3) → lost_at at n ≡ None
  asked : received_subscription n ≡ None

-- a packet that is none of these
other-packet : (direction : Direction) (size : ℕ) (fields : PacketFields) → connack_in fields ≡ None → subscription_in fields ≡ None → disconnect_in fields ≡ None
    → ShowsNothing (bare_note direction size fields)
other-packet directions.Sent size fields accepts asks ends = record {
  closed = refl;
  awake = refl;
  unended = ap (λ (o : Option DisconnectNote). is_some o || (false || (false || false))) ends;
  undecided = λ role. elim role as (λ (r : Role). decides r (bare_note directions.Sent size fields) ≡ None) [ Client ↦ refl | Server ↦ ap (option_map fate_by) accepts ];
  found = λ at. refl;
  asked = refl;
}
other-packet directions.Recv size fields accepts asks ends = record {
  closed = refl;
  awake = refl;
  unended = ap (λ (o : Option DisconnectNote). is_some o || (false || false)) ends;
  undecided = λ role. elim role as (λ (r : Role). decides r (bare_note directions.Recv size fields) ≡ None) [ Client ↦ ap (option_map fate_by) accepts | Server ↦ refl ];
  found = λ at. refl;
  asked = asks;
}

bare-other : (direction : Direction) (fields : BareFields)
    → (connack_in (bare_fields direction fields) ≡ None) × (subscription_in (bare_fields direction fields) ≡ None) × (disconnect_in (bare_fields direction fields) ≡ None)
bare-other direction (bares.Publish identifier qos duplicate topic) = (refl, refl, refl)
bare-other direction (bares.Puback identifier code) = (refl, refl, refl)
bare-other direction (bares.Pubrec identifier code) = (refl, refl, refl)
bare-other direction (bares.Pubrel identifier code) = (refl, refl, refl)
bare-other direction (bares.Pubcomp identifier code) = (refl, refl, refl)
bare-other direction bares.Pingreq = (refl, refl, refl)
bare-other direction bares.Pingresp = (refl, refl, refl)

pub gathered-bare : (tested : Tested) (at : Place3) (b : Bare) (past : List Seen) (kept : Unjudged) → Gathers kept tested past → Gathers kept tested (seen at (note_of_bare b) ∷ past)
unfolding note_of_bare
gathered-bare tested at b past kept was =
    let other = bare-other b.direction b.fields in
    let nothing = other-packet b.direction b.size (bare_fields b.direction b.fields) other.0 other.1 other.2 in
    passed-by tested (seen at (bare_note b.direction b.size (bare_fields b.direction b.fields))) past kept nothing.closed nothing.awake nothing.unended (nothing.undecided tested.role) (nothing.found at) nothing.asked was
