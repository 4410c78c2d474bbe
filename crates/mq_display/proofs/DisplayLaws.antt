-- A show that took in all, or was stopped.
use Rattle.std.proofs.Common.{◌≡◌, ℕ, Bool, true, false, true≢false, ◌⊎◌, inl, inr, List, [], ◌∷◌, ◌++◌, length, Option, Some, None, Result, Ok, Err, OnOk, IfErr, IfSome, refl, sym, ap, subst, MutBor, ◌∙◌, append_assoc, append-nil, length-append, nat_lt, ◌<◌, ◌≤◌, arith}
use Rattle.std.specs.Prelude.{◌==◌, if◌then◌else◌}
use Rattle.std.specs.Io.KnownBytes.{Appends}
use Rattle.mq_log.specs.declared.refusal.Refusal.{Refusal}
use Rattle.mq_log.specs.declared.refusal.Refusal.TheVariants as refusals
use Rattle.mq_log.specs.Events.{Placed, events}
use Rattle.mq_log.specs.Refusals.{refused, is_cut_short}
use Rattle.mq_log.specs.declared.header.Header.{Header}
use Rattle.mq_trace.specs.declared.reading.Reading.{Reading}
use Rattle.mq_log.specs.Framing.{header_by}
use Rattle.mq_trace.specs.Tracing.{Traced, IsTracedTo, Begins, HasReceived, Stops, StopsInHeader, Why}
use Rattle.mq_display.specs.declared.display.Showing.{Showing}
use Rattle.mq_report.specs.declared.report.RunFault.{RunFault}
use Rattle.mq_report.specs.declared.report.RunFault.TheVariants as run_faults
use Rattle.mq_trace.specs.Feeding.{FedAll}
use Rattle.mq_report.specs.Report.{StopsWriting}
use Rattle.mq_report.specs.Stopping.{default_limit, FedBefore, IsRefusedByte}
use Rattle.mq_display.specs.Outgoing.{Sends}
use Rattle.mq_display.specs.Display.{Shows, WritesBeginning, is_timed}
use Rattle.mq_display.specs.Views.{IsForeseen, is_timed_if_known}
use Rattle.mq_display.specs.Tracing.{IsShown, TraceStops, ShowStops}
use Rattle.mq_report.proofs.Exports.{header-stays, named_by, named_whole, unnamed_part}
use Rattle.mq_log.proofs.Exports.{events-header}
use Rattle.mq_trace.proofs.Exports.{appends-nothing, last-written, pieces-are, some-taken, stopped-in-last, whole-taken}
use Rattle.mq_trace.specs.Writing.{AppendsBeginning}

-- ---- a log that is timed as was foreseen, or isn't

-- what is foreseen of a log is foreseen of its beginnings
foreseen-begins : (foreseen : Bool) (taken later : List ℕ) → is_timed (taken ++ later) ≡ foreseen → IsForeseen foreseen taken
foreseen-begins foreseen taken later f = λ long. ap (λ (h : Header). h.version == 2) (sym (header-stays taken later long)) ∙ f

-- the same of a piece in two parts, after a log and before what is left
foreseen-part : (foreseen : Bool) (log piece taken rest left : List ℕ) → piece ≡ taken ++ rest → is_timed ((log ++ piece) ++ left) ≡ foreseen → IsForeseen foreseen (log ++ taken)
foreseen-part foreseen log piece taken rest left is f =
    foreseen-begins foreseen (log ++ taken) (rest ++ left) (subst (λ (l : List ℕ). is_timed l ≡ foreseen) (pieces-are log piece taken rest left is) f)

-- what is foreseen by what a reader is known to give
foreseen-known : (foreseen : Bool) (x : Option (List ℕ)) → foreseen ≡ is_timed_if_known x → IfSome x (λ log. is_timed log ≡ foreseen)
foreseen-known foreseen None e = tt
foreseen-known foreseen (Some log) e = sym e

-- what holds of each known log of which something holds
if-known : (x : Option (List ℕ)) (Q P : List ℕ → Type 0) → IfSome x Q → IfSome x (λ log. Q log → P log) → IfSome x P
if-known None Q P q p = tt
if-known (Some log) Q P q p = p q

-- a text that was chosen by what was foreseen is that of the log
pub shown-as-known : (text : Bool → List Placed → List ℕ) (x left : Option (List ℕ)) (result : Result (Unit {0}) RunFault) (old new : Option (List ℕ))
    → IfSome x (λ log. Shows (text (is_timed_if_known x)) log left result old new) → IfSome x (λ log. Shows (text (is_timed log)) log left result old new)
shown-as-known text None left result old new shows = tt
shown-as-known text (Some log) left result old new shows = shows

-- ---- a piece that is fed

-- A sink that is told whether its log is timed. What it has received by then, it has received after that.
module _ {S : Type 0} (agrees received : S → List Placed → Type 0) (refuses : S → List Placed → Refusal → Type 0) (has_failed : S → Bool) (foreseen : Bool)
    (keeps : (sink : S) (earlier : List Placed) → agrees sink earlier → received sink earlier) where
  -- a byte of the header isn't taken in
  pub header-stops : (limit : ℕ) (first : Traced) (reading : Reading) (sink : S) (log piece : List ℕ) (r : Refusal) → IsShown received foreseen first sink log
      → StopsInHeader limit log piece reading r → TraceStops received refuses foreseen limit sink log piece r
  header-stops limit first reading sink log piece r shown t =
      let s = t.0.0 in
      let few : length (log ++ s.taken) < 8 = t.1 in
      let none : events (log ++ s.taken) ≡ events log =
      events-header (log ++ s.taken) (omega (arith, few)) ∙ sym (events-header log (omega (arith, few, length-append log s.taken))) in
      record {
        taken = s.taken;
        byte = s.byte;
        later = s.later;
        is = s.is;
        unrefused = s.unrefused;
        why = λ f. inl (
          why s.taken s.byte s.why,
          subst (received sink) (sym none) (shown.1 (λ long. absurd (omega (arith, few, long, length-append log s.taken)))),
        );
      }
    where
      why : (taken : List ℕ) (byte : ℕ) → Why {S = Unit {0}} (λ _ _. Unit {0}) (λ _ _ _. ⊥) limit log taken byte tt tt r → IsRefusedByte limit (log ++ taken) byte r
      why taken byte (inl met) = inl met.met
      why taken byte (inr (inl lacks)) = inr (lacks.unmet, lacks.is, inl lacks.needs)
      why taken byte (inr (inr own)) = absurd (own.refused tt)

  -- the piece ends inside the header
  pub header-shown : (first mid : Traced) (sink : S) (log piece rest : List ℕ) → IsShown received foreseen first sink log → (b : Begins mid log piece rest)
      → None ≡ (if nat_lt (length (log ++ b.taken)) 8 then None else Some (header_by (log ++ b.taken))) → IsShown received foreseen mid sink (log ++ piece)
  header-shown first mid sink log piece rest shown b unnamed =
      let few : length (log ++ b.taken) < 8 = unnamed_part (log ++ b.taken) unnamed in
      let all : log ++ b.taken ≡ log ++ piece = elim b.whole [
        | inl long ↦ absurd (omega (arith, few, long))
        | inr none ↦ ap (λ (l : List ℕ). log ++ l) (sym (b.is ∙ ap (λ (l : List ℕ). b.taken ++ l) none ∙ append-nil b.taken))
      ] in
      subst (IsShown received foreseen mid sink) all (
        b.follows,
        λ f. subst (received sink) (sym b.no_event) (shown.1 (λ long. absurd (omega (arith, few, long, length-append log b.taken)))),
      )

  -- A sink was told of the log what its header says, and nothing else happened to it. If the log, with more after it, is timed as was foreseen, it agrees.
  abbrev pub HasBeenTold : S → List ℕ → Type 0
  HasBeenTold sink log = (more : List ℕ) → IsForeseen foreseen (log ++ more) → agrees sink (events log)

  pub told-so : (first mid : Traced) (sink told : S) (log piece rest : List ℕ) (header : Header) → IsShown received foreseen first sink log → (b : Begins mid log piece rest)
      → Some header ≡ (if nat_lt (length (log ++ b.taken)) 8 then None else Some (header_by (log ++ b.taken)))
      → ((earlier : List Placed) → received sink earlier → (header.version == 2) ≡ foreseen → agrees told earlier) → HasBeenTold told (log ++ b.taken)
  told-so first mid sink told log piece rest header shown b named tells = λ more f.
      let whole : 8 ≤ length (log ++ b.taken) = named_whole (log ++ b.taken) header named in
      let now : is_timed (log ++ b.taken) ≡ foreseen = foreseen-begins foreseen (log ++ b.taken) more (f (omega (arith, whole, length-append (log ++ b.taken) more))) whole in
      let was : received sink (events log) = shown.1 (foreseen-begins foreseen log b.taken now) in
      subst (agrees told) (sym b.no_event) (tells (events log) was (ap (λ (h : Header). h.version == 2) (named_by (log ++ b.taken) header named) ∙ now))

  module _ (log piece taken rest : List ℕ) (is : piece ≡ taken ++ rest) (told next : S) (so : HasBeenTold told (log ++ taken)) where
    joined : (log ++ taken) ++ rest ≡ log ++ piece
    joined = append_assoc log taken rest ∙ ap (λ (l : List ℕ). log ++ l) (sym is)

    -- the rest of the piece was taken in
    pub rest-shown : (tracer : Traced) → IsTracedTo tracer ((log ++ taken) ++ rest) → HasReceived agrees (log ++ taken) rest told next
        → IsShown received foreseen tracer next (log ++ piece)
    rest-shown tracer traced receives =
        subst (IsShown received foreseen tracer next) joined (traced, λ f. keeps next (events ((log ++ taken) ++ rest)) (receives (so rest f)))

    -- what stops a tracer stops it and its sink
    pub rest-stops : (limit first : ℕ) (r : Refusal) → limit ≡ first → Stops agrees refuses limit (log ++ taken) rest told next r
        → TraceStops received refuses foreseen first next log piece r
    rest-stops limit first r same s =
        let on : (log ++ taken) ++ s.taken ≡ log ++ (taken ++ s.taken) = append_assoc log taken s.taken in
        record {
          taken = taken ++ s.taken;
          byte = s.byte;
          later = s.later;
          is = is ∙ ap (λ (l : List ℕ). taken ++ l) s.is ∙ sym (append_assoc taken s.taken (s.byte ∷ s.later));
          unrefused = subst (λ (n : ℕ). refused n (log ++ (taken ++ s.taken)) ≡ None) same (subst (λ (l : List ℕ). refused limit l ≡ None) on s.unrefused);
          why = subst (λ (n : ℕ). Stopped n (log ++ (taken ++ s.taken)) s.byte) same
              (subst (λ (l : List ℕ). Stopped limit l s.byte) on (λ f. why s.taken s.byte (so s.taken f) s.why));
        }
      where
        Stopped : ℕ → List ℕ → ℕ → Type 0
        Stopped n l byte = IsForeseen foreseen l → (IsRefusedByte n l byte r × received next (events l)) ⊎ ((own : Refusal) × refuses next (events l) own)

        why : (more : List ℕ) (byte : ℕ) → agrees told (events (log ++ taken)) → Why agrees refuses limit (log ++ taken) more byte told next r
            → (IsRefusedByte limit ((log ++ taken) ++ more) byte r × received next (events ((log ++ taken) ++ more)))
            ⊎ ((own : Refusal) × refuses next (events ((log ++ taken) ++ more)) own)
        why more byte was (inl met) = inl (inl met.met, keeps next _ (met.receives was))
        why more byte was (inr (inl lacks)) = inl (inr (lacks.unmet, lacks.is, inl lacks.needs), keeps next _ (lacks.receives was))
        why more byte was (inr (inr own)) = inr (own.own, own.refused was)

    -- the piece was taken in, and the sink says whether it has failed
    pub result-stops : (tracer : Traced) (limit first : ℕ) (answer : Result (Unit {0}) Refusal) → limit ≡ first → refused limit ((log ++ taken) ++ rest) ≡ None
        → IsShown received foreseen tracer next (log ++ piece) → IfErr answer (λ _. has_failed next ≡ true)
        → IfErr answer (λ r. ShowStops received refuses has_failed foreseen first next log piece r)
    result-stops tracer limit first (Ok fine) same unrefused shown failed = tt
    result-stops tracer limit first (Err r) same unrefused shown failed = inr (record {
      unrefused = subst (λ (n : ℕ). refused n (log ++ piece) ≡ None) same (subst (λ (l : List ℕ). refused limit l ≡ None) joined unrefused);
      received_all = shown.1;
      failed = failed;
    })

pub result-follows : {E : Type 0} (answer : Result (Unit {0}) E) (P : Type 0) → P → OnOk answer P
result-follows (Ok fine) P p = p
result-follows (Err r) P p = tt

-- ---- what was written

-- all was written in the end
written : (held : Option (List ℕ)) (failed : Bool) (now new : Option (List ℕ)) (lines text : List ℕ) → Sends failed held now text lines → failed ≡ false → Appends now new lines
    → Appends held new text
written held true now new lines text sends fine last = absurd (true≢false fine)
written held false now new lines text sends fine last = last-written new lines sends last

-- the last write failed, or one before it
broken : (held : Option (List ℕ)) (failed : Bool) (now new : Option (List ℕ)) (lines text : List ℕ) → Sends failed held now text lines → StopsWriting failed now new lines
    → AppendsBeginning held new text
broken held true now new lines text sends stopped = subst (λ (w : Option (List ℕ)). AppendsBeginning held w text) (sym stopped) sends
broken held false now new lines text sends stopped = stopped-in-last new lines sends stopped

-- nothing was shown yet
pub shown-nothing : (failed : Bool) (x held : Option (List ℕ)) (text rest : List ℕ) → failed ≡ false → x ≡ held → text ≡ [] → rest ≡ [] → Sends failed held x text rest
shown-nothing true x held text rest fine same empty none = absurd (true≢false fine)
shown-nothing false x held text rest fine same empty none = record {
  written = [];
  parts = empty ∙ sym none;
  appended = subst (λ (h : Option (List ℕ)). Appends h x []) same (appends-nothing x);
}

-- ---- all that a reader gives

-- A tracer and its sink, which were fed from a reader that had this left, and has that left now. The sink never refuses an event, and what it has put of
-- the events that it has received is this text of them. If it is known what the reader gives, it is timed as was foreseen.
module _ {S : Type 0} (received : S → List Placed → Type 0) (refuses : S → List Placed → Refusal → Type 0) (has_failed : S → Bool) (foreseen : Bool) (text : List Placed → List ℕ)
    (x y : Option (List ℕ)) (known : foreseen ≡ is_timed_if_known x) (showing : Showing) (sink : S) (first : ℕ) (default : first ≡ default_limit) (held : Option (List ℕ))
    (now : Option (List ℕ)) (lines : List ℕ) (sends : (earlier : List Placed) → received sink earlier → Sends (has_failed sink) held now (text earlier) lines)
    (never : (earlier : List Placed) (own : Refusal) → refuses sink earlier own → ⊥) where
  abbrev pub ShowsAll : Type 0
  ShowsAll = FedAll (λ (t : Showing). t.tracer.reading.limit) (λ t s log. IsShown received foreseen t.tracer s log) first x y showing sink

  abbrev pub ShowsSome : Refusal → Type 0
  ShowsSome r = FedBefore (λ (t : Showing). t.tracer.reading.limit) (λ t s log. IsShown received foreseen t.tracer s log)
      (λ limit t s log piece refusal. ShowStops received refuses has_failed foreseen limit s log piece refusal) first x y showing sink r

  unrefused : (log : List ℕ) → IsTracedTo showing.tracer log → showing.tracer.reading.limit ≡ first → refused default_limit log ≡ None
  unrefused log follows within = subst (λ (l : ℕ). refused l log ≡ None) (within ∙ default) follows.keeps.unrefused

  -- why no more was shown: a byte of the next piece is refused, the sink failed, or reading did
  abbrev pub WhySome : List ℕ → List ℕ → Refusal → Type 0
  WhySome log piece r = ShowStops received refuses has_failed foreseen first sink log piece r
      ⊎ ((piece ≡ []) × IsShown received foreseen showing.tracer sink log × (showing.tracer.reading.limit ≡ first) × (r ≡ refusals.Read (length log)))

  -- what holds of all that the reader gives, if it is timed as was foreseen
  of-whole : (P : List ℕ → Type 0) → (all : ShowsAll) → (is_timed all.log ≡ foreseen → P all.log) → IfSome x P
  of-whole P all p =
      if-known x (λ log. is_timed log ≡ foreseen) P (foreseen-known foreseen x known)
      (whole-taken x y all.log (λ l. is_timed l ≡ foreseen → P l) all.consumed all.ended p)

  -- the same where some of it is left
  of-some : (P : List ℕ → Option (List ℕ) → Type 0) → (r : Refusal) → (some : ShowsSome r)
      → ((left : List ℕ) → is_timed ((some.log ++ some.piece) ++ left) ≡ foreseen → P ((some.log ++ some.piece) ++ left) (Some left)) → IfSome x (λ log. P log y)
  of-some P r some p =
      if-known x (λ log. is_timed log ≡ foreseen) (λ log. P log y) (foreseen-known foreseen x known)
      (some-taken x y (some.log ++ some.piece) (λ l left. is_timed l ≡ foreseen → P l left) some.consumed p)

  -- a log before a piece of which nothing was fed
  before-none : (log piece left : List ℕ) → piece ≡ [] → is_timed ((log ++ piece) ++ left) ≡ foreseen → IsForeseen foreseen log
  before-none log piece left none f =
      subst (IsForeseen foreseen) (append-nil log) (foreseen-part foreseen log piece [] piece left refl f)

  -- what holds of the sink whatever it has received, holds
  pub show-kept : (P : Type 0) → ((earlier : List Placed) → received sink earlier → P) → (result : Result (Unit {0}) Refusal) → OnOk result ShowsAll → IfErr result ShowsSome
      → IfSome x (λ _. P)
  show-kept P keeps (Ok done) all some = of-whole (λ _. P) all (λ f. keeps (events all.log) (all.followed.1 (λ long. f)))
  show-kept P keeps (Err r) all some = of-some (λ _ _. P) r some (λ left f. by_why left f some.why)
    where
      by_why : (left : List ℕ) → is_timed ((some.log ++ some.piece) ++ left) ≡ foreseen → WhySome some.log some.piece r → P
      by_why left f (inl (inl s)) = elim (s.why (foreseen-part foreseen some.log some.piece s.taken (s.byte ∷ s.later) left s.is f)) [
        | inl (why, a) ↦ keeps (events (some.log ++ s.taken)) a
        | inr own ↦ absurd (never (events (some.log ++ s.taken)) own.0 own.1)
      ]
      by_why left f (inl (inr h)) = keeps (events (some.log ++ some.piece)) (h.received_all (foreseen-begins foreseen (some.log ++ some.piece) left f))
      by_why left f (inr (none, follows, within, is)) = keeps (events some.log) (follows.1 (before-none some.log some.piece left none f))

  -- a write failed, then or at last
  pub show-unwritten : (new : Option (List ℕ)) (result : Result (Unit {0}) Refusal) → OnOk result ShowsAll → IfErr result ShowsSome → StopsWriting (has_failed sink) now new lines
      → IfSome x (λ log. Shows text log y (Err run_faults.Write) held new)
  show-unwritten new (Ok done) all some stopped =
      of-whole (λ l. WritesBeginning text l held new) all (λ f. record {
        taken = all.log;
        later = [];
        is = sym (append-nil all.log);
        unrefused = unrefused all.log all.followed.0 all.within;
        written = broken held (has_failed sink) now new lines (text (events all.log)) (sends (events all.log) (all.followed.1 (λ long. f))) stopped;
      })
  show-unwritten new (Err r) all some stopped = of-some (λ l left. WritesBeginning text l held new) r some (λ left f. by_why left f some.why)
    where
      begun : (earlier : List Placed) → received sink earlier → AppendsBeginning held new (text earlier)
      begun earlier a = broken held (has_failed sink) now new lines (text earlier) (sends earlier a) stopped

      state : {A : Type 0} (earlier : List Placed) → (A × received sink earlier) ⊎ ((own : Refusal) × refuses sink earlier own) → received sink earlier
      state earlier (inl a) = a.1
      state earlier (inr own) = absurd (never earlier own.0 own.1)

      by_why : (left : List ℕ) → is_timed ((some.log ++ some.piece) ++ left) ≡ foreseen → WhySome some.log some.piece r
          → WritesBeginning text ((some.log ++ some.piece) ++ left) held new
      by_why left f (inl (inl s)) = record {
        taken = some.log ++ s.taken;
        later = s.byte ∷ (s.later ++ left);
        is = pieces-are some.log some.piece s.taken (s.byte ∷ s.later) left s.is;
        unrefused = subst (λ (l : ℕ). refused l (some.log ++ s.taken) ≡ None) default s.unrefused;
        written = begun (events (some.log ++ s.taken))
            (state (events (some.log ++ s.taken)) (s.why (foreseen-part foreseen some.log some.piece s.taken (s.byte ∷ s.later) left s.is f)));
      }
      by_why left f (inl (inr h)) = record {
        taken = some.log ++ some.piece;
        later = left;
        is = refl;
        unrefused = subst (λ (l : ℕ). refused l (some.log ++ some.piece) ≡ None) default h.unrefused;
        written = begun (events (some.log ++ some.piece)) (h.received_all (foreseen-begins foreseen (some.log ++ some.piece) left f));
      }
      by_why left f (inr (none, follows, within, is)) = record {
        taken = some.log;
        later = left;
        is = ap (λ (l : List ℕ). (some.log ++ l) ++ left) none ∙ ap (λ (l : List ℕ). l ++ left) (append-nil some.log);
        unrefused = unrefused some.log follows.0 within;
        written = begun (events some.log) (follows.1 (before-none some.log some.piece left none f));
      }

  -- a byte was refused, or reading failed, and what waited was written
  pub show-refused : (new : Option (List ℕ)) (r : Refusal) → ShowsSome r → has_failed sink ≡ false → Appends now new lines
      → IfSome x (λ log. Shows text log y (Err (run_faults.Refused r)) held new)
  show-refused new r some fine last = of-some (λ l left. Shows text l left (Err (run_faults.Refused r)) held new) r some (λ left f. by_why left f some.why)
    where
      all : (earlier : List Placed) → received sink earlier → Appends held new (text earlier)
      all earlier a = written held (has_failed sink) now new lines (text earlier) (sends earlier a) fine last

      by_why : (left : List ℕ) → is_timed ((some.log ++ some.piece) ++ left) ≡ foreseen → WhySome some.log some.piece r
          → Shows text ((some.log ++ some.piece) ++ left) (Some left) (Err (run_faults.Refused r)) held new
      by_why left f (inl (inl s)) = elim (s.why (foreseen-part foreseen some.log some.piece s.taken (s.byte ∷ s.later) left s.is f)) [
        | inl (why, a) ↦ (
          record {
            taken = some.log ++ s.taken;
            later = s.byte ∷ (s.later ++ left);
            is = pieces-are some.log some.piece s.taken (s.byte ∷ s.later) left s.is;
            unrefused = subst (λ (l : ℕ). refused l (some.log ++ s.taken) ≡ None) default s.unrefused;
            why = inl (subst (λ (l : ℕ). IsRefusedByte l (some.log ++ s.taken) s.byte r) default why);
          },
          all (events (some.log ++ s.taken)) a,
        )
        | inr own ↦ absurd (never (events (some.log ++ s.taken)) own.0 own.1)
      ]
      by_why left f (inl (inr h)) = absurd (true≢false (sym h.failed ∙ fine))
      by_why left f (inr (none, follows, within, is)) = (
        record {
          taken = some.log;
          later = left;
          is = ap (λ (l : List ℕ). (some.log ++ l) ++ left) none ∙ ap (λ (l : List ℕ). l ++ left) (append-nil some.log);
          unrefused = unrefused some.log follows.0 within;
          why = inr (is, refl);
        },
        all (events some.log) (follows.1 (before-none some.log some.piece left none f)),
      )

  -- all was taken in and written
  show-whole : (new : Option (List ℕ)) → ShowsAll → has_failed sink ≡ false → Appends now new lines → ((log : List ℕ) → IsTracedTo showing.tracer log → is_cut_short log ≡ false)
      → IfSome x (λ log. Shows text log y (Ok tt) held new)
  show-whole new all fine last whole =
      of-whole (λ l. Shows text l y (Ok tt) held new) all (λ f. (
        record { unrefused = unrefused all.log all.followed.0 all.within; whole = whole all.log all.followed.0 },
        written held (has_failed sink) now new lines (text (events all.log)) (sends (events all.log) (all.followed.1 (λ long. f))) fine last,
      ))

  -- and the log is cut short
  show-cut : (new : Option (List ℕ)) (fault : RunFault) → ShowsAll → has_failed sink ≡ false → Appends now new lines
      → ((log : List ℕ) → IsTracedTo showing.tracer log → (fault ≡ run_faults.Refused (refusals.Cut (length log))) × (is_cut_short log ≡ true))
      → IfSome x (λ log. Shows text log y (Err fault) held new)
  show-cut new fault all fine last cut =
      let c = cut all.log all.followed.0 in
      of-whole (λ l. Shows text l y (Err fault) held new) all (λ f.
      subst (λ (e : RunFault). Shows text all.log y (Err e) held new) (sym c.0) (
        record {
          taken = all.log;
          later = [];
          is = sym (append-nil all.log);
          unrefused = unrefused all.log all.followed.0 all.within;
          why = inl (c.1, refl);
        },
        written held (has_failed sink) now new lines (text (events all.log)) (sends (events all.log) (all.followed.1 (λ long. f))) fine last,
      ))

  pub show-ended : (new : Option (List ℕ)) (result : Result (Unit {0}) RunFault) → ShowsAll → has_failed sink ≡ false → Appends now new lines
      → OnOk result ((log : List ℕ) → IsTracedTo showing.tracer log → is_cut_short log ≡ false)
      → IfErr result (λ fault. (log : List ℕ) → IsTracedTo showing.tracer log → (fault ≡ run_faults.Refused (refusals.Cut (length log))) × (is_cut_short log ≡ true))
      → IfSome x (λ log. Shows text log y result held new)
  show-ended new (Ok done) all fine last ok refused = show-whole new all fine last ok
  show-ended new (Err fault) all fine last ok refused = show-cut new fault all fine last refused

-- the writer that was lent to the sink ends as the sink left it
pub lent-back : {W : Type 0} (text : List Placed → List ℕ) (contents : W → Option (List ℕ)) (remaining left : Option (List ℕ)) (result : Result (Unit {0}) RunFault) (old : Option (List ℕ))
    (last : MutBor W) (name : ℕ) (x : W) → last.ghost_name ≡ name → (name ≡ last.ghost_name → x ≡ last.now)
    → IfSome remaining (λ log. Shows text log left result old (contents last.now)) → IfSome remaining (λ log. Shows text log left result old (contents x))
lent-back {W} text contents remaining left result old last name x same ends shows =
    subst (λ (w : W). IfSome remaining (λ log. Shows text log left result old (contents w))) (sym (ends (sym same))) shows
