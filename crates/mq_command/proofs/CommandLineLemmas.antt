-- Words in which the definition finds no fault name a subcommand.
use Rattle.std.proofs.Common.{◌≡◌, ◌∙◌, ◌&&◌, ◌||◌, Bool, true, false, true≢false, not, cond, refl, sym, ap, ap₂, subst, ◌⊎◌, ℕ, suc, arith, inl, inr, Result, Ok, Err, IfErr, IfOk, MatchResult, List, [], ◌∷◌, fold, Option, Some, None, IsSomeAnd, is_some, codes, option_map, unwrap_or}
use Rattle.std.specs.Str.{bytes_eq}
use Rattle.std.specs.List.{Any}
use Rattle.std.proofs.lemmas.Slice.Eq.{bytes_eq-Decides}
use Rattle.std.proofs.lemmas.Bool.{false_from_ne_true}
use Rattle.clap.specs.Walk.{Held, Names, Outcome, Row, Rule, Step, Text, Waiting, Walk, after_flag, after_step, answers_to, arg_by_index, arg_by_long, bundle, done, idle, long_met, long_or_other, next, nothing_held, finished, settled, option, plain, plain_word, positional, refused, short_or_plain, subcommand, subcommand_met, subcommand_or_other, to_positional, trailing, value, waits, walk, walk_from, walked, walked_from, word_met}
use Rattle.clap.specs.Lexer.{long_of, short_of}
use Rattle.clap.specs.Simple.{Shape, argument_words, built, entered, names_of, rows_at, subcommand_of}
use Rattle.clap.specs.Words.{first_value, found_of, kind_of, matched_of, raw_values, rows_of, subcommand_name_of, subcommand_rows, subcommand_rows_of}
use Rattle.clap.proofs.WalkLemmas.{first_value-rows, raw_values-rows}
use Rattle.clap.specs.declared.parser.matches.ArgMatches.{ArgMatches}
use Rattle.clap.specs.declared.parser.matches.ArgMatches.TheViews.{out-ArgMatches, out-SubCommand}
use Rattle.clap.specs.declared.parser.matches.SubCommand.{SubCommand}
use Rattle.std.specs.Prelude.{Box}
use Rattle.std.specs.Box.{box_value}
use Rattle.clap.specs.declared.error.Error.{Error}
use Rattle.clap.specs.declared.error.kind.ErrorKind.{ErrorKind}
use Rattle.clap.specs.declared.error.kind.ErrorKind.TheVariants.{OutOfMemory}
use Rattle.mq_command.specs.declared.command_line.Form.{Form}
use Rattle.mq_command.specs.declared.command_line.Form.TheVariants as forms
use Rattle.mq_command.specs.declared.scope.Scope.{Scope}
use Rattle.mq_command.specs.declared.scope.Scope.TheVariants as scopes
use Rattle.mq_command.specs.declared.command_line.EarlyExit.{EarlyExit}
use Rattle.mq_command.specs.declared.command_line.EarlyExit.TheVariants.{Help, Memory, Usage}
use Rattle.clap.specs.Kinds.{FailsBy, HasKind, IsAmong, Kinds, or_else}
use Rattle.clap.specs.Faults.{defaults_fault, turn_fault, walk_fault, word_fault, step_fault, entered_fault, settle_fault, check_fault, other_fault}
use Rattle.clap.specs.declared.builder.range.ValueRange.{ValueRange}
use Rattle.mq_command.specs.CommandLine.{several, IsHelpOrVersion, StopsFor, check_request, convert_request, explain_request, form_in, scope_in, word_faults, is_true, mqjudge, packet_request, request_in, request_of, rules_request, show_request}

-- ---- lists of kinds

or_else-first : (a b : Kinds) → or_else a b ≡ [] → a ≡ []
or_else-first [] b e = refl
or_else-first (k ∷ ks) b e = e

or_else-second : (a b : Kinds) → or_else a b ≡ [] → b ≡ []
or_else-second [] b e = e
or_else-second (k ∷ ks) b e = cc

-- ---- a step of the walk

-- the word is no subcommand
abbrev IsNoSubcommand : Step → Type 0
IsNoSubcommand (subcommand name) = ⊥
IsNoSubcommand _ = Unit {0}

-- the walk has not stopped at `help`
abbrev StoppedElsewhere : Option (Text × List Text) → Type 0
StoppedElsewhere None = Unit {0}
StoppedElsewhere (Some p) = bytes_eq p.0 (codes "help") ≡ false

plain_word-is_none : (c : List Rule) (waiting : Waiting) (word : Text) (h : Held) → IsNoSubcommand (plain_word c waiting word h).1
plain_word-is_none c idle word h = tt
plain_word-is_none c (option id) word h = tt
plain_word-is_none c positional word h = tt

after_flag-is_none : (c : List Rule) (waiting : Waiting) (word : Text) (h : Held) (o : Outcome) → IsNoSubcommand (after_flag c waiting word h o).1
after_flag-is_none c waiting word h done = tt
after_flag-is_none c waiting word h (waits id) = tt
after_flag-is_none c waiting word h plain = plain_word-is_none c waiting word h
after_flag-is_none c waiting word h refused = plain_word-is_none c waiting word h

short_or_plain-is_none : (c : List Rule) (waiting : Waiting) (word : Text) (flags : Option Text) (h : Held) → IsNoSubcommand (short_or_plain c waiting word flags h).1
short_or_plain-is_none c waiting word (Some flags) h = after_flag-is_none c waiting word (bundle c flags h).0 (bundle c flags h).1
short_or_plain-is_none c waiting word None h = plain_word-is_none c waiting word h

long_or_other-is_none : (c : List Rule) (waiting : Waiting) (word : Text) (long : Option (Text × Option Text)) (h : Held) → IsNoSubcommand (long_or_other c waiting word long h).1
long_or_other-is_none c waiting word (Some p) h =
    after_flag-is_none c waiting word (long_met c (arg_by_long c p.0) p.1 h).0 (long_met c (arg_by_long c p.0) p.1 h).1
long_or_other-is_none c waiting word None h = short_or_plain-is_none c waiting word (short_of word) h

chosen-is_none : (b : Bool) (x y : Held × Step) → IsNoSubcommand x.1 → IsNoSubcommand y.1 → IsNoSubcommand (cond b x y).1
chosen-is_none true x y p q = p
chosen-is_none false x y p q = q

-- ---- a turn

to_positional-elsewhere : (c : List Rule) (a : Option Rule) (word : Text) (w : Walk) (h : Held) → StoppedElsewhere w.stopped → StoppedElsewhere (to_positional c a word w h).stopped
to_positional-elsewhere c None word w h e = e
to_positional-elsewhere c (Some a) word w h e = tt

after_step-elsewhere : (c : List Rule) (word : Text) (w : Walk) (h : Held) (s : Step) → IsNoSubcommand s → StoppedElsewhere w.stopped
    → StoppedElsewhere (after_step c word w h s).stopped
after_step-elsewhere c word w h (next waiting) n e = e
after_step-elsewhere c word w h (trailing position) n e = e
after_step-elsewhere c word w h (subcommand name) n e = absurd n
after_step-elsewhere c word w h value n e = to_positional-elsewhere c (arg_by_index c w.position) word w h e

-- help is refused, so what is met and passes is something else
help_is_fault : (a b : Bool) (ks : Kinds) → b ≡ false → cond (a && not b) ks [] ≡ [] → (ks ≡ [] → ⊥) → a ≡ false
help_is_fault true b ks enabled e some = absurd (some (ap (λ v. cond (true && not v) ks []) (sym enabled) ∙ e))
help_is_fault false b ks enabled e some = refl

-- a word that is read where nothing trails
word-elsewhere : (s : Shape) (w : Walk) (word : Text) (met : Option Text) → s.disable_help_subcommand ≡ false → StoppedElsewhere w.stopped
    → other_fault s met word w.held ≡ []
    → StoppedElsewhere (after_step s.rules word w (subcommand_or_other s.rules met w.waiting w.position word w.held).0 (subcommand_or_other s.rules met w.waiting w.position word w.held).1).stopped
word-elsewhere s w word (Some name) enabled e none = help_is_fault (bytes_eq name (codes "help")) s.disable_help_subcommand _ enabled none (λ bad. cc)
word-elsewhere s w word None enabled e none =
    let x = subcommand_or_other s.rules None w.waiting w.position word w.held in
    let long = chosen-is_none (bytes_eq word (45 ∷ 45 ∷ [])) (w.held, trailing w.position) (long_or_other s.rules w.waiting word (long_of word) w.held) tt
    (long_or_other-is_none s.rules w.waiting word (long_of word) w.held) in
    after_step-elsewhere s.rules word w x.0 x.1 long e

-- the word's fault, where the walk has not stopped before
turn_none : (s : Shape) (names : Names) (w : Walk) (word : Text) → w.stopped ≡ None → turn_fault s names w word ≡ [] → word_fault s names w.is_trailing w.waiting word w.held ≡ []
turn_none s names w word is e =
    or_else-first _ _ (ap (λ (v : Option (Text × List Text)). cond (is_some v) [] (turn s names w word)) (sym is) ∙ e)
  where
    turn : Shape → Names → Walk → Text → Kinds
    turn s names w word = or_else (word_fault s names w.is_trailing w.waiting word w.held)
        (step_fault s w.position (word_met s.rules names w.is_trailing w.waiting w.position word w.held).0 (word_met s.rules names w.is_trailing w.waiting w.position word w.held).1)

-- a word that goes by whether anything trails
met-elsewhere : (s : Shape) (names : Names) (w : Walk) (word : Text) (b : Bool) → s.disable_help_subcommand ≡ false → StoppedElsewhere w.stopped
    → cond b [] (other_fault s (subcommand_met names w.waiting word) word w.held) ≡ []
    → StoppedElsewhere (after_step s.rules word w
    (cond b (w.held, value) (subcommand_or_other s.rules (subcommand_met names w.waiting word) w.waiting w.position word w.held)).0
    (cond b (w.held, value) (subcommand_or_other s.rules (subcommand_met names w.waiting word) w.waiting w.position word w.held)).1).stopped
met-elsewhere s names w word true enabled e none = to_positional-elsewhere s.rules (arg_by_index s.rules w.position) word w w.held e
met-elsewhere s names w word false enabled e none = word-elsewhere s w word (subcommand_met names w.waiting word) enabled e none

walked_from-elsewhere : (s : Shape) (names : Names) (w : Walk) (word : Text) (stop : Option (Text × List Text)) → w.stopped ≡ stop → s.disable_help_subcommand ≡ false
    → StoppedElsewhere w.stopped → turn_fault s names w word ≡ [] → StoppedElsewhere (walked_from s.rules names stop w word).stopped
walked_from-elsewhere s names w word (Some p) is enabled e none = subst StoppedElsewhere is e
walked_from-elsewhere s names w word None is enabled e none = met-elsewhere s names w word w.is_trailing enabled e (turn_none s names w word is none)

-- ---- the walk

walk-elsewhere : (s : Shape) (names : Names) (w : Walk) (words : List Text) → s.disable_help_subcommand ≡ false → StoppedElsewhere w.stopped
    → walk_fault s names w words ≡ [] → StoppedElsewhere (fold (walked s.rules names) w words).stopped
unfolding walked walk_fault
walk-elsewhere s names w [] enabled e none = e
walk-elsewhere s names w (word ∷ rest) enabled e none =
    walk-elsewhere s names (walked s.rules names w word) rest enabled
    (walked_from-elsewhere s names w word w.stopped refl enabled e (or_else-first _ _ none)) (or_else-second _ _ none)

-- ---- the subcommand

subcommand_is_there : (rows : List Row) (b : Bool) → check_fault (built mqjudge).top rows b ≡ [] → b ≡ true
subcommand_is_there rows true e = refl
subcommand_is_there rows false e = cc

is_symmetric : (xs ys : List ℕ) → bytes_eq xs ys ≡ false → bytes_eq ys xs ≡ false
is_symmetric xs ys e = false_from_ne_true _ (λ same. true≢false (sym ((bytes_eq-Decides xs ys).1 (sym ((bytes_eq-Decides ys xs).0 same))) ∙ e))

-- of `check`, `show`, `packet`, `rules`, `explain`, `convert` and `help`, the one that was entered
the_first : {X Y : Type 0} (g : X → Y) (b c d e f h k : Bool) (u v w x y z t : X) → k ≡ false
    → is_some (option_map g (cond b (Some u) (cond c (Some v) (cond d (Some w) (cond e (Some x) (cond f (Some y) (cond h (Some z) (cond k (Some t) None)))))))) ≡ true
    → (option_map g (cond b (Some u) (cond c (Some v) (cond d (Some w) (cond e (Some x) (cond f (Some y) (cond h (Some z) (cond k (Some t) None))))))) ≡ Some (g u))
    ⊎ ((option_map g (cond b (Some u) (cond c (Some v) (cond d (Some w) (cond e (Some x) (cond f (Some y) (cond h (Some z) (cond k (Some t) None))))))) ≡ Some (g v))
    ⊎ ((option_map g (cond b (Some u) (cond c (Some v) (cond d (Some w) (cond e (Some x) (cond f (Some y) (cond h (Some z) (cond k (Some t) None))))))) ≡ Some (g w))
    ⊎ ((option_map g (cond b (Some u) (cond c (Some v) (cond d (Some w) (cond e (Some x) (cond f (Some y) (cond h (Some z) (cond k (Some t) None))))))) ≡ Some (g x))
    ⊎ ((option_map g (cond b (Some u) (cond c (Some v) (cond d (Some w) (cond e (Some x) (cond f (Some y) (cond h (Some z) (cond k (Some t) None))))))) ≡ Some (g y))
    ⊎ (option_map g (cond b (Some u) (cond c (Some v) (cond d (Some w) (cond e (Some x) (cond f (Some y) (cond h (Some z) (cond k (Some t) None))))))) ≡ Some (g z))))))
the_first g true c d e f h k u v w x y z t other some = inl refl
the_first g false true d e f h k u v w x y z t other some = inr (inl refl)
the_first g false false true e f h k u v w x y z t other some = inr (inr (inl refl))
the_first g false false false true f h k u v w x y z t other some = inr (inr (inr (inl refl)))
the_first g false false false false true h k u v w x y z t other some = inr (inr (inr (inr (inl refl))))
the_first g false false false false false true k u v w x y z t other some = inr (inr (inr (inr (inr refl))))
the_first g false false false false false false true u v w x y z t other some = absurd (true≢false other)
the_first g false false false false false false false u v w x y z t other some = absurd (true≢false (sym some))

-- a subcommand that asks for something was met
abbrev NamesTask : Option (Text × List Row) → Type 0
NamesTask met = ((rows : List Row) × (met ≡ Some (codes "check", rows)))
    ⊎ (((rows : List Row) × (met ≡ Some (codes "show", rows)))
    ⊎ (((rows : List Row) × (met ≡ Some (codes "packet", rows)))
    ⊎ (((rows : List Row) × (met ≡ Some (codes "rules", rows)))
    ⊎ (((rows : List Row) × (met ≡ Some (codes "explain", rows)))
    ⊎ ((rows : List Row) × (met ≡ Some (codes "convert", rows)))))))

entered_names : (stop : Option (Text × List Text)) → StoppedElsewhere stop → is_some (entered (built mqjudge) stop) ≡ true
    → NamesTask (entered (built mqjudge) stop)
entered_names None e some = absurd (true≢false (sym some))
entered_names (Some p) e some =
    let other : answers_to p.0 (codes "help", []) ≡ false = ap (λ (b : Bool). b || false) (is_symmetric p.0 (codes "help") e) in
    elim (the_first (λ s. rows_at s p.1) (answers_to p.0 (codes "check", [])) (answers_to p.0 (codes "show", [])) (answers_to p.0 (codes "packet", []))
    (answers_to p.0 (codes "rules", [])) (answers_to p.0 (codes "explain", [])) (answers_to p.0 (codes "convert", []))
    (answers_to p.0 (codes "help", [])) _ _ _ _ _ _ _ other some) [
      | inl h ↦ inl (_, h)
      | inr (inl h) ↦ inr (inl (_, h))
      | inr (inr (inl h)) ↦ inr (inr (inl (_, h)))
      | inr (inr (inr (inl h))) ↦ inr (inr (inr (inl (_, h))))
      | inr (inr (inr (inr (inl h)))) ↦ inr (inr (inr (inr (inl (_, h)))))
      | inr (inr (inr (inr (inr h)))) ↦ inr (inr (inr (inr (inr (_, h)))))
    ]

-- words in which the definition finds no fault name a subcommand that asks for something
subcommand_is_met : (words : List Text) → word_faults words ≡ [] → NamesTask (subcommand_of mqjudge words)
subcommand_is_met words none =
    let a = built mqjudge in
    let arguments = argument_words mqjudge words in
    let end = walk a.top.rules (names_of a) nothing_held arguments in
    let step_1 : walk_fault a.top (names_of a) (walk_from nothing_held) arguments ≡ [] = or_else-first _ _ none in
    let step_2 = or_else-second (walk_fault a.top (names_of a) (walk_from nothing_held) arguments) _ none in
    let step_3 = or_else-second (entered_fault a end.stopped) _ step_2 in
    let step_4 = or_else-second (settle_fault a.top.rules a.top.args_override_self end.held) _ step_3 in
    let step_5 : check_fault a.top (finished a.top.rules end.held) (is_some (entered a end.stopped)) ≡ [] =
    or_else-second (defaults_fault (settled a.top.rules end.held).rows a.top.rules) _ step_4 in
    let elsewhere = walk-elsewhere a.top (names_of a) (walk_from nothing_held) arguments refl tt step_1 in
    entered_names end.stopped elsewhere (subcommand_is_there (finished a.top.rules end.held) (is_some (entered a end.stopped)) step_5)

-- ---- the matches

name_met : {Z : Type 0} (o : Option (Box SubCommand Z)) → option_map (λ p. p.0) (subcommand_rows o) ≡ option_map (λ b. (out-SubCommand (box_value b)).name.now) o
name_met None = refl
name_met (Some b) = refl

-- matches of such words are those of one of these subcommands
pub subcommand_is_named : (words : List Text) (m : ArgMatches) → word_faults words ≡ [] → subcommand_rows_of m ≡ subcommand_of mqjudge words
    → (subcommand_name_of m ≡ Some (codes "check"))
    ⊎ ((subcommand_name_of m ≡ Some (codes "show"))
    ⊎ ((subcommand_name_of m ≡ Some (codes "packet"))
    ⊎ ((subcommand_name_of m ≡ Some (codes "rules"))
    ⊎ ((subcommand_name_of m ≡ Some (codes "explain"))
    ⊎ (subcommand_name_of m ≡ Some (codes "convert"))))))
subcommand_is_named words m none same =
    let named = sym (name_met (out-ArgMatches m).subcommand) ∙ ap (option_map (λ (p : Text × List Row). p.0)) same in
    elim (subcommand_is_met words none) [
      | inl h ↦ inl (named ∙ ap (option_map (λ (p : Text × List Row). p.0)) h.1)
      | inr (inl h) ↦ inr (inl (named ∙ ap (option_map (λ (p : Text × List Row). p.0)) h.1))
      | inr (inr (inl h)) ↦ inr (inr (inl (named ∙ ap (option_map (λ (p : Text × List Row). p.0)) h.1)))
      | inr (inr (inr (inl h))) ↦ inr (inr (inr (inl (named ∙ ap (option_map (λ (p : Text × List Row). p.0)) h.1))))
      | inr (inr (inr (inr (inl h)))) ↦ inr (inr (inr (inr (inl (named ∙ ap (option_map (λ (p : Text × List Row). p.0)) h.1)))))
      | inr (inr (inr (inr (inr h)))) ↦ inr (inr (inr (inr (inr (named ∙ ap (option_map (λ (p : Text × List Row). p.0)) h.1)))))
    ]

-- a name and rows are what was met
both_met : (met : Option (Text × List Row)) (name : Text) (rows : List Row) → option_map (λ p. p.0) met ≡ Some name → option_map (λ p. p.1) met ≡ Some rows → met ≡ Some (name, rows)
both_met None name rows e h = cc
both_met (Some p) name rows e h =
    let names : p.0 ≡ name = ap (λ (o : Option Text). unwrap_or o name) e in
    let same : p.1 ≡ rows = ap (λ (o : Option (List Row)). unwrap_or o rows) h in
    ap₂ (λ (a : Text) (b : List Row). Some (a, b)) names same

-- and have what that subcommand was given
met_by : (words : List Text) (m sub : ArgMatches) (name : Text) → subcommand_rows_of m ≡ subcommand_of mqjudge words → subcommand_name_of m ≡ Some name
    → option_map (λ p. p.1) (subcommand_rows_of m) ≡ Some (rows_of (found_of sub)) → subcommand_of mqjudge words ≡ Some (name, rows_of (found_of sub))
met_by words m sub name same named rows =
    sym same ∙ both_met (subcommand_rows_of m) name (rows_of (found_of sub)) (name_met (out-ArgMatches m).subcommand ∙ named) rows

-- the form that the flags' values ask for
pub form_with_json : (check : ArgMatches) → is_true (first_value (found_of check) (codes "json")) ≡ true → forms.Json ≡ form_in (rows_of (found_of check))
form_with_json check j = rw (sym (first_value-rows (found_of check) (codes "json")), j) refl

pub form_with_summary : (check : ArgMatches) → is_true (first_value (found_of check) (codes "json")) ≡ false → is_true (first_value (found_of check) (codes "summary")) ≡ true
    → forms.Summary ≡ form_in (rows_of (found_of check))
form_with_summary check j s = rw (sym (first_value-rows (found_of check) (codes "json")), j, sym (first_value-rows (found_of check) (codes "summary")), s) refl

pub form_with_neither : (check : ArgMatches) → is_true (first_value (found_of check) (codes "json")) ≡ false → is_true (first_value (found_of check) (codes "summary")) ≡ false
    → forms.Text ≡ form_in (rows_of (found_of check))
form_with_neither check j s = rw (sym (first_value-rows (found_of check) (codes "json")), j, sym (first_value-rows (found_of check) (codes "summary")), s) refl

-- the statements that the flags' values ask for
pub scope_with_times : (found : ArgMatches) → is_true (first_value (found_of found) (codes "times")) ≡ true → scopes.Timed ≡ scope_in (rows_of (found_of found))
scope_with_times found t = rw (sym (first_value-rows (found_of found) (codes "times")), t) refl

pub scope_with_all : (found : ArgMatches) → is_true (first_value (found_of found) (codes "times")) ≡ false → is_true (first_value (found_of found) (codes "all")) ≡ true
    → scopes.All ≡ scope_in (rows_of (found_of found))
scope_with_all found t a = rw (sym (first_value-rows (found_of found) (codes "times")), t, sym (first_value-rows (found_of found) (codes "all")), a) refl

pub scope_with_neither : (found : ArgMatches) → is_true (first_value (found_of found) (codes "times")) ≡ false → is_true (first_value (found_of found) (codes "all")) ≡ false
    → scopes.Usual ≡ scope_in (rows_of (found_of found))
scope_with_neither found t a = rw (sym (first_value-rows (found_of found) (codes "times")), t, sym (first_value-rows (found_of found) (codes "all")), a) refl

pub same_check : {file file' : Option Text} {form form' : Form} {coverage coverage' why why' : Bool} {scope scope' : Scope} {list list' : Option Text} → file ≡ file' → form ≡ form' → coverage ≡ coverage'
    → why ≡ why' → scope ≡ scope' → list ≡ list' → Some (check_request file form coverage why scope list) ≡ Some (check_request file' form' coverage' why' scope' list')
same_check {file} {file'} {form} {form'} {coverage} {coverage'} {why} {why'} {scope} {scope'} {list} {list'} f r v w m l =
    ap (λ (x : Option Text). Some (check_request x form coverage why scope list)) f
    ∙ ap (λ (x : Form). Some (check_request file' x coverage why scope list)) r ∙ ap (λ (x : Bool). Some (check_request file' form' x why scope list)) v
    ∙ ap (λ (x : Bool). Some (check_request file' form' coverage' x scope list)) w ∙ ap (λ (x : Scope). Some (check_request file' form' coverage' why' x list)) m
    ∙ ap (λ (x : Option Text). Some (check_request file' form' coverage' why' scope' x)) l

pub same_show : {file file' : Option Text} {long long' faults faults' : Bool} {around around' : Option Text} {scope scope' : Scope} → file ≡ file' → long ≡ long'
    → faults ≡ faults' → around ≡ around' → scope ≡ scope'
    → Some (show_request file long faults around scope) ≡ Some (show_request file' long' faults' around' scope')
same_show {file} {file'} {long} {long'} {faults} {faults'} {around} {around'} {scope} {scope'} f l a n m =
    ap (λ (x : Option Text). Some (show_request x long faults around scope)) f
    ∙ ap (λ (x : Bool). Some (show_request file' x faults around scope)) l ∙ ap (λ (x : Bool). Some (show_request file' long' x around scope)) a
    ∙ ap (λ (x : Option Text). Some (show_request file' long' faults' x scope)) n ∙ ap (λ (x : Scope). Some (show_request file' long' faults' around' x)) m

pub same_rules : {role role' : Option Text} {scope scope' : Scope} {list list' : Option Text} → role ≡ role' → scope ≡ scope' → list ≡ list'
    → Some (rules_request role scope list) ≡ Some (rules_request role' scope' list')
same_rules {role} {role'} {scope} {scope'} {list} {list'} r m l =
    ap (λ (x : Option Text). Some (rules_request x scope list)) r ∙ ap (λ (x : Scope). Some (rules_request role' x list)) m ∙ ap (λ (x : Option Text). Some (rules_request role' scope' x)) l

pub request_is_check : (words : List Text) (m check : ArgMatches) → subcommand_rows_of m ≡ subcommand_of mqjudge words → subcommand_name_of m ≡ Some (codes "check")
    → option_map (λ p. p.1) (subcommand_rows_of m) ≡ Some (rows_of (found_of check)) → request_of words ≡ Some (check_request (first_value (found_of check) (codes "FILE"))
    (form_in (rows_of (found_of check))) (is_true (first_value (found_of check) (codes "coverage"))) (is_true (first_value (found_of check) (codes "why")))
    (scope_in (rows_of (found_of check))) (first_value (found_of check) (codes "LIST")))
request_is_check words m check same named rows =
    ap (option_map request_in) (met_by words m check (codes "check") same named rows)
    ∙ same_check (sym (first_value-rows (found_of check) (codes "FILE"))) refl (ap is_true (sym (first_value-rows (found_of check) (codes "coverage"))))
    (ap is_true (sym (first_value-rows (found_of check) (codes "why")))) refl
    (sym (first_value-rows (found_of check) (codes "LIST")))

pub request_is_show : (words : List Text) (m shown : ArgMatches) → subcommand_rows_of m ≡ subcommand_of mqjudge words → subcommand_name_of m ≡ Some (codes "show")
    → option_map (λ p. p.1) (subcommand_rows_of m) ≡ Some (rows_of (found_of shown)) → request_of words ≡ Some (show_request (first_value (found_of shown) (codes "FILE"))
    (is_true (first_value (found_of shown) (codes "long"))) (is_true (first_value (found_of shown) (codes "faults"))) (first_value (found_of shown) (codes "N"))
    (scope_in (rows_of (found_of shown))))
request_is_show words m shown same named rows =
    ap (option_map request_in) (met_by words m shown (codes "show") same named rows)
    ∙ same_show (sym (first_value-rows (found_of shown) (codes "FILE"))) (ap is_true (sym (first_value-rows (found_of shown) (codes "long"))))
    (ap is_true (sym (first_value-rows (found_of shown) (codes "faults")))) (sym (first_value-rows (found_of shown) (codes "N")))
    refl

pub same_packet : {words words' : Option (List Text)} {long long' : Bool} → words ≡ words' → long ≡ long' → Some (packet_request words long) ≡ Some (packet_request words' long')
same_packet {words} {words'} {long} {long'} w l = ap (λ (x : Option (List Text)). Some (packet_request x long)) w ∙ ap (λ (x : Bool). Some (packet_request words' x)) l

pub request_is_packet : (words : List Text) (m packet : ArgMatches) → subcommand_rows_of m ≡ subcommand_of mqjudge words → subcommand_name_of m ≡ Some (codes "packet")
    → option_map (λ p. p.1) (subcommand_rows_of m) ≡ Some (rows_of (found_of packet)) → request_of words ≡ Some (packet_request (option_map raw_values (matched_of (found_of packet) (codes "HEX")))
    (is_true (first_value (found_of packet) (codes "long"))))
request_is_packet words m packet same named rows =
    ap (option_map request_in) (met_by words m packet (codes "packet") same named rows)
    ∙ same_packet (sym (raw_values-rows (found_of packet) (codes "HEX"))) (ap is_true (sym (first_value-rows (found_of packet) (codes "long"))))

pub request_is_rules : (words : List Text) (m listed : ArgMatches) → subcommand_rows_of m ≡ subcommand_of mqjudge words → subcommand_name_of m ≡ Some (codes "rules")
    → option_map (λ p. p.1) (subcommand_rows_of m) ≡ Some (rows_of (found_of listed)) → request_of words ≡ Some (rules_request (first_value (found_of listed) (codes "role"))
    (scope_in (rows_of (found_of listed))) (first_value (found_of listed) (codes "LIST")))
request_is_rules words m listed same named rows =
    ap (option_map request_in) (met_by words m listed (codes "rules") same named rows)
    ∙ same_rules (sym (first_value-rows (found_of listed) (codes "role"))) refl
    (sym (first_value-rows (found_of listed) (codes "LIST")))

pub request_is_explain : (words : List Text) (m explained : ArgMatches) → subcommand_rows_of m ≡ subcommand_of mqjudge words → subcommand_name_of m ≡ Some (codes "explain")
    → option_map (λ p. p.1) (subcommand_rows_of m) ≡ Some (rows_of (found_of explained)) → request_of words ≡ Some (explain_request (first_value (found_of explained) (codes "CODE")))
request_is_explain words m explained same named rows =
    ap (option_map request_in) (met_by words m explained (codes "explain") same named rows)
    ∙ ap (λ (f : Option Text). Some (explain_request f)) (sym (first_value-rows (found_of explained) (codes "CODE")))

pub same_convert : {log log' made made' : Option Text} {force force' : Bool} → log ≡ log' → made ≡ made' → force ≡ force'
    → Some (convert_request log made force) ≡ Some (convert_request log' made' force')
same_convert {log} {log'} {made} {made'} {force} {force'} l m f =
    ap (λ (x : Option Text). Some (convert_request x made force)) l ∙ ap (λ (x : Option Text). Some (convert_request log' x force)) m
    ∙ ap (λ (x : Bool). Some (convert_request log' made' x)) f

pub request_is_convert : (words : List Text) (m converted : ArgMatches) → subcommand_rows_of m ≡ subcommand_of mqjudge words → subcommand_name_of m ≡ Some (codes "convert")
    → option_map (λ p. p.1) (subcommand_rows_of m) ≡ Some (rows_of (found_of converted))
    → request_of words ≡ Some (convert_request (first_value (found_of converted) (codes "IN")) (first_value (found_of converted) (codes "OUT"))
    (is_true (first_value (found_of converted) (codes "force"))))
request_is_convert words m converted same named rows =
    ap (option_map request_in) (met_by words m converted (codes "convert") same named rows)
    ∙ same_convert (sym (first_value-rows (found_of converted) (codes "IN"))) (sym (first_value-rows (found_of converted) (codes "OUT")))
    (ap is_true (sym (first_value-rows (found_of converted) (codes "force"))))

-- ---- kinds of error

among : (P : ErrorKind → Type 0) (kinds : Kinds) (kind : ErrorKind) → IsAmong kind kinds → P kind → Any P kinds
among P [] kind in_list p = absurd in_list
among P (x ∷ xs) kind (inl e) p = (0, x, omega arith, refl, subst P e p)
among P (x ∷ xs) kind (inr rest) p = Any-cons (among P xs kind rest p)
  where
    Any-cons : Any P xs → Any P (x ∷ xs)
    Any-cons h = (suc h.0, h.1, omega (arith, h.2), h.3, h.4)

-- what to tell the caller, where the error's text may not be had for want of memory
pub StopsFor-shown : {E : Type 0} (error : Error) (stop : EarlyExit) (text : Result _ E) → IsHelpOrVersion (kind_of error)
    → MatchResult text (λ t. stop ≡ Help t) (λ _. stop ≡ Memory) → (kinds : Kinds) → HasKind kinds error → StopsFor kinds stop
StopsFor-shown error stop (Err e) shown is kinds h = subst (StopsFor kinds) (sym is) tt
StopsFor-shown error stop (Ok t) (inl shown) is kinds (inl h) = cc
StopsFor-shown error stop (Ok t) (inr shown) is kinds (inl h) = cc
StopsFor-shown error stop (Ok t) shown is kinds (inr h) = subst (StopsFor kinds) (sym is) (among IsHelpOrVersion kinds (kind_of error) h shown)

pub StopsFor-misused : {E : Type 0} (error : Error) (stop : EarlyExit) (text : Result _ E) → ¬ IsHelpOrVersion (kind_of error) → (kind_of error ≡ OutOfMemory → ⊥)
    → MatchResult text (λ t. stop ≡ Usage t) (λ _. stop ≡ Memory) → (kinds : Kinds) → HasKind kinds error → StopsFor kinds stop
StopsFor-misused error stop (Err e) misused not_memory is kinds h = subst (StopsFor kinds) (sym is) tt
StopsFor-misused error stop (Ok t) misused not_memory is kinds (inl h) = absurd (not_memory h)
StopsFor-misused error stop (Ok t) misused not_memory is kinds (inr h) = subst (StopsFor kinds) (sym is) (among (λ kind. ¬ IsHelpOrVersion kind) kinds (kind_of error) h misused)

-- what is taken has no fault
pub taken-faultless : {T : Type 0} (kinds : Kinds) (r : Result T Error) → FailsBy kinds r → IfOk r (λ _. kinds ≡ [])
taken-faultless kinds (Ok matches) h = h
taken-faultless kinds (Err error) h = tt

-- what is refused has one of the kinds
pub refused-kind : {T : Type 0} (kinds : Kinds) (r : Result T Error) → FailsBy kinds r → IfErr r (HasKind kinds)
refused-kind kinds (Ok matches) h = tt
refused-kind kinds (Err error) h = h

-- ---- how many values

-- a range that was made of `1..`
pub range_is_several : (range : Option ValueRange) → IsSomeAnd range (λ r. r ≡ several) → range ≡ Some several
range_is_several None h = absurd h
range_is_several (Some r) h = ap Some h
