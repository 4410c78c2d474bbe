use Rattle.std.proofs.Common.{◌&&◌, sym, ap, ◌∙◌, rules}
use Rattle.mq_topic.specs.Levels.{levels_of}
use Rattle.mq_topic.specs.Matching.{levels_match, is_hash}
use Rattle.mq_topic.proofs.MatchingLaws.{cut_by, uncut_by, match-cut, match-parent, match-last}
use Rattle.mq_topic.proofs.matching.all_levels_match.Goals as goal

pub returns-then-level_matches : goal.returns-then-level_matches
returns-then-level_matches c =
    let cut = cut_by c.loop-level.filters.now c.in-Some.level c.in-Some.next_filters c.in-Some.ensures.cases in
    let uncut = uncut_by c.loop-level.names.now (rw c.in_default-split_once.is at c.split_once-in-Some.ensures.cases) in
    let level = sym c.level_matches.ensures ∙ c.if-level_matches.true in
    c.eq.ensures ∙ sym (sym c.loop-level.invariant.0 ∙ (match-parent _ _ _ _ cut uncut ∙ ap (λ b. b && is_hash c.in-Some.next_filters.now) level))

pub returns-else-level_matches : goal.returns-else-level_matches
returns-else-level_matches c =
    let cut = cut_by c.loop-level.filters.now c.in-Some.level c.in-Some.next_filters c.in-Some.ensures.cases in
    let uncut = uncut_by c.loop-level.names.now (rw c.in_default-split_once.is at c.split_once-in-Some.ensures.cases) in
    let level = sym c.level_matches.ensures ∙ c.if-level_matches.false in
    c.if-level_matches.false ∙ sym (sym c.loop-level.invariant.0 ∙ (match-parent _ _ _ _ cut uncut ∙ ap (λ b. b && is_hash c.in-Some.next_filters.now) level))

pub returns-then-not-level_matches : goal.returns-then-not-level_matches
returns-then-not-level_matches c =
    let cut = cut_by c.loop-level.filters.now c.in-Some.level c.in-Some.next_filters c.in-Some.ensures.cases in
    let name_cut = cut_by c.loop-level.names.now c.in-Some-split_once.name_level c.in-Some-split_once.next_names c.in-Some-split_once.ensures.cases in
    let level = sym c.level_matches-in-Some.ensures ∙ c.if-not-level_matches.true in
    sym (sym c.loop-level.invariant.0 ∙ (match-cut _ _ _ _ _ _ cut name_cut ∙ ap (λ b. b && levels_match (levels_of c.in-Some.next_filters.now) (levels_of c.in-Some-split_once.next_names.now)) level))

pub loop-level-preserved : goal.loop-level-preserved
loop-level-preserved c =
    let cut = cut_by c.loop-level.filters.now c.in-Some.level c.in-Some.next_filters c.in-Some.ensures.cases in
    let name_cut = cut_by c.loop-level.names.now c.in-Some-split_once.name_level c.in-Some-split_once.next_names c.in-Some-split_once.ensures.cases in
    let level = sym c.level_matches-in-Some.ensures ∙ c.if-not-level_matches.false in
    (sym (match-cut _ _ _ _ _ _ cut name_cut ∙ ap (λ b. b && levels_match (levels_of c.in-Some.next_filters.now) (levels_of c.in-Some-split_once.next_names.now)) level) ∙ c.loop-level.invariant.0, search rules)

pub returns : goal.returns
returns c =
    let uncut = uncut_by c.loop-level.filters.now (rw c.in_default.is at c.split_once.ensures.cases) in
    c.last_level_matches.ensures ∙ (sym (match-last c.loop-level.filters.now c.loop-level.names.now uncut) ∙ c.loop-level.invariant.0)
