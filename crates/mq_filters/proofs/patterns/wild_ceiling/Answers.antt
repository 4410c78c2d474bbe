use Rattle.std.proofs.Common.{◌≡◌, ◌&&◌, nat_le, true, subst, ◌∙◌, Option, List, ℕ, Some, rules}
use Rattle.std.specs.List.{list_any}
use Rattle.std.specs.String.{string_bytes}
use Rattle.indexmap.specs.IndexMap.{get_by_text}
use Rattle.mq_topic.specs.Matching.{matches}
use Rattle.mq_filters.specs.Standings.{has_ceiling, AllFilters}
use Rattle.mq_filters.specs.Patterning.{pattern_of, fill, is_plain, knows}
use Rattle.mq_filters.proofs.PatternLaws.{patterns-any, none-there, ok-more}
use Rattle.mq_filters.proofs.patterns.wild_ceiling.Goals as goal

pub returns-then-is_empty : goal.returns-then-is_empty
returns-then-is_empty c = λ wild known apart qos. none-there (λ e. matches (string_bytes e.0) c.args.topic.now && nat_le qos e.1) c.args.wild.now.entries (search rules)

-- each filter is looked up by its pattern
pub returns-then-is_plain : goal.returns-then-is_plain
returns-then-is_plain c = λ wild known apart.
    let topic = c.args.topic.now in
    let es = c.args.wild.now.entries in
    let is : c.args.patterns.now ≡ Some c.in-Some.known.now = search rules in
    let each = subst (λ (o : Option (List ℕ)). AllFilters (λ f. knows o (pattern_of f)) es) is known in
    let plain : is_plain topic ≡ true = search rules in
    ok-more
    (λ ceiling. (qos : ℕ) → has_ceiling (nat_le qos) ceiling ≡ list_any (λ s. has_ceiling (nat_le qos) (get_by_text c.args.wild.now (fill s topic))) c.in-Some.known.now)
    (λ ceiling. (qos : ℕ) → has_ceiling (nat_le qos) ceiling ≡ list_any (λ e. matches (string_bytes e.0) topic && nat_le qos e.1) es)
    c.ceiling_by.result (λ ceiling by qos. by qos ∙ patterns-any topic (nat_le qos) c.in-Some.known.now es plain wild each apart) c.ceiling_by.ensures
