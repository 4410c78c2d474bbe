use Rattle.std.proofs.Common.{◌∷◌, [], ◌||◌, nat_le, sym, ap, subst, ◌∙◌}
use Rattle.std.specs.String.{string_bytes}
use Rattle.std.specs.Str.{bytes_eq}
use Rattle.std.specs.List.{list_any}
use Rattle.std.specs.Map.{lookup}
use Rattle.mq_filters.specs.Standings.{has_ceiling, allows, standings, AllFilters}
use Rattle.mq_filters.proofs.StandLaws.{put-any, has-any, put-all}
use Rattle.mq_filters.proofs.stands.raise.Goals as goal

pub returns-then-stands-clause-stands : goal.returns-then-stands-clause-stands
returns-then-stands-clause-stands c = λ among qos. has-any among qos c.args.standing.now.entries c.args.filter.now c.args.ceiling (sym c.stands.ensures ∙ c.if-stands.true)

pub returns-clause-stands : goal.returns-clause-stands
returns-clause-stands c = λ among qos.
    ap (λ es. list_any (allows among qos) (standings es)) c.in_ok-insert.ensures.entries
    ∙ put-any among qos c.args.standing.now.entries c.in_ok-copy.copy c.args.ceiling
    (ap (λ f. has_ceiling (nat_le c.args.ceiling) (lookup (λ k. bytes_eq f (string_bytes k)) c.args.standing.now.entries)) c.in_ok-copy.ensures ∙ sym c.stands.ensures ∙ c.if-stands.false)
    ∙ ap (λ f. list_any (allows among qos) (standings c.args.standing.now.entries) || list_any (allows among qos) (record { filter = f; ceiling = c.args.ceiling } ∷ [])) c.in_ok-copy.ensures

pub returns-clause-all : goal.returns-clause-all
returns-clause-all c = λ test passes all.
    subst (λ es. AllFilters test es) (sym c.in_ok-insert.ensures.entries)
    (put-all test c.args.standing.now.entries c.in_ok-copy.copy c.args.ceiling (ap test c.in_ok-copy.ensures ∙ passes) all)
