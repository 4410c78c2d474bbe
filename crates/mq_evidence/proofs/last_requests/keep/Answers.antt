use Rattle.std.proofs.Common.{◌∷◌, [], ◌||◌, nat_le, sym, ap, subst, ◌∙◌}
use Rattle.std.specs.String.{string_bytes}
use Rattle.std.specs.Str.{bytes_eq}
use Rattle.std.specs.List.{list_any}
use Rattle.std.specs.Map.{lookup}
use Rattle.mq_filters.specs.Standings.{has_ceiling, allows, standings, AllFilters}
use Rattle.mq_filters.proofs.StandLaws.{put-any, has-any, put-all}
use Rattle.mq_evidence.proofs.last_requests.keep.Goals as goal

pub returns-then-is_known-clause-stands : goal.returns-then-is_known-clause-stands
returns-then-is_known-clause-stands c = λ among first. has-any among first c.args.last.now.entries c.args.filter.now c.args.position (sym c.is_known.ensures ∙ c.if-is_known.true)

pub returns-clause-stands : goal.returns-clause-stands
returns-clause-stands c = λ among first.
    ap (λ es. list_any (allows among first) (standings es)) c.in_ok-insert.ensures.entries
    ∙ put-any among first c.args.last.now.entries c.in_ok-copy.copy c.args.position
    (ap (λ f. has_ceiling (nat_le c.args.position) (lookup (λ k. bytes_eq f (string_bytes k)) c.args.last.now.entries)) c.in_ok-copy.ensures ∙ sym c.is_known.ensures ∙ c.if-is_known.false)
    ∙ ap (λ f. list_any (allows among first) (standings c.args.last.now.entries) || list_any (allows among first) (record { filter = f; ceiling = c.args.position } ∷ [])) c.in_ok-copy.ensures

pub returns-clause-all : goal.returns-clause-all
returns-clause-all c = λ test passes all.
    subst (λ es. AllFilters test es) (sym c.in_ok-insert.ensures.entries)
    (put-all test c.args.last.now.entries c.in_ok-copy.copy c.args.position (ap test c.in_ok-copy.ensures ∙ passes) all)
