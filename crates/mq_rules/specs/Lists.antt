-- Lists that notes own.
use Rattle.std.specs.Prelude.{◌<◌, ℕ, List, [], ◌∷◌, length, None, Some}
use Rattle.mq_rules.specs.declared.text.NotedFilter.{NotedFilter}
use Rattle.mq_rules.specs.declared.lists.FilterForm.{FilterForm}
use Rattle.mq_rules.specs.declared.lists.FilterForm.TheVariants as filters
use Rattle.mq_rules.specs.declared.lists.CodeForm.{CodeForm}
use Rattle.mq_rules.specs.declared.lists.CodeForm.TheVariants as codes
use Rattle.mq_rules.specs.declared.identifier_list.IdentifierForm.{IdentifierForm}
use Rattle.mq_rules.specs.declared.identifier_list.IdentifierForm.TheVariants as identifiers

-- the filters, the Reason Codes, and the Subscription Identifiers, of a list
abbrev pub form_filters : FilterForm → List NotedFilter
form_filters (filters.One filter) = filter ∷ []
form_filters (filters.Many all) = all.items

abbrev pub form_codes : CodeForm → List ℕ
form_codes (codes.One code) = code ∷ []
form_codes (codes.Many all) = all.items

abbrev pub form_identifiers : IdentifierForm → List ℕ
form_identifiers (identifiers.Few None) = []
form_identifiers (identifiers.Few (Some identifier)) = identifier ∷ []
form_identifiers (identifiers.Many all) = all.items

-- identifiers that take memory of their own are some
abbrev pub AreFewOrSome : IdentifierForm → Type 0
AreFewOrSome (identifiers.Few one) = Unit {0}
AreFewOrSome (identifiers.Many all) = 0 < length all.items
