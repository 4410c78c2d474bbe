-- The list of the statements: a line for each.
use Rattle.std.specs.Prelude.{ℕ, ◌==◌, Bool, true, ◌&&◌, List, [], ◌∷◌, ◌++◌, length, codes, Option, Some, None, option_map, if◌then◌else◌}
use Rattle.std.specs.List.{flat_map}
use Rattle.std.specs.Str.{bytes_eq}
use Rattle.mq_rules.specs.declared.role.Role.{Role}
use Rattle.mq_rules.specs.declared.role.Role.TheVariants.{Client, Server}
use Rattle.mq_rules.specs.declared.rule.Rule.{Rule}
use Rattle.mq_rules.specs.Rules.{all_rules, binds_end, code_of}
use Rattle.mq_rules.specs.Naming.{citation_of, sentence_of}

-- whom a statement binds, as a word
abbrev pub bound_ends : Rule → List ℕ
bound_ends rule = if binds_end rule Client then (if binds_end rule Server then codes "both" else codes "client") else codes "server"

-- both citations, the client's first, if both ends are bound and they differ; else the one that there is
abbrev pub both_citations : List ℕ → List ℕ → List ℕ
both_citations client server = if length client == 0 then server else (if length server == 0 then client
    else (if bytes_eq client server then client else client ++ codes ";" ++ server))

-- the citation of a statement for one end, or for those that it binds
abbrev pub citation_for : Option Role → Rule → List ℕ
citation_for None rule = both_citations (citation_of rule Client) (citation_of rule Server)
citation_for (Some role) rule = citation_of rule role

-- the line of a statement: its code, whom it binds, its citation, and what it says
abbrev pub statement_line : Option Role → Rule → List ℕ
statement_line role rule = code_of rule ++ codes " " ++ bound_ends rule ++ codes " " ++ citation_for role rule ++ codes " " ++ sentence_of rule ++ 10 ∷ []

-- the statement binds this end, or any if none is named
abbrev pub binds_for : Option Role → Rule → Bool
binds_for None rule = true
binds_for (Some role) rule = binds_end rule role

-- the statement is listed if it is chosen: for one end if it binds that end; always for both
abbrev pub lists_statement : (chosen : Rule → Bool) → Option Role → Rule → Bool
lists_statement chosen role rule = chosen rule && binds_for role rule

-- the line of a statement, empty if it isn't listed
abbrev pub listed_line : (chosen : Rule → Bool) → Option Role → Rule → List ℕ
listed_line chosen role rule = if lists_statement chosen role rule then statement_line role rule else []

-- the lines of the chosen statements, in the order of reports: of all, or of those that bind one end
unfoldable pub statement_lines : (chosen : Rule → Bool) → Option Role → List ℕ
statement_lines chosen role = flat_map (listed_line chosen role) all_rules

-- the end that a word names
abbrev pub role_named : List ℕ → Option Role
role_named word = if bytes_eq word (codes "client") then Some Client else (if bytes_eq word (codes "server") then Some Server else None)

-- the list for the word that names an end: all chosen statements without a word; none if the word isn't an end
abbrev pub listed_for : (chosen : Rule → Bool) → Option (List ℕ) → Option (List ℕ)
listed_for chosen None = Some (statement_lines chosen None)
listed_for chosen (Some word) = option_map (λ role. statement_lines chosen (Some role)) (role_named word)

-- the code of a statement, after a space
abbrev pub spaced_code : Rule → List ℕ
spaced_code rule = 32 ∷ code_of rule

-- the codes of all statements, in the order of reports, each after a space
unfoldable pub all_codes : List ℕ
all_codes = flat_map spaced_code all_rules
