-- Texts that stay on their line.
use Rattle.std.specs.Prelude.{ℕ, Bool, nat_le, List}
use Rattle.std.specs.List.{list_all}

-- no byte of the text is below a space, so none ends its line
abbrev pub is_on_one_line : List ℕ → Bool
is_on_one_line text = list_all (λ byte. nat_le 32 byte) text
