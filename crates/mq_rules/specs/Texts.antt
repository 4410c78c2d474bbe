-- Texts that notes own.
use Rattle.std.specs.Prelude.{ℕ, List, string_bytes}
use Rattle.mq_rules.specs.declared.text.Form.{Form}
use Rattle.mq_rules.specs.declared.text.Form.TheVariants.{Short, Long}

-- the bytes of a text, wherever they are in memory
abbrev pub form_bytes : Form → List ℕ
form_bytes (Short text) = text
form_bytes (Long text) = string_bytes text
