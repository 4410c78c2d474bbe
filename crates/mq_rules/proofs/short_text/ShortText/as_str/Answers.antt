use Rattle.std.proofs.lemmas.Str.{IsUtf8-had}
use Rattle.mq_rules.proofs.short_text.ShortText.as_str.Goals as goal

pub text_in-requires : goal.text_in-requires
text_in-requires c = IsUtf8-had _ c.self.invariant.2
