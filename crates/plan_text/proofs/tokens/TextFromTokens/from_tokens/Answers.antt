use Rattle.std.proofs.Common.{ap, sym, ◌∙◌}
use Rattle.json.specs.Token.{Token}
use Rattle.json.specs.Reads.{token_of}
use Rattle.plan_text.proofs.SpelledLaws.{text_spells}
use Rattle.plan_text.proofs.tokens.TextFromTokens.from_tokens.Goals as goal

pub returns-in_ok-from_str-in-String : goal.returns-in_ok-from_str-in-String
returns-in_ok-from_str-in-String c = text_spells 0 _ _ _ (ap token_of c.in-String.is ∙ ap Token.string (sym c.in_ok-from_str-in-String.ensures))
