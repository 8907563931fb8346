use Rattle.std.proofs.Common.{ap}
use Rattle.json.specs.Reads.{token_of}
use Rattle.plan_text.proofs.SpelledLaws.{null_spells}
use Rattle.plan_text.proofs.tokens.OptionFromTokens.from_tokens.Goals as goal

pub returns-in-Null : goal.returns-in-Null
returns-in-Null g c = null_spells _ _ _ (ap token_of c.in-Null.is)
