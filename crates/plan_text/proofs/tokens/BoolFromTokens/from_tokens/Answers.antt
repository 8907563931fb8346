use Rattle.std.proofs.Common.{ap}
use Rattle.json.specs.Reads.{token_of}
use Rattle.plan_text.proofs.SpelledLaws.{truth_spells}
use Rattle.plan_text.proofs.tokens.BoolFromTokens.from_tokens.Goals as goal

pub returns-in-Bool : goal.returns-in-Bool
returns-in-Bool c = truth_spells 0 _ _ _ (ap token_of c.in-Bool.is)
