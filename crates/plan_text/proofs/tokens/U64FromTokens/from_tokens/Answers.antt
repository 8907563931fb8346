use Rattle.std.proofs.Common.{ap}
use Rattle.json.specs.Reads.{token_of}
use Rattle.plan_text.proofs.SpelledLaws.{number_spells}
use Rattle.plan_text.proofs.tokens.U64FromTokens.from_tokens.Goals as goal

pub returns-in-Some : goal.returns-in-Some
returns-in-Some c = number_spells 0 _ _ _ _ (ap token_of c.in-Number.is) c.in-Some.ensures.stands
