use Rattle.std.proofs.Common.{ap, ◌∙◌}
use Rattle.json.specs.Token.{Token}
use Rattle.json.specs.Reads.{token_of}
use Rattle.plan_text.proofs.SpelledLaws.{text_spells}
use Rattle.plan_text.proofs.plan_tokens.ShellFromTokens.from_tokens.Goals as goal

pub returns-in-text : goal.returns-in-text
returns-in-text c = text_spells 0 _ _ _ (ap token_of c.in-String.is ∙ ap Token.string c.in-text.is)

pub returns-in-sh : goal.returns-in-sh
returns-in-sh c = text_spells 0 _ _ _ (ap token_of c.in-String.is ∙ ap Token.string c.in-sh.is)

pub returns-in-bash : goal.returns-in-bash
returns-in-bash c = text_spells 0 _ _ _ (ap token_of c.in-String.is ∙ ap Token.string c.in-bash.is)
