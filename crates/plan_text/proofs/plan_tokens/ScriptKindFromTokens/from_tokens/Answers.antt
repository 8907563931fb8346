use Rattle.std.proofs.Common.{ap, bytes_eq, codes, sym, ◌∙◌}
use Rattle.json.specs.Reads.{token_of}
use Rattle.plan_text.proofs.SpelledLaws.{word_spells}
use Rattle.plan_text.proofs.plan_tokens.ScriptKindFromTokens.from_tokens.Goals as goal

pub returns-in-String : goal.returns-in-String
returns-in-String c = word_spells 0 _ _ (codes "run") _ (ap token_of c.in-String.is) (sym c.if-eq.true ∙ c.eq.ensures ∙ ap (λ t. bytes_eq t.now (codes "run")) c.in-String.text-is)
