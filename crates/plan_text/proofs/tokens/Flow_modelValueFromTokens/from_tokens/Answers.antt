use Rattle.std.proofs.Common.{◌∷◌, ap, subst, sym, ◌∙◌}
use Rattle.std.proofs.lemmas.Result.{IfOk-weaker}
use Rattle.json.specs.Reads.{token_of}
use Rattle.json.specs.Token.{Token}
use Rattle.plan_text.specs.Spelled.{Spells}
use Rattle.plan_text.proofs.SpelledLaws.{null_spells, truth_spells, text_spells, number_spells}
use Rattle.plan_text.proofs.tokens.Flow_modelValueFromTokens.from_tokens.Goals as goal

pub returns-in-Null : goal.returns-in-Null
returns-in-Null c =
    subst (λ d. Spells 100 (token_of c.args.first ∷ c.args.reader.now) d c.args.reader.now) (sym c.null_value.ensures) (null_spells 100 _ _ (ap token_of c.in-Null.is))

pub returns-in-Bool : goal.returns-in-Bool
returns-in-Bool c =
    subst (λ d. Spells 100 (token_of c.args.first ∷ c.args.reader.now) d c.args.reader.now) (sym c.truth_value.ensures) (truth_spells 100 _ _ _ (ap token_of c.in-Bool.is))

pub returns-in-Number : goal.returns-in-Number
returns-in-Number c = IfOk-weaker c.whole_value.result _ _ (λ v stands. number_spells 100 _ _ _ _ (ap token_of c.in-Number.is) stands) c.whole_value.ensures

pub returns-in_ok-from_str-in-String : goal.returns-in_ok-from_str-in-String
returns-in_ok-from_str-in-String c =
    subst (λ d. Spells 100 (token_of c.args.first ∷ c.args.reader.now) d c.args.reader.now) (sym c.text_value.ensures)
    (text_spells 100 _ _ _ (ap token_of c.in-String.is ∙ ap Token.string (sym c.in_ok-from_str-in-String.ensures)))
