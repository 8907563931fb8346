use Rattle.std.proofs.Common.{◌∙◌, ap, sym}
use Rattle.std.proofs.lemmas.Str.Pattern.{contains_text, starts_text, ends_text}
use Rattle.expr_value.specs.Searching.{stands_at}
use Rattle.expr_value.proofs.Searches.{stands_exact}
use Rattle.expr_value.proofs.search.stands_at.Goals as goal

pub returns-in-Anywhere : goal.returns-in-Anywhere
returns-in-Anywhere c =
    stands_exact c.contains.result c.args.part.now c.args.text.now (contains_text c.contains.result c.args.part.now c.args.text.now c.contains.ensures.cases)
    ∙ ap (λ place. stands_at place c.args.text.now c.args.part.now) (sym c.in-Anywhere.is)

pub returns-in-Front : goal.returns-in-Front
returns-in-Front c =
    starts_text c.starts_with.result c.args.part.now c.args.text.now c.starts_with.ensures.cases
    ∙ ap (λ place. stands_at place c.args.text.now c.args.part.now) (sym c.in-Front.is)

pub returns-in-End : goal.returns-in-End
returns-in-End c =
    ends_text c.ends_with.result c.args.part.now c.args.text.now c.ends_with.ensures.cases
    ∙ ap (λ place. stands_at place c.args.text.now c.args.part.now) (sym c.in-End.is)
