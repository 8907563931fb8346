-- The bytes are text, and its lines are read.
use Rattle.std.proofs.Common.{[], sym, ap, subst, ◌∙◌}
use Rattle.std.proofs.lemmas.Result.{err_from_is_err_and}
use Rattle.flow_model.specs.Lines.{lines_of}
use Rattle.flow_commands.specs.PairFiles.{pairs_of, then_with, Refuses}
use Rattle.flow_commands.proofs.Gathering.{not_utf8, lines_refused, lines_given}
use Rattle.flow_commands.proofs.pair_file.read_file.Goals as goal

pub returns-in_default-clause-exact : goal.returns-in_default-clause-exact
returns-in_default-clause-exact c = not_utf8 c.args.file c.args.bytes.now c.in_default.ensures.cases.0

pub returns-in_err-found-clause-exact : goal.returns-in_err-found-clause-exact
returns-in_err-found-clause-exact c =
    let p = err_from_is_err_and c.from_residual.result c.from_residual.ensures.1 in
    rw (p.1, p.2) (lines_refused c.args.file c.args.bytes.now c.in_err-found.field-0.0 c.in-Ok.ensures.cases.1
    (subst (λ t. Refuses c.in_err-found.field-0.0 (then_with c.args.file [] (pairs_of c.args.file (lines_of t)))) c.in-Ok.ensures.cases.0 c.in_err-found.ensures))

pub returns-clause-exact : goal.returns-clause-exact
returns-clause-exact c =
    lines_given c.args.file c.args.bytes.now c.in_ok-found.found c.limited.result c.in-Ok.ensures.cases.1
    (ap (λ t. then_with c.args.file [] (pairs_of c.args.file (lines_of t))) (sym c.in-Ok.ensures.cases.0) ∙ c.in_ok-found.ensures) c.limited.ensures
