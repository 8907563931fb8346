use Rattle.std.proofs.Common.{◌≤◌, List, length, sym, subst, rules}
use Rattle.command_print.specs.Lint.{Told, AreTold}
use Rattle.command_print.proofs.Linted.{all_told}
use Rattle.command_print.proofs.lint.told_each.Goals as goal

pub returns : goal.returns
returns c =
    let past : length c.args.files.now ≤ c.loop-file.file-index = search rules in
    subst (λ (l : List Told). AreTold c.args.files.now l) (sym c.new.ensures)
    (all_told c.args.files.now c.loop-file.file-index c.loop-file.tolds.items past c.loop-file.invariant)
