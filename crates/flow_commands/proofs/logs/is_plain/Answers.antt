-- A line that does not begin with colons is plain.
use Rattle.std.proofs.Common.{codes, sym, ap, ◌∙◌}
use Rattle.flow_commands.specs.Splits.{after_front}
use Rattle.flow_commands.proofs.LogLines.{plain_line}
use Rattle.flow_commands.proofs.logs.is_plain.Goals as goal

pub returns-in-None-clause-plain : goal.returns-in-None-clause-plain
returns-in-None-clause-plain c = λ _. plain_line c.args.line.now (ap (after_front (codes "::")) (sym c.from_text.ensures) ∙ sym c.in-None.ensures)
