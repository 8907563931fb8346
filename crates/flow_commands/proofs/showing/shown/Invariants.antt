-- What is shown so far, before what is shown of the rest.
use Rattle.std.proofs.Common.{◌≡◌, ◌++◌, drop}
use Rattle.flow_commands.specs.Shown.{shown}
use Rattle.flow_commands.proofs.showing.shown.Given as goal

abbrev pub invariant-loop-line : goal.invariant-loop-line
invariant-loop-line l = l.texts ++ shown (l.masks ++ l.own) (drop l.line-index l.lines) ≡ shown l.masks l.lines
