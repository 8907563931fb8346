use Rattle.std.proofs.Common.{◌≡◌, ◌++◌, string_bytes, drop}
use Rattle.command_run.specs.RunLines.{run_lines}
use Rattle.command_run.proofs.run_lines.add_run_lines.Given as goal

-- the lines so far and those of the runs that are left are all lines
abbrev pub invariant-loop-number : goal.invariant-loop-number
invariant-loop-number l = string_bytes l.text ++ run_lines l.number (drop l.number l.runs) ≡ string_bytes l.fn.text ++ run_lines 0 l.runs
