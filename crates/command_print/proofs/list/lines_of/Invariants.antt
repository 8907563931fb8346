use Rattle.std.proofs.Common.{◌≡◌, ◌++◌, string_bytes, drop}
use Rattle.command_print.specs.List.{listing}
use Rattle.command_print.proofs.list.lines_of.Given as goal

-- the lines so far and those of the stages that are left are all lines
abbrev pub invariant-loop-stage : goal.invariant-loop-stage
invariant-loop-stage l = string_bytes l.text ++ listing l.plan l.stage (drop l.stage l.stages) ≡ listing l.plan 0 l.stages
