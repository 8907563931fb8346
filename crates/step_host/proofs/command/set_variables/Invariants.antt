-- What is said of each variable, with what is left set after it, is what all pairs make of it.
use Rattle.std.proofs.Common.{◌≡◌, ℕ, List}
use Rattle.std.specs.Process.{SameDir, SameProgramAndArgs, clears_env, command_var}
use Rattle.status_table.specs.Words.{pairs_of}
use Rattle.step_host.specs.Program.{said_after}
use Rattle.step_host.proofs.command.set_variables.Given as goal

abbrev pub invariant-loop-name : goal.invariant-loop-name
invariant-loop-name l =
    record {
      variables : (k : List ℕ) → said_after (command_var l.command k) k (pairs_of l.name-iterator) ≡ said_after (command_var l.fn.command k) k l.variables;
      call : SameProgramAndArgs l.fn.command l.command;
      alone : clears_env l.command ≡ clears_env l.fn.command;
      folder : SameDir l.fn.command l.command;
    }
