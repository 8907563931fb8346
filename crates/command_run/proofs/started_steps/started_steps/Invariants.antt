use Rattle.std.proofs.Common.{◌≡◌, ℕ, nat_eq, flat_map, take}
use Rattle.std.specs.HashMap.{get}
use Rattle.step_host.specs.Counted.{begun, counted}
use Rattle.command_run.specs.StepLogs.{begun_of, started_step}
use Rattle.command_run.proofs.started_steps.started_steps.Given as goal

-- the steps that the entries so far begin are counted, and those that they end are listed
abbrev pub invariant-loop-entry : goal.invariant-loop-entry
invariant-loop-entry l =
    record {
      counts : (leg : ℕ) → begun_of (get nat_eq l.begun) leg ≡ begun leg (take l.entry-index l.history);
      lists : l.steps.items ≡ flat_map started_step (counted (take l.entry-index l.history));
    }
