use Rattle.std.proofs.Common.{◌≡◌, drop}
use Rattle.why_facts.proofs.notes.add_runs.Given as goal
use Rattle.why_facts.specs.Notes.{runs_added}

abbrev pub invariant-loop-run : goal.invariant-loop-run
invariant-loop-run l = runs_added l.notes (drop l.run-index l.runs) ≡ runs_added l.initial.notes l.runs
