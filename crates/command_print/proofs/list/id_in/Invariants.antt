use Rattle.std.proofs.Common.{◌≡◌, drop}
use Rattle.command_print.specs.List.{id_in}
use Rattle.command_print.proofs.list.id_in.Given as goal

-- the job is among those that are left
abbrev pub invariant-loop-job : goal.invariant-loop-job
invariant-loop-job l = id_in (drop l.job-index l.jobs) l.number ≡ id_in l.jobs l.number
