use Rattle.std.proofs.Common.{◌≡◌, ◌++◌, flat_map, string_bytes, take}
use Rattle.command_print.specs.List.{job_line}
use Rattle.command_print.proofs.list.add_jobs.Given as goal

-- the lines of the jobs so far were added
abbrev pub invariant-loop-job : goal.invariant-loop-job
invariant-loop-job l = string_bytes l.text ≡ string_bytes l.initial.text ++ flat_map (job_line l.plan) (take l.job-index l.jobs)
