use Rattle.std.proofs.Common.{ℕ, ◌+◌}
use Rattle.plan_text.specs.Changes.{TellsJob, after_job}
use Rattle.command_print.proofs.ChangeLemmas.{ToldTo}
use Rattle.command_print.proofs.touched.add_job_lines.Given as goal

-- the number of the next leg is not looked at
abbrev pub invariant-loop-place : goal.invariant-loop-place
invariant-loop-place l = (leg : ℕ) × ToldTo after_job TellsJob l.first l.before l.jobs l.initial.text (l.first.0 + l.place, leg) l.place l.text
