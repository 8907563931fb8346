use Rattle.std.proofs.Common.{◌≡◌, ◌++◌, ◌+◌, string_bytes, drop}
use Rattle.plan_text.specs.BoardText.{jobs_text, legs_count}
use Rattle.plan_text.proofs.board.write_jobs.Given as goal

abbrev pub invariant-loop-job : goal.invariant-loop-job
invariant-loop-job l = record {
  left : string_bytes l.text ++ jobs_text l.job_number l.leg_number (drop l.job-index l.jobs) ≡ string_bytes l.initial.text ++ jobs_text l.first_job l.first_leg l.jobs;
  jobs : l.job_number ≡ l.first_job + l.job-index;
  legs : l.leg_number + legs_count (drop l.job-index l.jobs) ≡ l.first_leg + legs_count l.jobs;
}
