-- How jobs stand by their tallies, and the counts of a run's jobs after one was changed.
use Rattle.std.proofs.Common.{◌≡◌, ℕ, ◌==◌, ◌||◌, ◌&&◌, Bool, true, false, List, [], ◌∷◌, Option, Some, None, map, option_map, slice_get, length, nat_lt, if◌then◌else◌, ap, sym, refl, ◌∙◌, count_by}
use Rattle.board_counters.specs.Words.{Board, Job, JobCounter, JobStanding, JobState, Leg, LegPlace, Outcome, Run, RunState, RunTally, all_succeed, changed, counted_jobs, counts_job, has_failed, holds, is_cancelled, is_failure, is_going, is_settled, is_success, job_result, jobs_have_ended, legs_result, list_all, list_any, no_standing, result_by, result_with, run_moved, run_result, run_tally, run_tally_there, settled_jobs, standing_by, standing_given, standing_of, standing_read, tallies_of, tally_of, tally_result, told_result, turned, was_cancelled, with_leg}
use Rattle.std.proofs.lemmas.Bool.{true≢false}
use Rattle.board_counters.proofs.Ended.{jobs_ended}
use Rattle.board_counters.proofs.Lists.{all-counted, any_counted, changed-none, count-changed, map-changed}
use Rattle.board_decisions.proofs.Lists.{map-get, map-past}
use Rattle.board_counters.proofs.Needs.{settled_in}
use Rattle.board_counters.proofs.Tallies.{get_changed, in_job, in_run, turned_same}
use Rattle.status_table.proofs.Lists.{changed-there, length-changed}

-- how a job stands that may be there
abbrev standing_there : Option Job → JobStanding
standing_there None = no_standing
standing_there (Some job) = standing_of job

-- how the job at a place of a run that may be there stands
abbrev pub standing_in : Option Run → ℕ → JobStanding
standing_in None j = no_standing
standing_in (Some run) j = standing_there (slice_get run.jobs j)

-- ---- one job

by-tally : (job : Job) → tally_result (tally_of job) ≡ legs_result job.legs
by-tally job =
    let failed = any_counted (λ (leg : Leg). has_failed leg.state) job.legs in
    let cancelled = any_counted (λ (leg : Leg). was_cancelled leg.state) job.legs in
    sym (λ i. if failed i then Outcome.Failure else (if cancelled i then Outcome.Cancelled else Outcome.Success))

result-with : (job : Job) (s : JobState) → result_with s (tally_of job) ≡ result_by RunState.Going s job.legs
result-with job (JobState.Shut how) = refl
result-with job s = by-tally job

by-state : (job : Job) (s : JobState) → standing_by s (tally_of job) ≡ standing_of (record job { state = s })
by-state job s = ap (λ (result : Outcome). record (standing_by s (tally_of job)) { result = result }) (result-with job s)

pub by_state : (job : Job) → standing_by job.state (tally_of job) ≡ standing_of job
by_state job = by-state job job.state

given : (jobs : List Job) (j : ℕ) (f : Job → Job) → ((job : Job) → (f job).state ≡ job.state) → (o : Option Job) → slice_get jobs j ≡ o
    → standing_given (option_map f o) (slice_get (map tally_of jobs) j) ≡ standing_there o
given jobs j f keeps None at = refl
given jobs j f keeps (Some job) at =
    ap (standing_given (Some (f job))) (map-get tally_of jobs j job at) ∙ ap (λ (s : JobState). standing_by s (tally_of job)) (keeps job) ∙ by-state job job.state

-- by the tallies of a board a job stands as it does
pub read_in : (b : Board) (r j : ℕ) → standing_read (slice_get b.runs r) (slice_get (tallies_of b) r) j ≡ standing_in (slice_get b.runs r) j
read_in b r j = by (slice_get b.runs r) refl
  where
    same : (o : Option Job) → option_map (λ (job : Job). job) o ≡ o
    same None = refl
    same (Some job) = refl

    by : (o : Option Run) → slice_get b.runs r ≡ o → standing_read o (slice_get (tallies_of b) r) j ≡ standing_in o j
    by None at = refl
    by (Some run) at =
        ap (λ row. standing_read (Some run) row j) (map-get (λ (x : Run). map tally_of x.jobs) b.runs r run at)
        ∙ ap (λ o. standing_given o (slice_get (map tally_of run.jobs) j)) (sym (same (slice_get run.jobs j)))
        ∙ given run.jobs j (λ (job : Job). job) (λ job. refl) (slice_get run.jobs j) refl

-- and also where a leg of it was changed since they were counted
pub read_before : (b : Board) (place : LegPlace) (f : Leg → Leg)
    → standing_read (slice_get (with_leg b place f).runs place.run) (slice_get (tallies_of b) place.run) place.job ≡ standing_in (slice_get b.runs place.run) place.job
read_before b place f = ap (λ o. standing_read o (slice_get (tallies_of b) place.run) place.job) (get_changed b.runs place.run (in_run place f)) ∙ by (slice_get b.runs place.run) refl
  where
    by : (o : Option Run) → slice_get b.runs place.run ≡ o → standing_read (option_map (in_run place f) o) (slice_get (tallies_of b) place.run) place.job ≡ standing_in o place.job
    by None at = refl
    by (Some run) at =
        ap (λ row. standing_read (Some (in_run place f run)) row place.job) (map-get (λ (x : Run). map tally_of x.jobs) b.runs place.run run at)
        ∙ ap (λ o. standing_given o (slice_get (map tally_of run.jobs) place.job)) (get_changed run.jobs place.job (in_job place f))
        ∙ given run.jobs place.job (in_job place f) (λ job. refl) (slice_get run.jobs place.job) refl

-- whether it has ended by itself is said too
pub standing_settles : (o : Option Run) (j : ℕ) → (standing_in o j).is_settled ≡ settled_in o j
standing_settles None j = refl
standing_settles (Some run) j = by (slice_get run.jobs j) refl
  where
    by : (o : Option Job) → slice_get run.jobs j ≡ o → (standing_there o).is_settled ≡ holds (slice_get (settled_jobs run) j)
    by None at = ap holds (sym (map-past is_settled run.jobs j at))
    by (Some job) at = ap holds (sym (map-get is_settled run.jobs j job at))

-- ---- the jobs of a run

pub moved_alike : (s : JobStanding) (t : RunTally) → run_moved s s t ≡ t
moved_alike s t = λ i. record {
  jobs = t.jobs;
  pending = turned_same t.jobs t.pending (counts_job JobCounter.Open s) i;
  failed = turned_same t.jobs t.failed (counts_job JobCounter.Failed s) i;
  cancelled = turned_same t.jobs t.cancelled (counts_job JobCounter.Cancelled s) i;
  unsuccessful = turned_same t.jobs t.unsuccessful (counts_job JobCounter.Unsuccessful s) i;
  unjudged = turned_same t.jobs t.unjudged (counts_job JobCounter.Unjudged s) i;
  asking = turned_same t.jobs t.asking (counts_job JobCounter.Asking s) i;
  dropping = turned_same t.jobs t.dropping (counts_job JobCounter.Dropping s) i;
}

module _ (j : ℕ) (g : Job → Job) where
  abbrev at_job : Run → Run
  at_job run = record run { jobs = changed run.jobs j g }

  one-run : (run : Run) (o : Option Job) → slice_get run.jobs j ≡ o → run_tally (at_job run) ≡ run_moved (standing_in (Some run) j) (standing_in (Some (at_job run)) j) (run_tally run)
  one-run run None at =
      let same = changed-none run.jobs j g at in
      let old : standing_in (Some run) j ≡ no_standing = ap standing_there at in
      let new : standing_in (Some (at_job run)) j ≡ no_standing = ap (λ (jobs : List Job). standing_there (slice_get jobs j)) same ∙ ap standing_there at in
      ap (λ (jobs : List Job). run_tally (record run { jobs = jobs })) same ∙ sym (moved_alike no_standing (run_tally run)) ∙ sym (λ i. run_moved (old i) (new i) (run_tally run))
  one-run run (Some job) at =
      let old : standing_in (Some run) j ≡ standing_of job = ap standing_there at in
      let new : standing_in (Some (at_job run)) j ≡ standing_of (g job) = ap standing_there (changed-there run.jobs j g job at) in
      (λ i. record {
        jobs = length-changed run.jobs j g i;
        pending = each JobCounter.Open i;
        failed = each JobCounter.Failed i;
        cancelled = each JobCounter.Cancelled i;
        unsuccessful = each JobCounter.Unsuccessful i;
        unjudged = each JobCounter.Unjudged i;
        asking = each JobCounter.Asking i;
        dropping = each JobCounter.Dropping i;
      }) ∙ sym (λ i. run_moved (old i) (new i) (run_tally run))
    where
      each : (what : JobCounter) → counted_jobs what (changed run.jobs j g) ≡ turned (length run.jobs) (counted_jobs what run.jobs) (counts_job what (standing_of job)) (counts_job what (standing_of (g job)))
      each what = count-changed (λ x. counts_job what (standing_of x)) run.jobs j g job at

  -- the counts after a job of a run was changed
  pub runs_follow : (runs : List Run) (r : ℕ)
      → changed (map run_tally runs) r (run_moved (standing_in (slice_get runs r) j) (standing_in (slice_get (changed runs r at_job) r) j)) ≡ map run_tally (changed runs r at_job)
  runs_follow runs r = sym (map-changed run_tally runs r at_job (run_moved (standing_in (slice_get runs r) j) (standing_in (slice_get (changed runs r at_job) r) j)) (λ run at.
      one-run run (slice_get run.jobs j) refl
      ∙ sym (λ i. run_moved (standing_in (at i) j) (standing_in (changed-there runs r at_job run at i) j) (run_tally run))))

-- ---- what they tell of a run that is Going

going-by : (s : RunState) → is_going s ≡ true → (state : JobState) (legs : List Leg) → result_by s state legs ≡ result_by RunState.Going state legs
going-by RunState.Going h state legs = refl
going-by s h state legs = absurd (true≢false (sym h))

standing-result : (run : Run) → is_going run.state ≡ true → (job : Job) → (standing_of job).result ≡ job_result run job
standing-result run going job = sym (going-by run.state going job.state job.legs)

all-results : (run : Run) (t : Outcome → Bool) (jobs : List Job) → ((job : Job) → (standing_of job).result ≡ job_result run job)
    → list_all (λ job. t (standing_of job).result) jobs ≡ list_all t (map (job_result run) jobs)
all-results run t [] same = refl
all-results run t (job ∷ jobs) same = (λ i. t (same job i) && list_all (λ x. t (standing_of x).result) jobs) ∙ ap (λ c. t (job_result run job) && c) (all-results run t jobs same)

-- how the jobs of a run stand, by what is kept of it
pub told_tally : (runs : List Run) (r : ℕ) (run : Run) → slice_get runs r ≡ Some run → run_tally_there (slice_get (map run_tally runs) r) ≡ run_tally run
told_tally runs r run at = ap run_tally_there (map-get run_tally runs r run at)

pub ended_told : (run : Run) → is_going run.state ≡ true → ((run_tally run).pending == 0) ≡ jobs_have_ended run
ended_told run going = sym (all-counted (λ job. is_settled job) run.jobs) ∙ jobs_ended run going

pub success_told : (run : Run) → is_going run.state ≡ true → ((run_tally run).unsuccessful == 0) ≡ all_succeed run
success_told run going = sym (all-counted (λ job. is_success (standing_of job).result) run.jobs) ∙ all-results run is_success run.jobs (standing-result run going)

-- whether the result of one counts so
any-result : (run : Run) → is_going run.state ≡ true → (t : Outcome → Bool) → nat_lt 0 (count_by (λ job. t (standing_of job).result) run.jobs) ≡ list_any (λ job. t (job_result run job)) run.jobs
any-result run going t = sym (any_counted (λ job. t (standing_of job).result) run.jobs) ∙ (λ i. list_any (λ job. t (standing-result run going job i)) run.jobs)

pub result_told : (run : Run) → is_going run.state ≡ true → told_result run.stop (run_tally run) ≡ run_result run
result_told run going =
    let failed = any-result run going is_failure in
    let cancelled = any-result run going is_cancelled in
    λ i. if failed i then Outcome.Failure else (if run.stop || cancelled i then Outcome.Cancelled else Outcome.Success)
