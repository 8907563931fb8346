-- What a job comes to that is settled on a board: the result and the outputs that it shows are those that are settled.
use Rattle.std.proofs.Common.{◌≡◌, ℕ, ◌&&◌, ◌||◌, true, false, List, [], ◌∷◌, Option, Some, option_map, map, slice_get, ap, sym, subst, refl, ◌∙◌}
use Rattle.board_settled.specs.Words.{AllZip, Board, Env, Finish, Job, JobFits, JobIsSettled, JobPlace, JobPlan, JobState, Leg, LegIsSettled, LegState, Plan, Run, RunPlan, SettledJob, SettledLeg, all_given, ended_in_order, fails, given_by, goes_rightly, has_failed, is_cancelled, is_ended, is_fresh, is_open, job_outputs, job_result, laid_over, legs_come_to, list_any, opened, outputs_of_job, overlaid, result_by, result_of, was_cancelled, worst}
use Rattle.std.proofs.lemmas.Bool.{true≢false}
use Rattle.board_settled.proofs.Outputs.{none_ended, all_ended, JobThere}
use Rattle.status_table.proofs.Counts.{zip-left}
use Rattle.status_table.proofs.Lists.{all-get}

-- ---- the legs of a job that was opened

-- legs that are Ended as settled, and what they come to
pub record LegsCome (given : List SettledLeg) (legs : List Leg) : Type 0 where
  pub ends : List Finish
  pub all : all_given (map (λ leg. leg.finish) given) ≡ Some ends
  pub failed : list_any fails ends ≡ list_any (λ leg. has_failed leg.state) legs
  pub cancelled : list_any (λ finish. is_cancelled finish.result) ends ≡ list_any (λ leg. was_cancelled leg.state) legs
  pub overlays : (below : Env) → overlaid (map (λ leg. given_by leg.finish) given) below ≡ overlaid (map (λ leg. leg.outputs) legs) below

next_comes : (given : SettledLeg) (more : List SettledLeg) (leg : Leg) (legs : List Leg) → LegIsSettled given leg → LegsCome more legs → LegsCome (given ∷ more) (leg ∷ legs)
next_comes given more leg legs is later =
    record {
      ends = record { result = is.result; tolerated = is.tolerated; outputs = leg.outputs } ∷ later.ends;
      all = ap (λ (o : Option Finish). all_given (o ∷ map (λ (x : SettledLeg). x.finish) more)) is.finish
          ∙ ap (option_map (λ (ys : List Finish). record { result = is.result; tolerated = is.tolerated; outputs = leg.outputs } ∷ ys)) later.all;
      failed = λ i. has_failed (sym is.state i) || later.failed i;
      cancelled = λ i. was_cancelled (sym is.state i) || later.cancelled i;
      overlays = λ below. ap (λ (o : Option Finish). overlaid (given_by o ∷ map (λ (x : SettledLeg). given_by x.finish) more) below) is.finish ∙ later.overlays (laid_over leg.outputs below);
    }

pub legs_come : (given : List SettledLeg) (legs : List Leg) → AllZip LegIsSettled given legs → LegsCome given legs
legs_come [] [] h = record { ends = []; all = refl; failed = refl; cancelled = refl; overlays = λ below. refl }
legs_come (given ∷ more) (leg ∷ legs) h = next_comes given more leg legs h.0 (legs_come more legs h.1)
legs_come given legs h = absurd h

-- ---- a job

-- the settled job comes to what the board shows
pub record JobComes (b : Board) (place : JobPlace) (run : Run) (given : SettledJob) (job : Job) : Type 0 where
  pub result : result_of given ≡ Some (job_result run job)
  pub outputs : outputs_of_job given ≡ job_outputs b place

-- the result of one that was opened
open_result : (run : Run) (given : SettledJob) (job : Job) (all : List SettledLeg) → job.state ≡ JobState.Open → given ≡ opened all → LegsCome all job.legs → result_of given ≡ Some (job_result run job)
open_result run given job all is stands come =
    ap result_of stands ∙ ap (option_map legs_come_to) come.all
    ∙ (λ i. Some (worst (come.failed i) (come.cancelled i)))
    ∙ ap (λ s. Some (result_by run.state s job.legs)) (sym is)

-- where it gives the outputs of its legs if it is Open, and else none
pub comes_by : (b : Board) (place : JobPlace) (run : Run) (given : SettledJob) (job : Job) → JobIsSettled given job.legs job.state
    → (job.state ≡ JobState.Open → job_outputs b place ≡ overlaid (map (λ leg. leg.outputs) job.legs) []) → (is_open job.state ≡ false → job_outputs b place ≡ [])
    → JobComes b place run given job
comes_by b place run given job settled opened_so else_none = by job.state refl settled
  where
    by : (s : JobState) → job.state ≡ s → JobIsSettled given job.legs s → JobComes b place run given job
    by JobState.Unjudged is h = absurd h
    by JobState.Open is h =
        let come = legs_come h.0 job.legs h.2 in
        record { result = open_result run given job h.0 is h.1 come; outputs = ap outputs_of_job h.1 ∙ come.overlays [] ∙ sym (opened_so is) }
    by (JobState.Shut result) is h = record {
      result = ap result_of h ∙ ap (λ s. Some (result_by run.state s job.legs)) (sym is);
      outputs = ap outputs_of_job h ∙ sym (else_none (ap is_open is));
    }

fresh-unended : (s : LegState) → is_fresh s || false ≡ true → is_ended s ≡ false
fresh-unended LegState.Fresh h = refl
fresh-unended s h = absurd (true≢false (sym h))

module _ {p : Plan} {b : Board} {place : JobPlace} {run_plan : RunPlan} {run : Run} {job : Job} (here : JobThere p b place run_plan run job) (ends : b.ends ≡ ended_in_order b)
    (plan : JobPlan) (fits : JobFits run.state run.group plan job) where
  -- no leg is Ended of a job that was not opened
  unended : is_open job.state ≡ false → (k : ℕ) (leg : Leg) → slice_get job.legs k ≡ Some leg → is_ended leg.state ≡ false
  unended closed k leg is =
      fresh-unended leg.state (rw closed at (all-get (λ (x : Leg). is_fresh x.state || (is_open job.state && goes_rightly run.state run.group x)) job.legs k leg is fits.legs))

  pub job_comes : (given : SettledJob) → JobIsSettled given job.legs job.state → JobComes b place run given job
  job_comes given settled = comes_by b place run given job settled
      (λ is. all_ended here ends (λ k leg there. let all = subst (JobIsSettled given job.legs) is settled in ap is_ended (zip-left LegIsSettled all.0 job.legs k leg there all.2).2.state))
      (λ unopened. none_ended here ends (unended unopened))
