-- What the events of runs make of a lawful board: Open, Close and Cancel.
use Rattle.std.proofs.Common.{◌≡◌, ℕ, ◌+◌, ◌≤◌, ◌||◌, Bool, true, false, Option, Some, None, Result, Ok, Err, ap, subst, sym, refl, ◌∙◌, arith}
use Rattle.std.specs.List.{AllZip}
use Rattle.std.proofs.lemmas.Bool.{true≢false}
use Rattle.status_table.specs.Words.{Board, Entrance, JobFits, Lawful, Member, Outcome, Plan, Run, RunAt, RunFits, RunPlan, RunState, Standing, ValueFault, admitted, apart, changed, closed, enters, holding, is_closed, is_going, jobs_have_ended, moved, run_entrance, run_result, run_standing, run_stands, stopped, waiting, waits}
use Rattle.status_table.specs.declared.fault.EventFault.{EventFault}
use Rattle.status_table.proofs.Rank.{run_rank, rank_of_run}
use Rattle.status_table.specs.Row as rows
use Rattle.status_table.proofs.Entering.{Leads, leads-if, lawfully, Asker, enters_leads, leaves_leads, ends_apart, stands_still}
use Rattle.status_table.proofs.Found.{RunStands}
use Rattle.status_table.proofs.Steps.{Step, run_step}
use Rattle.status_table.proofs.Turnover.{idle-run, ended-run}

-- ---- Open

module _ (p : Plan) (b : Board) (r : ℕ) (at : RunAt) (stands : RunStands p b r at) where
  pub new_changes : at.run.state ≡ RunState.New → (f : Run → Run) → ((x : Run) → (f x).jobs ≡ x.jobs) → (new : Board) → new.runs ≡ changed b.runs r f
      → (t : Standing) → run_standing (f at.run) ≡ t → rank_of_run (f at.run) + 1 ≤ rank_of_run at.run → Lawful p b → Step p b (Member.Run r) apart t 1 new
  new_changes is f keeps new new_is t now less lawful =
      run_step p b r f at.run stands.run keeps new new_is apart t 1 lawful.fits (ap is_closed is)
      (λ plan all. subst (AllZip (JobFits (f at.run).state (f at.run).group) plan.jobs) (sym (keeps at.run))
      (idle-run at.run.state (f at.run).state at.run.group (f at.run).group plan.jobs at.run.jobs (ap is_going is) all))
      (ap (λ s. run_stands s at.run.group) is) now less

  new-rank : at.run.state ≡ RunState.New → 2 ≤ rank_of_run at.run
  new-rank is = let e = ap (λ s. run_rank s at.run.stop) is in omega (arith, e)

  new-unstopped : at.run.state ≡ RunState.New → at.run.stop ≡ false → (x : ℕ) → x ≤ 2 → x + 1 ≤ rank_of_run at.run
  new-unstopped is stop x few = let e = ap (λ s. run_rank s at.run.stop) is ∙ ap (λ c. run_rank RunState.New c) stop in omega (arith, e, few)

  going-rank : at.run.stop ≡ false → run_rank RunState.Going at.run.stop ≤ 2
  going-rank stop = let e = ap (λ c. run_rank RunState.Going c) stop in omega (arith, e)

  waiting-rank : at.run.stop ≡ false → run_rank RunState.Waiting at.run.stop ≤ 2
  waiting-rank stop = let e = ap (λ c. run_rank RunState.Waiting c) stop in omega (arith, e)

  new_closes : at.run.state ≡ RunState.New → (result : Outcome) → Leads p b (Ok (closed b r result, moved))
  new_closes is result = ends_apart p b (closed b r result) (Member.Run r)
      (new_changes is (λ x. record x { state = RunState.Closed result }) (λ x. refl) (closed b r result) refl apart refl (let e = new-rank is in omega (arith, e)))

  pub run_asker : Lawful p b → at.run.state ≡ RunState.New → at.run.stop ≡ false → Asker p b (Member.Run r) None
  run_asker lawful is stop = record {
    admit = λ name. new_changes is (λ x. record x { state = RunState.Going; group = name }) (λ x. refl) (admitted b name (Member.Run r)) refl (holding name) refl
        (new-unstopped is stop (run_rank RunState.Going at.run.stop) (going-rank stop)) lawful;
    wait = λ n h _ _. new_changes is (λ x. record x { state = RunState.Waiting; group = Some n }) (λ x. refl) (waits b n (Member.Run r)) refl (waiting (Some n)) refl
        (new-unstopped is stop (run_rank RunState.Waiting at.run.stop) (waiting-rank stop)) lawful;
    refuse = new_closes is Outcome.Cancelled;
  }

  pub open_leads : Leads p b (rows.open_run b r at at.run.state at.run.stop)
  open_leads = by at.run.state at.run.stop refl refl
    where
      entered : (x : Result (Option Entrance) ValueFault) → at.run.state ≡ RunState.New → at.run.stop ≡ false → Leads p b (rows.run_enters b r x)
      entered (Ok group) is stop = lawfully p b (Ok (enters b (Member.Run r) None group)) (λ lawful. enters_leads p b (Member.Run r) None (run_asker lawful is stop) group)
      entered (Err f) is stop = new_closes is Outcome.Failure

      by : (s : RunState) (stop : Bool) → at.run.state ≡ s → at.run.stop ≡ stop → Leads p b (rows.open_run b r at s stop)
      by RunState.New false is stop = entered (run_entrance at) is stop
      by RunState.New true is stop = tt
      by RunState.Waiting c is stop = tt
      by RunState.Going c is stop = tt
      by (RunState.Closed result) c is stop = tt

  -- ---- Close

  run_ends : (result : Outcome) → is_closed at.run.state ≡ false → 1 ≤ rank_of_run at.run
      → ((plan : RunPlan) → RunFits plan at.run → AllZip (JobFits (RunState.Closed result) at.run.group) plan.jobs at.run.jobs) → Leads p b (rows.run_closes b r at.run result)
  run_ends result unclosed some fit = leaves_leads p b (closed b r result) (Member.Run r) (run_standing at.run) (λ lawful.
      run_step p b r (λ x. record x { state = RunState.Closed result }) at.run stands.run (λ x. refl) (closed b r result) refl (run_standing at.run) apart 1 lawful.fits
      unclosed fit refl refl (omega (arith, some)))

  pub close_leads : Leads p b (rows.close_run b r at.run at.run.state)
  close_leads = by at.run.state refl
    where
      some-left : (s : RunState) (stop : Bool) → is_closed s ≡ false → 1 ≤ run_rank s stop
      some-left (RunState.Closed result) stop h = absurd (true≢false h)
      some-left s stop h = omega arith

      idle : (stop : Bool) → is_closed at.run.state ≡ false → is_going at.run.state ≡ false → Leads p b (rows.close_waiting b r at.run stop)
      idle true unclosed waits = run_ends Outcome.Cancelled unclosed (some-left at.run.state at.run.stop unclosed)
          (λ plan all. idle-run at.run.state (RunState.Closed Outcome.Cancelled) at.run.group at.run.group plan.jobs at.run.jobs waits all)
      idle false unclosed waits = tt

      by : (s : RunState) → at.run.state ≡ s → Leads p b (rows.close_run b r at.run s)
      by RunState.Going is = leads-if p b (jobs_have_ended at.run) (rows.run_closes b r at.run (run_result at.run)) (Err EventFault.NeedsOpen)
          (λ ended. run_ends (run_result at.run) (ap is_closed is) (some-left at.run.state at.run.stop (ap is_closed is))
          (λ plan all. ended-run at.run (RunState.Closed (run_result at.run)) plan.jobs at.run.jobs (ap is_closed is) ended all))
          (λ _. tt)
      by (RunState.Closed result) is = tt
      by s is = idle at.run.stop (ap is_closed is) (ap is_going is)

  -- ---- Cancel

  pub cancel_leads : Leads p b (rows.cancel_run b r at.run)
  cancel_leads = leads-if p b (is_closed at.run.state || at.run.stop) (Err EventFault.WrongState) (Ok (stopped b true (Member.Run r), moved)) (λ _. tt)
      (λ h lawful. stands_still p b (stopped b true (Member.Run r)) (Member.Run r) (run_standing at.run)
      (run_step p b r (λ x. record x { stop = true }) at.run stands.run (λ x. refl) (stopped b true (Member.Run r)) refl (run_standing at.run) (run_standing at.run) 1 lawful.fits
      (neither (is_closed at.run.state) at.run.stop h).0 (λ plan all. all) refl refl
      (lower at.run.state at.run.stop (neither (is_closed at.run.state) at.run.stop h).0 (neither (is_closed at.run.state) at.run.stop h).1)) lawful)
    where
      neither : (c d : Bool) → c || d ≡ false → (c ≡ false) × (d ≡ false)
      neither true d h = absurd (true≢false h)
      neither false d h = (refl, h)

      lower : (s : RunState) (stop : Bool) → is_closed s ≡ false → stop ≡ false → run_rank s true + 1 ≤ run_rank s stop
      lower RunState.New true h k = absurd (true≢false k)
      lower RunState.New false h k = omega arith
      lower RunState.Waiting true h k = absurd (true≢false k)
      lower RunState.Waiting false h k = omega arith
      lower RunState.Going true h k = absurd (true≢false k)
      lower RunState.Going false h k = omega arith
      lower (RunState.Closed result) stop h k = absurd (true≢false h)
