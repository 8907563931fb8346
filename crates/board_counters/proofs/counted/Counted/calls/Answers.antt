use Rattle.std.proofs.Common.{◌≡◌, Some, slice_get, sym, subst}
use Rattle.board_counters.specs.Words.{AreCallsOf, Calls, JobPlan, Play, RunPlan, StepPlan}
use Rattle.board_counters.proofs.Placed.{calls_told}
use Rattle.board_counters.proofs.counted.Counted.calls.Goals as goal

pub returns : goal.returns
returns c =
    subst (λ (s : Play). (run : RunPlan) (job : JobPlan) (step : StepPlan) → slice_get s.plan.runs c.args.place.run ≡ Some run → slice_get run.jobs c.args.place.job ≡ Some job
    → slice_get job.steps c.args.step ≡ Some step → AreCallsOf run job step c.calls_at.result) c.self.view_is
    (λ run job step in_runs in_jobs in_steps. subst (λ (calls : Calls). AreCallsOf run job step calls) (sym c.calls_at.ensures)
    (calls_told c.self.inside.plan.runs c.self.inside.lasting.calls c.args.place c.args.step run job step c.self.invariant.lasts.calls in_runs in_jobs in_steps))
