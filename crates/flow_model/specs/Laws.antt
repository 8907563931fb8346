-- Laws of the definitions, each the contract of a function of the module `laws`.
use Rattle.std.specs.Prelude.{◌≡◌, ◌↔◌, ◌+◌, ◌<◌, ◌≤◌, ℕ, IsTrue, Some, slice_get}
use Rattle.flow_model.specs.Numbers.{plan_jobs, first_job}
use Rattle.flow_model.specs.Plain.{Plain}
use Rattle.flow_model.specs.Rules.{is_within, IsPlan}
use Rattle.flow_model.specs.Sound.{Each, IsWithin, SoundPlan}
use Rattle.flow_model.specs.declared.plan.JobPlan.{JobPlan}
use Rattle.flow_model.specs.declared.plan.Plan.{Plan}
use Rattle.flow_model.specs.declared.plan.RunPlan.{RunPlan}

-- The test of a value's depth passes exactly where the value nests no deeper and its numbers are in range.
abbrev pub DepthIsNesting : Type 0
DepthIsNesting = (n : ℕ) (v : Plain) → IsTrue (is_within n v) ↔ IsWithin n v

-- The search for a broken rule finds none exactly where each rule holds in its own words.
abbrev pub RulesHold : Type 0
RulesHold = (p : Plan) → IsPlan p ↔ SoundPlan p

-- The job at place i of the run at place r stands, among all jobs, i after the first of its run.
abbrev pub JobsFollowRuns : Type 0
JobsFollowRuns =
    (p : Plan) (r i : ℕ) (run : RunPlan) (job : JobPlan) → slice_get p.runs r ≡ Some run → slice_get run.jobs i ≡ Some job
    → slice_get (plan_jobs p) (first_job p r + i) ≡ Some job

-- Where no rule is broken, its number says so, and it needs only jobs of its run that stand before it.
abbrev pub NeedsPointBack : Type 0
NeedsPointBack =
    (p : Plan) → IsPlan p → (r i : ℕ) (run : RunPlan) (job : JobPlan) → slice_get p.runs r ≡ Some run → slice_get run.jobs i ≡ Some job
    → (job.number ≡ first_job p r + i) × Each (λ need. (first_job p r ≤ need) × (need < first_job p r + i)) job.needs
