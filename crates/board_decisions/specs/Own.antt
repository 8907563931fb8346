-- Variables that are the same whatever the contexts are.
use Rattle.plan_values.specs.Words.{Contexts, HasNoFault, JobPlan, RunPlan, env_value}

-- Whatever the contexts are, neither the variables of a workflow nor those of a job have a fault.
pub record HasOwnEnv (run_plan : RunPlan) (job_plan : JobPlan) : Type 0 where
  pub flow : (c : Contexts) → HasNoFault (env_value c run_plan.env)
  pub job : (c : Contexts) → HasNoFault (env_value c job_plan.env)
