-- Laws of the definitions, each the contract of a function of the module `laws`.
use Rattle.std.specs.Prelude.{◌≡◌, ℕ, List, Option, None}
use Rattle.flow_model.specs.Plain.{Plain}
use Rattle.flow_model.specs.declared.plan.Flag.{Flag}
use Rattle.flow_model.specs.declared.plan.Shell.{Shell}
use Rattle.flow_model.specs.declared.plan.Shell.TheVariants.{Default}
use Rattle.flow_model.specs.declared.plan.StepPlan.{StepPlan}
use Rattle.flow_model.specs.declared.plan.Work.TheVariants.{Run}
use Rattle.flow_reader.specs.Defaults.{dir_or, shell_or, filled_step}
use Rattle.flow_reader.specs.Step.{step_from}
use Rattle.flow_reader.specs.declared.defaults.Defaults.{Defaults}

-- The directory of a script is its step's own, else the job's default, else the workflow's, and so is its shell.
abbrev pub DefaultsLayOver : Type 0
DefaultsLayOver =
    (id name condition : Option (List ℕ)) (env : List (List ℕ × Plain)) (tolerate : Flag) (shell : Shell) (dir : Option (List ℕ)) (run : List ℕ) (job flow : Defaults)
    → let own : StepPlan = step_from (id, (name, (condition, (env, (tolerate, (shell, (dir, (Run None run Default, tt)))))))) in
    (filled_step flow (filled_step job own)).work ≡ Run (dir_or dir (dir_or job.dir flow.dir)) run (shell_or shell (shell_or job.shell flow.shell))
