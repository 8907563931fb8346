-- The three levels of defaults lie over one another.
use Rattle.std.proofs.Common.{◌≡◌, ◌∙◌, ℕ, List, Option, None, Some, refl, ap}
use Rattle.flow_model.specs.declared.plan.Shell.{Shell}
use Rattle.flow_model.specs.declared.plan.Shell.TheVariants.{Default, Sh, Bash}
use Rattle.flow_model.specs.declared.plan.Work.TheVariants.{Run}
use Rattle.flow_reader.specs.Defaults.{dir_or, shell_or}
use Rattle.flow_reader.specs.Laws.{DefaultsLayOver}

dirs_lay_over : (own job flow : Option (List ℕ)) → dir_or (dir_or own job) flow ≡ dir_or own (dir_or job flow)
dirs_lay_over None job flow = refl
dirs_lay_over (Some dir) job flow = refl

shells_lay_over : (own job flow : Shell) → shell_or (shell_or own job) flow ≡ shell_or own (shell_or job flow)
shells_lay_over Default job flow = refl
shells_lay_over Sh job flow = refl
shells_lay_over Bash job flow = refl

pub defaults_lay_over : DefaultsLayOver
defaults_lay_over id name condition env tolerate shell dir run job flow =
    ap (λ d. Run d run (shell_or (shell_or shell job.shell) flow.shell)) (dirs_lay_over dir job.dir flow.dir)
    ∙ ap (λ s. Run (dir_or dir (dir_or job.dir flow.dir)) run s) (shells_lay_over shell job.shell flow.shell)
