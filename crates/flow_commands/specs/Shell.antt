-- The words that start a script's shell.
use Rattle.std.specs.Prelude.{ℕ, List, [], ◌∷◌, codes}
use Rattle.flow_model.specs.declared.plan.Shell.{Shell}
use Rattle.flow_model.specs.declared.plan.Shell.TheVariants.{Default, Sh, Bash}

-- the shell and its options, and then the file of the script (workflow syntax: `shell`)
abbrev pub words : Shell → List ℕ → List (List ℕ)
words Default file = codes "bash" ∷ codes "-e" ∷ file ∷ []
words Sh file = codes "sh" ∷ codes "-e" ∷ file ∷ []
words Bash file = codes "bash" ∷ codes "--noprofile" ∷ codes "--norc" ∷ codes "-eo" ∷ codes "pipefail" ∷ file ∷ []
