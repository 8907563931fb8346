-- Which contexts the text at a place sees (GitHub Docs, "Contexts reference": context availability).
use Rattle.std.specs.Prelude.{◌≡◌, ◌⊎◌}
use Rattle.expr_reader.specs.declared.tree.Context.{Context}
use Rattle.expr_reader.specs.declared.tree.Context.TheVariants as contexts
use Rattle.flow_lint.specs.Places.{FilePlace}
use Rattle.flow_lint.specs.declared.kind.NodeKind.TheVariants as kinds
use Rattle.flow_lint.specs.declared.kind.Level.TheVariants as levels

-- A place is of a step, or of the directory that scripts share, which each of them reads.
abbrev pub IsOfStep : FilePlace → Type 0
IsOfStep p = (p.level ≡ levels.Step) ⊎ (p.kind ≡ kinds.SharedDirectory)

-- Environments and outputs see secrets, and so do the texts of steps, but for conditions.
abbrev pub SeesSecrets : FilePlace → Type 0
SeesSecrets p = ((p.kind ≡ kinds.Variable) ⊎ (p.kind ≡ kinds.Output)) ⊎ (IsOfStep p × (p.kind ≡ kinds.Condition → ⊥))

-- What the text at a place sees of the contexts. Each that it does not see is empty there.
abbrev pub Sees : Context → FilePlace → Type 0
Sees contexts.Github p = Unit {0}
Sees contexts.Inputs p = Unit {0}
Sees contexts.Vars p = Unit {0}
Sees contexts.Secrets p = SeesSecrets p
Sees contexts.Needs p = (p.level ≡ levels.Job) ⊎ IsOfStep p
Sees contexts.Strategy p = ((p.level ≡ levels.Job) × (p.kind ≡ kinds.Condition → ⊥)) ⊎ IsOfStep p
Sees contexts.Matrix p = ((p.level ≡ levels.Job) × (p.kind ≡ kinds.Condition → ⊥)) ⊎ IsOfStep p
Sees contexts.Env p = IsOfStep p ⊎ (p.kind ≡ kinds.Output)
Sees contexts.Job p = IsOfStep p ⊎ (p.kind ≡ kinds.Output)
Sees contexts.Steps p = IsOfStep p ⊎ (p.kind ≡ kinds.Output)
Sees contexts.Jobs p = ⊥
Sees contexts.Runner p = ⊥
