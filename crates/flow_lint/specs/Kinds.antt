-- What the places of a kind have in common.
use Rattle.std.specs.Prelude.{◌≡◌, ℕ, ◌⊎◌, List, codes}
use Rattle.flow_lint.specs.declared.kind.NodeKind.{NodeKind}
use Rattle.flow_lint.specs.declared.kind.NodeKind.TheVariants as kinds
use Rattle.flow_lint.specs.declared.kind.Level.{Level}
use Rattle.flow_lint.specs.declared.kind.Level.TheVariants as levels

-- A value is read there, and each number in it has to be whole.
abbrev pub WantsWhole : NodeKind → Type 0
WantsWhole k =
    (k ≡ kinds.Variable) ⊎ ((k ≡ kinds.Input) ⊎ ((k ≡ kinds.Values) ⊎ ((k ≡ kinds.Entries) ⊎ (k ≡ kinds.MaxParallel))))

-- A value is written there, and no expression that gives one.
abbrev pub WantsValue : NodeKind → Type 0
WantsValue k =
    (k ≡ kinds.FailFast) ⊎ ((k ≡ kinds.MaxParallel) ⊎ ((k ≡ kinds.Matrix) ⊎ ((k ≡ kinds.Values) ⊎ (k ≡ kinds.Entries))))

-- The text there is evaluated as a template.
abbrev pub IsTemplate : NodeKind → Type 0
IsTemplate k =
    (k ≡ kinds.Variable) ⊎ ((k ≡ kinds.Input) ⊎ ((k ≡ kinds.Output) ⊎ ((k ≡ kinds.Group) ⊎ ((k ≡ kinds.GroupName)
    ⊎ ((k ≡ kinds.Flag) ⊎ ((k ≡ kinds.Run) ⊎ ((k ≡ kinds.Directory) ⊎ (k ≡ kinds.SharedDirectory))))))))

-- What a job needs stands there: an id alone, or one of a list.
abbrev pub IsNeed : NodeKind → Type 0
IsNeed k = (k ≡ kinds.Needs) ⊎ (k ≡ kinds.Need)

-- A list stands there whose items are looked at: of steps, or of needs.
abbrev pub IsList : NodeKind → Type 0
IsList k = (k ≡ kinds.Steps) ⊎ (k ≡ kinds.Needs)

-- The key has to be in what is of this kind.
abbrev pub Wants : NodeKind → List ℕ → Type 0
Wants k key =
    ((k ≡ kinds.Workflow) × ((key ≡ codes "on") ⊎ (key ≡ codes "jobs")))
    ⊎ (((k ≡ kinds.Job) × (key ≡ codes "steps"))
    ⊎ (((k ≡ kinds.Group) × (key ≡ codes "group")) ⊎ ((k ≡ kinds.Step) × (key ≡ codes "run"))))

-- To what a place of this kind belongs, where what it stands in belongs to this.
abbrev pub level_in : NodeKind → Level → Level
level_in kinds.Workflow around = around
level_in kinds.Jobs around = around
level_in kinds.Job around = levels.Job
level_in kinds.Steps around = around
level_in kinds.Step around = levels.Step
level_in kinds.Plain around = around
level_in kinds.Id around = around
level_in kinds.Needs around = around
level_in kinds.Need around = around
level_in kinds.Condition around = around
level_in kinds.Flag around = around
level_in kinds.Env around = around
level_in kinds.Variable around = around
level_in kinds.With around = around
level_in kinds.Input around = around
level_in kinds.Outputs around = around
level_in kinds.Output around = around
level_in kinds.Group around = around
level_in kinds.GroupName around = around
level_in kinds.Defaults around = around
level_in kinds.Scripts around = around
level_in kinds.Shell around = around
level_in kinds.Directory around = around
level_in kinds.SharedDirectory around = around
level_in kinds.Run around = around
level_in kinds.Strategy around = around
level_in kinds.FailFast around = around
level_in kinds.MaxParallel around = around
level_in kinds.Matrix around = around
level_in kinds.Values around = around
level_in kinds.Entries around = around
level_in kinds.Triggers around = around
level_in kinds.Event around = around
level_in kinds.Idle around = around
level_in kinds.LeftOut around = around
level_in kinds.Unknown around = around
