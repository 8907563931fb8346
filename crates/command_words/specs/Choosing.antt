-- The choice that words make of workflows.
use Rattle.std.specs.Prelude.{◌≡◌, ℕ, List, Option, Some, None, Result, Ok, Err}
use Rattle.plan_assembler.specs.declared.choice.Choice.{Choice}
use Rattle.plan_assembler.specs.declared.choice.Choice.TheVariants.{Event, Job, All}
use Rattle.command_io.specs.declared.error.CommandError.{CommandError}
use Rattle.command_io.specs.declared.error.CommandError.TheVariants.{Words, Memory}

-- That is found; want of memory may be answered besides.
abbrev pub FindsIt : {A : Type 0} → A → Result A CommandError → Type 0
FindsIt it (Ok found) = found ≡ it
FindsIt it (Err error) = error ≡ Memory

-- The choice that the words of two options make: the workflows of an event, those with a job, or all. Both at once are
-- refused.
abbrev pub Chooses : Option (List ℕ) → Option (List ℕ) → Result Choice CommandError → Type 0
Chooses None None result = result ≡ Ok All
Chooses (Some event) None result = FindsIt (Event event) result
Chooses None (Some job) result = FindsIt (Job job) result
Chooses (Some event) (Some job) result = result ≡ Err Words
