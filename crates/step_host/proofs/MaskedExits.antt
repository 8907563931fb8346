-- What is told of the masked form of an exit.
use Rattle.std.proofs.Common.{◌≡◌, ℤ, List, Result, Ok, Err}
use Rattle.status_table.specs.Words.{Answer}
use Rattle.flow_commands.specs.PairFiles.{Pair}
use Rattle.flow_model.specs.declared.event.Answer.TheVariants.{Exit, BadOutput}
use Rattle.step_host.specs.Masked.{TellsMasked}
use Rattle.step_host.specs.declared.watch.Refusal.{Refusal}

-- an exit is not bad output, whatever it gives
pub told_of_exit : (code : ℤ) (outputs env outputs' env' : List Pair) (made : Result Answer Refusal) → TellsMasked (Exit code outputs env) made
    → TellsMasked (Exit code outputs' env') made
told_of_exit code outputs env outputs' env' (Ok made) told = λ bad. let no : Exit code outputs env ≡ BadOutput = told bad in absurd (cc)
told_of_exit code outputs env outputs' env' (Err why) told = (told.0, λ (bad : Exit code outputs' env' ≡ BadOutput). absurd (cc))
