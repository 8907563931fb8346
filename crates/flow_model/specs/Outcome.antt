-- The word of an outcome (GitHub Docs, contexts: `steps.<step_id>.outcome`).
use Rattle.std.specs.Prelude.{ℕ, List, codes}
use Rattle.flow_model.specs.declared.event.Outcome.{Outcome}
use Rattle.flow_model.specs.declared.event.Outcome.TheVariants.{Success, Failure, Cancelled, Skipped}

abbrev pub outcome_word : Outcome → List ℕ
outcome_word Success = codes "success"
outcome_word Failure = codes "failure"
outcome_word Cancelled = codes "cancelled"
outcome_word Skipped = codes "skipped"
