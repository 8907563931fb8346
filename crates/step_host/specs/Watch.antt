-- What somebody is told of who watches.
use Rattle.std.specs.Prelude.{Result, Ok, Err}
use Rattle.status_table.specs.Words.{Answer}
use Rattle.flow_model.specs.declared.event.Answer.TheVariants.{BadOutput}
use Rattle.step_host.specs.declared.watch.Refusal.{Refusal}

-- the answer to a call: bad output, where a reason is told
abbrev pub given : Result Answer Refusal → Answer
given (Ok answer) = answer
given (Err why) = BadOutput
