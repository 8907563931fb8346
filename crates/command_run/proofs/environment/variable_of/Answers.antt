use Rattle.std.proofs.Common.{◌∙◌}
use Rattle.command_run.proofs.Entries.{no_text_is_none, text_is_variable}
use Rattle.command_run.proofs.environment.variable_of.Goals as goal

pub returns-in-Ok : goal.returns-in-Ok
returns-in-Ok c = c.variable_in.ensures ∙ text_is_variable c.args.entry.now c.in-Ok.text.now c.in-Ok.ensures.cases.0 c.in-Ok.ensures.cases.1

pub returns-in-Err : goal.returns-in-Err
returns-in-Err c = no_text_is_none c.args.entry.now c.in-Err.ensures.cases.0
