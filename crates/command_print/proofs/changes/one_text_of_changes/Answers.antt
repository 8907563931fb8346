use Rattle.command_print.proofs.OneTelling.{one_text}
use Rattle.command_print.proofs.SomeTelling.{some_answer}
use Rattle.command_print.proofs.changes.one_text_of_changes.Goals as goal

pub returns-clause-some : goal.returns-clause-some
returns-clause-some c = some_answer

pub returns-clause-one : goal.returns-clause-one
returns-clause-one c = one_text
