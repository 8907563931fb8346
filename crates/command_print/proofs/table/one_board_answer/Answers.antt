use Rattle.std.proofs.Common.{sym, ◌∙◌}
use Rattle.command_print.proofs.BoardAnswers.{answer_back, board_answer}
use Rattle.command_print.specs.Play.{table_text}
use Rattle.command_print.proofs.table.one_board_answer.Goals as goal

pub returns-clause-some : goal.returns-clause-some
returns-clause-some c = λ text. (table_text text, board_answer text)

pub returns-clause-one : goal.returns-clause-one
returns-clause-one c = λ text a b is other. sym (answer_back text a is) ∙ answer_back text b other
