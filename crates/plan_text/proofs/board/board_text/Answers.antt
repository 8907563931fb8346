use Rattle.std.proofs.Common.{◌≡◌, string_bytes, rules}
use Rattle.plan_text.specs.BoardText.{board_text}
use Rattle.plan_text.proofs.BoardLaws.{board-numbers}
use Rattle.plan_text.proofs.board.board_text.Goals as goal

pub returns-clause-numbers : goal.returns-clause-numbers
returns-clause-numbers c =
    let text = string_bytes c.write_ends.new.text in
    let is : text ≡ board_text c.args.board.now = search rules in
    board-numbers c.args.board.now text is
