use Rattle.std.proofs.Common.{arith}
use Rattle.expr_value.specs.Formatting.{is_plain, texts_of}
use Rattle.expr_value.proofs.Braces.{plain_front, plain_some, rest_shorter}
use Rattle.expr_value.proofs.format.plain_piece.Goals as goal

pub returns : goal.returns
returns c =
    let arguments = texts_of c.args.arguments.now in
    let text = c.args.text.now in
    let front = c.split_plain.result.0.now in
    let rest = c.split_plain.result.1.now in
    let some = plain_some text c.requires.some c.requires.no_opening c.requires.no_closing in
    let size = rest_shorter is_plain text rest c.split_plain.ensures.back in
    (plain_front arguments text front rest c.split_plain.ensures.front c.split_plain.ensures.back, omega arith)
