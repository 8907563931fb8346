use Rattle.std.proofs.Common.{◌≡◌, ◌+◌, ◌<◌, ◌≤◌, ◌∙◌, ap, arith, map, length}
use Rattle.std.proofs.lemmas.Bool.Decides.{nat_tests}
use Rattle.std.specs.List.{prefix_len}
use Rattle.expr_reader.specs.Bytes.{is_digit}
use Rattle.expr_reader.specs.Number.{digits_value}
use Rattle.expr_value.specs.Format.{formatted, numbered}
use Rattle.expr_value.specs.Formatting.{texts_of}
use Rattle.expr_value.specs.Seen.{kind_seen, item_seen}
use Rattle.expr_value.proofs.Braces.{opened_digits, opened_none, digits_pass, numbered_none, argument_found, argument_missing, rest_shorter}
use Rattle.expr_value.proofs.Runs.{spans}
use Rattle.expr_value.proofs.format.argument_piece.Goals as goal

pub returns-then-is_empty : goal.returns-then-is_empty
returns-then-is_empty c =
    let text = c.args.text.now in
    let size : length c.split_digits.result.0.now ≡ prefix_len is_digit text = ap length c.split_digits.ensures.front ∙ (spans is_digit text).size in
    let none : prefix_len is_digit text ≡ 0 = grind (arith, nat_tests) in
    opened_none (texts_of c.args.arguments.now) text c.requires none

pub returns-in_default : goal.returns-in_default
returns-in_default c =
    let arguments = texts_of c.args.arguments.now in
    let text = c.args.text.now in
    let digits = c.split_digits.result.0.now in
    let rest = c.split_digits.result.1.now in
    let some : 0 < length digits = grind (arith, nat_tests) in
    let stops : prefix_len is_digit rest ≡ 0 = ap (prefix_len is_digit) c.split_digits.ensures.back ∙ (spans is_digit text).stops in
    opened_digits arguments text digits rest c.split_digits.ensures.front c.split_digits.ensures.back some ∙ numbered_none arguments (digits_value 10 0 digits) rest c.in_default.ensures stops

pub argument_at-requires-clause-digits : goal.argument_at-requires-clause-digits
argument_at-requires-clause-digits c = digits_pass c.args.text.now c.split_digits.result.0.now c.split_digits.ensures.front

pub returns-in_default-argument_at : goal.returns-in_default-argument_at
returns-in_default-argument_at c =
    let arguments = texts_of c.args.arguments.now in
    let text = c.args.text.now in
    let digits = c.split_digits.result.0.now in
    let rest = c.split_digits.result.1.now in
    let after = c.in-Some.after.now in
    let some : 0 < length digits = grind (arith, nat_tests) in
    opened_digits arguments text digits rest c.split_digits.ensures.front c.split_digits.ensures.back some
    ∙ ap (numbered arguments (digits_value 10 0 digits)) c.in-Some.ensures
    ∙ argument_missing (map item_seen c.args.arguments.now) (digits_value 10 0 digits) (formatted arguments after) c.in_default-argument_at.ensures

pub returns : goal.returns
returns c =
    let arguments = texts_of c.args.arguments.now in
    let text = c.args.text.now in
    let digits = c.split_digits.result.0.now in
    let rest = c.split_digits.result.1.now in
    let after = c.in-Some.after.now in
    let some : 0 < length digits = grind (arith, nat_tests) in
    let shorter : length rest ≤ length text = omega (arith, rest_shorter is_digit text rest c.split_digits.ensures.back) in
    let longer : length rest ≡ 1 + length after = ap length c.in-Some.ensures ∙ omega arith in
    let meaning = opened_digits arguments text digits rest c.split_digits.ensures.front c.split_digits.ensures.back some
    ∙ ap (numbered arguments (digits_value 10 0 digits)) c.in-Some.ensures
    ∙ argument_found (map item_seen c.args.arguments.now) (digits_value 10 0 digits) (kind_seen c.in-Some-argument_at.kind) (formatted arguments after) c.in-Some-argument_at.ensures in
    (meaning, omega arith)
