-- The line is compared piece by piece.
use Rattle.std.proofs.Common.{◌≡◌, ◌++◌, Some, sym, ap, ◌∙◌, codes}
use Rattle.flow_commands.specs.Splits.{after_front, from_text}
use Rattle.flow_commands.proofs.Commanding.{resumes_at, resumes_not}
use Rattle.flow_commands.proofs.command_lines.is_resuming.Goals as goal

pub returns-in-Some-after_front : goal.returns-in-Some-after_front
returns-in-Some-after_front c =
    let colons : after_front (codes "::") (from_text c.args.line.now) ≡ Some c.in-Some.text.now =
    ap (after_front (codes "::")) (sym c.from_text.ensures) ∙ sym c.in-Some.ensures in
    c.eq.ensures ∙ sym (resumes_at c.args.word.now c.in-Some.text.now (codes "::") c.in-Some-after_front.rest.now (sym c.in-Some-after_front.ensures))
    ∙ sym (resumes_at (codes "::") (from_text c.args.line.now) (c.args.word.now ++ codes "::") c.in-Some.text.now colons)

pub returns-in-None : goal.returns-in-None
returns-in-None c =
    let colons : after_front (codes "::") (from_text c.args.line.now) ≡ Some c.in-Some.text.now =
    ap (after_front (codes "::")) (sym c.from_text.ensures) ∙ sym c.in-Some.ensures in
    sym (resumes_not c.args.word.now c.in-Some.text.now (codes "::") (sym c.in-None.ensures))
    ∙ sym (resumes_at (codes "::") (from_text c.args.line.now) (c.args.word.now ++ codes "::") c.in-Some.text.now colons)
