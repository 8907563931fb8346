use Rattle.std.proofs.Common.{ap, ◌∙◌}
use Rattle.command_print.proofs.Linted.{told_lines}
use Rattle.command_print.specs.Lint.{lint_status, lint_text}
use Rattle.command_print.proofs.lint.answer.Goals as goal

pub returns : goal.returns
returns c =
    let is = ap (λ bytes. bytes.items) c.into_bytes.ensures.value ∙ c.in_ok-text.ensures ∙ ap lint_text c.as_slice.ensures in
    record {
      tolds = _;
      told = c.in_ok-tolds.ensures;
      is_text = is;
      lines = told_lines _ _ _ c.in_ok-tolds.ensures is;
      is_status = c.status_of.ensures ∙ ap lint_status c.as_slice-2.ensures;
    }
