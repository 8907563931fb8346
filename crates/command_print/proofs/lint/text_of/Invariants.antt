use Rattle.std.proofs.Common.{◌≡◌, string_bytes, take}
use Rattle.command_print.specs.Lint.{lint_text}
use Rattle.command_print.proofs.lint.text_of.Given as goal

-- the lines of the files so far
abbrev pub invariant-loop-told : goal.invariant-loop-told
invariant-loop-told l = string_bytes l.text ≡ lint_text (take l.told-index l.tolds)
