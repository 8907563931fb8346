use Rattle.std.proofs.Common.{◌≡◌, ◌++◌, IsUtf8, string_bytes}
use Rattle.std.specs.Str.Iter.{chars_rest}
use Rattle.command_io.specs.Pictures.{shown}
use Rattle.command_print.proofs.shown.add_shown.Given as goal

-- what was added, and what is left to be shown
abbrev pub invariant-loop-c : goal.invariant-loop-c
invariant-loop-c l = IsUtf8 (chars_rest l.c-iterator)
    × (string_bytes l.text ++ shown (chars_rest l.c-iterator) ≡ string_bytes l.initial.text ++ shown l.words)
