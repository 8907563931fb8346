use Rattle.std.proofs.Common.{◌≡◌, ◌++◌, ℕ, List, IsUtf8}
use Rattle.std.specs.Str.Iter.{chars_rest}
use Rattle.command_io.specs.Pictures.{shown}
use Rattle.command_io.specs.Stream.{IsWritten}
use Rattle.command_io.proofs.pictured.put_shown.Given as goal

-- what was written, and what is left to be shown
abbrev pub invariant-loop-c : goal.invariant-loop-c
invariant-loop-c g l = IsUtf8 (chars_rest l.c-iterator) × (done : List ℕ) × (done ++ shown (chars_rest l.c-iterator) ≡ shown l.text)
    × IsWritten (g.S.Sink.seen l.fn.sink) (g.S.Sink.seen l.sink) done
