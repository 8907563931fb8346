use Rattle.std.proofs.Common.{IsTrue, take}
use Rattle.status_table.specs.Words.{is_line}
use Rattle.command_io.proofs.stream.line_length.Given as goal

-- no newline so far
abbrev pub invariant-loop-length : goal.invariant-loop-length
invariant-loop-length l = IsTrue (is_line (take l.length l.bytes))
