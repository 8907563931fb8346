use Rattle.std.proofs.Common.{◌≡◌, ◌++◌, drop}
use Rattle.command_why.specs.Names.{first_line, shown}
use Rattle.command_why.proofs.writing.add_first_line.Given as goal

abbrev pub invariant-loop-byte : goal.invariant-loop-byte
invariant-loop-byte l =
    l.out.items ++ shown (first_line (drop l.byte-index l.bytes)) ≡ l.initial.out.items ++ shown (first_line l.bytes)
