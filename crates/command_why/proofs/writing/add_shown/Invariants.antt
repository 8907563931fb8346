use Rattle.std.proofs.Common.{◌≡◌, ◌++◌, take}
use Rattle.command_why.specs.Names.{shown}
use Rattle.command_why.proofs.writing.add_shown.Given as goal

abbrev pub invariant-loop-byte : goal.invariant-loop-byte
invariant-loop-byte l = l.out.items ≡ l.initial.out.items ++ shown (take l.byte-index l.bytes)
