use Rattle.std.proofs.Common.{◌≡◌, ◌≤◌, drop, min}
use Rattle.std.specs.Str.Parse.{AllDigits, digits_value, digits_value_after}
use Rattle.command_debug.specs.Requests.{greatest}
use Rattle.command_debug.proofs.requests.number_of.Given as goal

-- what is left are digits where all are, and goes on to the number of all
abbrev pub invariant-loop-byte : goal.invariant-loop-byte
invariant-loop-byte l = record {
  all : AllDigits 10 (drop l.byte-index l.digits) → AllDigits 10 l.digits;
  left : AllDigits 10 l.digits → AllDigits 10 (drop l.byte-index l.digits);
  value : min (digits_value_after 10 l.number (drop l.byte-index l.digits)) greatest ≡ min (digits_value 10 l.digits) greatest;
  bounded : l.number ≤ greatest;
}
