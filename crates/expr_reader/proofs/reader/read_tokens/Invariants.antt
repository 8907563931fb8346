-- What is left to read gives what the whole text gives.
use Rattle.std.proofs.Common.{length}
use denote.Shadow.{shadow}
use denote.Text.{Utf8}
use Rattle.expr_reader.specs.Stack.{state_of}
use Rattle.expr_reader.proofs.Loop.{IsReading}
use Rattle.expr_reader.proofs.reader.read_tokens.Given as goal

abbrev pub invariant-tokens : goal.invariant-tokens
invariant-tokens l = IsReading l.text l.rest (state_of l.machine) × shadow (Utf8 l.rest)

abbrev pub decreases-tokens : goal.decreases-tokens
decreases-tokens l = length l.rest
