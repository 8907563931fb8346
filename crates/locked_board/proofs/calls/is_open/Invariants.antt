use Rattle.std.proofs.Common.{◌≡◌, drop}
use Rattle.locked_board.specs.OpenCalls.{call_of}
use Rattle.locked_board.proofs.calls.is_open.Given as goal

-- the call of the leg is among the rest
abbrev pub invariant-loop-open : goal.invariant-loop-open
invariant-loop-open l = call_of l.call.leg (drop l.open-index l.calls) ≡ call_of l.call.leg l.calls
