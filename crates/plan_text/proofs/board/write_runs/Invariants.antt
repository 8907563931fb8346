use Rattle.std.proofs.Common.{◌≡◌, ◌++◌, string_bytes, drop}
use Rattle.plan_text.specs.BoardText.{runs_text}
use Rattle.plan_text.proofs.board.write_runs.Given as goal

abbrev pub invariant-loop-place : goal.invariant-loop-place
invariant-loop-place l =
    string_bytes l.text ++ runs_text l.place l.next.0 l.next.1 (drop l.place l.runs) ≡ string_bytes l.initial.text ++ runs_text 0 0 0 l.runs
