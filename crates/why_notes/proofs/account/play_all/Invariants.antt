use Rattle.std.proofs.Common.{◌≡◌, ◌+◌, Some, drop, take}
use Rattle.status_table.specs.Words.{after_from}
use Rattle.why_notes.proofs.account.play_all.Given as goal
use Rattle.why_notes.specs.Account.{account_from}

abbrev pub invariant-loop-place : goal.invariant-loop-place
invariant-loop-place l = record {
  same : l.table.plan ≡ l.plan;
  left : account_from (l.place + 2) l.plan l.table.board l.notes (drop l.place l.entries)
      ≡ account_from 2 l.plan l.initial.table.board l.initial.notes l.entries;
  played : after_from l.plan l.initial.table.board (take l.place l.entries) ≡ Some l.table.board;
}
