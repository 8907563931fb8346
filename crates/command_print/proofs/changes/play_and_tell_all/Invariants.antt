use Rattle.std.proofs.Common.{◌≡◌, ◌≤◌, Some, take, string_bytes}
use Rattle.status_table.specs.Words.{after, most_entries}
use Rattle.command_print.specs.Changes.{TellsPlaces}
use Rattle.command_print.specs.Touched.{IsIndexOf}
use Rattle.command_print.proofs.changes.play_and_tell_all.Given as goal

-- both boards are those after the entries so far, of one plan, and all places up to there are told
abbrev pub invariant-loop-place : goal.invariant-loop-place
invariant-loop-place g l =
    let plan = g.T.Table.plan in
    let board = g.T.Table.board in
    record {
      same : plan l.board ≡ plan l.fn.board;
      plans : plan l.before ≡ plan l.board;
      boards : board l.before ≡ board l.board;
      played : after (plan l.fn.board) (take l.place l.entries) ≡ Some (board l.board);
      told : TellsPlaces (plan l.fn.board) l.entries l.place (string_bytes l.text);
      few : l.place ≤ most_entries;
      index : IsIndexOf l.index (board l.board);
    }
