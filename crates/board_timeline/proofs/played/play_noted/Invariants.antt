use Rattle.std.proofs.Common.{◌≡◌, ◌≤◌, ◌+◌, ◌++◌, List, Some, take}
use Rattle.status_table.specs.Words.{Entry, after_from, most_entries, new_board}
use Rattle.board_timeline.specs.Played.{track_from}
use Rattle.board_timeline.proofs.played.play_noted.Given as goal

-- the plan is the one that was passed, the board the one after the entries so far, and the rows are those that were noted of them
abbrev pub invariant-loop-place : goal.invariant-loop-place
invariant-loop-place g l =
    let plan = g.T.Table.plan in
    let board = g.T.Table.board in
    record {
      same : plan l.table ≡ plan l.fn.table;
      played : after_from (plan l.fn.table) (board l.fn.table) (take l.place l.entries) ≡ Some (board l.table);
      noted : (rest : List Entry) → track_from (plan l.fn.table) l.plan (board l.table) (l.place + 2) l.track rest
          ≡ track_from (plan l.fn.table) l.plan (board l.fn.table) 2 l.fn.track (take l.place l.entries ++ rest);
      so_far : track_from (plan l.fn.table) l.plan (board l.fn.table) 2 l.fn.track (take l.place l.entries) ≡ Some l.track;
      few : board l.fn.table ≡ new_board (plan l.fn.table) → l.place ≤ most_entries;
    }
