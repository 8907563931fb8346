-- Runs in which nothing may happen that a clerk reports.
use Rattle.std.specs.Prelude.{◌==◌, ◌&&◌, ◌||◌, Bool, false, not}
use Rattle.status_table.specs.Words.{Run, is_going}
use Rattle.board_counters.specs.Standing.{run_tally}
use Rattle.board_counters.specs.Stopping.{run_legs}
use Rattle.status_table.specs.declared.moves.MoveKind.{MoveKind}

-- whether no job of a run may be judged: it is not Going, or each was judged
abbrev pub is_all_judged : Run → Bool
is_all_judged run = not (is_going run.state) || ((run_tally run).unjudged == 0)

-- whether no leg of a run that is Going is to stop and has no worker: neither the run nor a leg of it was told to, and in no
-- job that is Open has a leg failed while another has not ended
abbrev pub is_none_stopping : Run → Bool
is_none_stopping run = not run.stop && ((run_legs run).told == 0 && ((run_tally run).dropping == 0))

-- Whether an event of a kind is refused to each leg of a run: it is not Going; or, to be dropped, none is to stop; or, to ask, none
-- is Fresh of a job that is Open.
abbrev pub is_run_idle : MoveKind → Run → Bool
is_run_idle MoveKind.Close run = false
is_run_idle MoveKind.Open run = false
is_run_idle MoveKind.Judge run = false
is_run_idle MoveKind.Drop run = not (is_going run.state) || is_none_stopping run
is_run_idle MoveKind.Ask run = not (is_going run.state) || ((run_tally run).asking == 0)
