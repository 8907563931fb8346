-- The words that the proofs cite, from one place.
pub use Rattle.board_counters.specs.Counters.{tally_of}
pub use Rattle.board_counters.specs.Standing.{is_unjudged, run_tally, standing_of}
pub use Rattle.board_counters.specs.Stopping.{legs_of_jobs, run_legs, told_of}
pub use Rattle.board_counters.specs.Track.{play_of}
pub use Rattle.board_decisions.specs.Kept.{IsKeptOf}
pub use Rattle.flat_board.specs.Events.{Answered, Led, Moved, MovedBy, Turned}
pub use Rattle.flat_board.specs.Idle.{is_all_judged, is_none_stopping, is_run_idle}
pub use Rattle.flat_board.specs.Index.{AsksNamed, EntersNamed, Follows, FollowsUnasked, Goes, Keeps, entered, most_changes}
pub use Rattle.flat_board.specs.Names.{IsGroup, IsName, IsNamed, IsNamedIn, NamesKnown, Seen, SeenNamed, group_at, group_of, is_new, leg_names, run_names, seen_at}
pub use Rattle.flat_board.specs.Sound.{IsSound}
pub use Rattle.flat_board.specs.Stands.{StandsOnlyThere, standing_by}
pub use Rattle.flat_board.specs.Undo.{Fits, IsAt, Leaves, NameChanged, RestoresGroups, board_before, cell_of, groups_put_back, name_put_back}
pub use Rattle.flat_board.specs.declared.grouped_board.GroupedBoard.{GroupedBoard}
pub use Rattle.flat_board.specs.declared.groups.Stand.{Stand}
pub use Rattle.flat_board.specs.declared.undo.CellBack.{CellBack}
pub use Rattle.flat_board.specs.declared.undo.Undo.{Undo}
pub use Rattle.flow_model.specs.Plain.{coded_plain}
pub use Rattle.status_table.specs.Answers.{Decides}
pub use Rattle.status_table.specs.Row.{begin_row}
pub use Rattle.status_table.specs.Words.{Answer, Answers, Ascends, Beginning, Board, Content, Contexts, Done, DoneStep, EachOnce, Entrance, Entry, Event, Gives, Group, Held, InPlay, IsPlan, Job, JobAt, JobPlace, JobState, KeptAsShown, Known, Leads, Leg, LegAt, LegPlace, LegState, Member, Outcome, Plan, Play, Plays, Reply, Row, Run, RunAt, RunState, SoundPlan, Standing, StandsAfterNeeds, Status, Stays, TextPlace, ValueFault, accepts, admitted, after_at, after_enter, after_event, after_release, after_withdraw, answer_of, apart, ask_found, asked, begin_found, begin_leg, beginning, board_jobs, board_legs, calls, cancel_found, cancelled, changed, clerk_events, close_found, close_run, close_waiting, closed, content, displaced, done_of, drop_found, dropped, else_from, end_found, end_leg, ended_state, ending, enters, enters_held, entrance, entrance_value, event_of, event_row, events_of, failed_step, faults, finish_found, finish_leg, finishing_by, first_of, fold, has_failed, holder, holder_of, holding, idle_owner, is_accepted, is_closed, is_ended, is_fresh, is_full, is_going, is_in_group, is_known, is_open, is_own, is_stopping, is_under_way, is_untaken, job_at, job_place, job_place_from, job_seen, job_state_set, job_status, jobs_have_ended, judge_found, judge_job, judged_state, judgement, judgement_by, leaves, left, leg_after, leg_asked, leg_at, leg_changed, leg_ended, leg_enters, leg_in_jobs, leg_left, leg_place, leg_place_from, leg_result, leg_seen, leg_standing, leg_stands, leg_state_set, leg_there, may_ask, may_drop, moved, needs_have_ended, new_board, new_job, new_leg, new_play, new_run, next_after, noted, numbers, open_found, open_run, opened, passed_on, plan_jobs, plan_legs, put_known, put_out, queued, released, row, run_at, run_closes, run_enters, run_left, run_opened, run_result, run_seen, run_standing, run_stands, same_member, seen_from, skipped_step, skips, step_done, stopped, stops_anyway, take_found, take_leg, then_value, value_at, waiter, waiter_of, waiting, waits, with_env, with_leg, with_numbered_leg, with_pair, with_run, withdrawn, without_reply, ◌>>=◌}
unfoldable pub use Rattle.status_table.specs.Words.{contexts_at, flag_value, job_condition, leg_entrance, leg_outputs, run_entrance, run_values, text_text}
pub use Rattle.status_table.specs.declared.fault.EventFault.{EventFault}
pub use Rattle.status_table.specs.declared.moves.MoveKind.{MoveKind}
pub use Rattle.std.specs.Char.{to_ascii_lowercase}
pub use Rattle.std.specs.Coded.{codes}
pub use Rattle.std.specs.List.{flat_map, list_any}
pub use Rattle.std.specs.Option.{option_and_then, option_map}
