-- The words that the proofs cite, from one place.
pub use Rattle.board_counters.specs.Changes.{CameTo, LegRecounted, front, job_of, job_state_of, job_state_there, leg_before, leg_was, needs_turned, resettled, retallied, run_after, run_before, run_was, standing_counted, state_in, state_of, state_there, step_taken, stop_in}
pub use Rattle.board_counters.specs.Counted.{IsCounted}
pub use Rattle.board_counters.specs.Counters.{counted, counts, first_number, is_settled, moved, need_of, need_turned, needs_none, needs_of, needs_there, open_among, run_needs, settled_jobs, tallies_of, tally_of, tally_there, turned}
pub use Rattle.board_counters.specs.Dependents.{all_dependents, all_noted, dependents_at, dependents_each, dependents_from, dependents_of, noted, or_nobody, times_named}
pub use Rattle.board_counters.specs.Failing.{any_failed, failing_at, failing_noted, failing_of, failing_set, failing_taken, job_failing, leg_failed, leg_failing, or_false, run_failing}
pub use Rattle.board_counters.specs.Lasting.{IsLasting, TellsJobs, TellsRuns, TellsSteps, calls_at, or_unknown}
pub use Rattle.board_counters.specs.Standing.{counted_jobs, counts_job, no_standing, result_with, run_moved, run_tally, run_tally_there, standing_by, standing_given, standing_of, standing_read, tally_result, told_result}
pub use Rattle.board_counters.specs.Stopping.{is_told, legs_of_jobs, run_legs, run_legs_there, told_of, told_turned, untold_legs}
pub use Rattle.board_counters.specs.Track.{Track, play_of}
pub use Rattle.board_counters.specs.Undo.{board_before, only_before, undone}
pub use Rattle.board_counters.specs.declared.change.RunChange.{RunChange}
pub use Rattle.board_counters.specs.declared.counts.Counts.{Counts}
pub use Rattle.board_counters.specs.declared.lasting.Lasting.{Lasting}
pub use Rattle.board_counters.specs.declared.need.Need.{Need}
pub use Rattle.board_counters.specs.declared.standing.JobCounter.{JobCounter}
pub use Rattle.board_counters.specs.declared.standing.JobStanding.{JobStanding}
pub use Rattle.board_counters.specs.declared.standing.RunTally.{RunTally}
pub use Rattle.board_counters.specs.declared.stopping.RunLegs.{RunLegs}
pub use Rattle.board_counters.specs.declared.tally.Counter.{Counter}
pub use Rattle.board_counters.specs.declared.tally.Tally.{Tally}
pub use Rattle.board_counters.specs.declared.undo.Change.{Change}
pub use Rattle.flow_model.specs.Plain.{coded_plain}
pub use Rattle.smallvec.specs.SmallVec.{HasRoomFor, small_vec_len}
pub use Rattle.status_table.specs.Words.{AreCallsOf, Board, Calls, DoneStep, InPlay, IsPlan, Job, JobAt, JobPlace, JobPlan, JobState, Leg, LegPlace, LegState, NeedsPointBack, Outcome, Plan, Play, Run, RunPlan, RunState, SoundPlan, StepPlan, Tells, all_jobs_from, all_legs_from, all_succeed, called_as, changed, first_job, first_of, has_failed, holds, holds_at, is_called, is_cancelled, is_closed, is_ended, is_failure, is_going, is_shut, is_success, job_at, job_has_ended, job_place, job_result, job_state_set, job_there, jobs_have_ended, leg_after, leg_place, leg_result, leg_state_set, leg_there, legs_result, needs_have_ended, new_board, new_job, new_leg, new_play, new_run, put, result_by, run_result, run_sizes, sizes, step_done, was_cancelled, with_job, with_leg, with_run, ◌>>=◌}
unfoldable pub use Rattle.status_table.specs.Words.{step_decision}
pub use Rattle.status_table.specs.declared.change.LegChange.{LegChange}
pub use Rattle.std.specs.Coded.{codes}
pub use Rattle.std.specs.List.{AllZip, list_all, list_any}
pub use Rattle.std.specs.Option.{option_copied}
