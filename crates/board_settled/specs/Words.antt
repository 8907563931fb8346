-- The words that the proofs cite, from one place.
pub use Rattle.board_settled.specs.Agrees.{Agrees, FinishesAsSettled, IsSettled, JobAgrees, JobIsSettled, LegAgrees, LegIsSettled, OnlyEndsDiffer, PlaysAsSettled, RunAgrees, RunIsSettled}
pub use Rattle.board_settled.specs.Alone.{ByAnswers, EndsAs, IsAlone, IsIdle, IsOpened, SeesSettled, StepsCome, leg_on, next_comes, planned, step_comes}
pub use Rattle.board_settled.specs.CallLaws.{AskedInOrder, CallInOrder, CallsAreInOrder, CallsAreMostSpecific, JobInOrder, MostSpecificIsGiven, PlanInOrder, RunInOrder, SetInOrder, StepInOrder, WorkInOrder, last_set}
pub use Rattle.board_settled.specs.Contexts.{IsDone, IsNeeded, LastLegWins, NeedsAreDirect, StepsAreDone, last_giving}
pub use Rattle.board_settled.specs.DecisionLaws.{CallsNothing, Concludes, HasFailedStep, IsPassedOver, NamesNoStatus, NoCallAfterFailure, OnlyFailuresArePassedOver}
pub use Rattle.board_settled.specs.Free.{IsFree, JobIsFree}
pub use Rattle.board_settled.specs.Grouped.{groups_after, groups_from, then_groups}
pub use Rattle.board_settled.specs.Groups.{NamesAreFolded, OneHolderWhateverTheCase}
pub use Rattle.board_settled.specs.Histories.{IsAnswered, LeadsTo}
pub use Rattle.board_settled.specs.Quiet.{ended_in_order, has_ended_at, quiet_run}
pub use Rattle.board_settled.specs.Records.{TellsSettled, listed, recorded_answers}
pub use Rattle.board_settled.specs.Runs.{IsJobOf, IsQuiet, RunComes, RunStands}
pub use Rattle.board_settled.specs.Sees.{Spot}
unfoldable pub use Rattle.board_settled.specs.Sees.{leg_sees}
pub use Rattle.board_settled.specs.Settled.{Answers, Finish, SettledJob, SettledLeg, SettledRun, all_given, answered, concludes, counts, ends_so, failure_counts, fails, first_in_run, given_by, has_result, jobs_come_to, jobs_from, judged, leg_after, leg_count, legs_come_to, legs_from, legs_settled, need_at, needs_given, opened, outputs_of_job, result_of, result_passes, run_after, runs_from, shut, spot_at, status_after, step_by, steps_from, steps_then, unsettled, worst}
unfoldable pub use Rattle.board_settled.specs.Settled.{condition_after, finish_of, job_settled, leg_settled, needs_of, next_call, next_done, run_settled, seen_after, settled}
pub use Rattle.board_settled.specs.Variables.{LastToSetWins, NothingSetIsTheJobs}
pub use Rattle.expr_value.specs.Functions.{is_success}
pub use Rattle.flat_board.specs.Index.{AsksNamed}
pub use Rattle.flow_model.specs.Laws.{RulesHold}
pub use Rattle.group_admission.specs.Content.{is_own}
pub use Rattle.status_table.specs.Admissions.{AsksAsEntered, ClosesAsLeft, DropsAsLeft, FinishesAsLeft, OpensAsEntered, StaysShown}
pub use Rattle.status_table.specs.Words.{Answer, Ascends, Beginning, Board, CallWork, Content, Context, Contexts, DoneStep, Each, EndOnce, EntersFromOutside, Entrance, Entry, Env, EnvHasItsNames, Event, HasShape, HaveDistinctNames, Held, IfCalled, InPlay, IsPlan, Job, JobAt, JobFits, JobPlace, JobPlan, JobShape, JobState, KeptAsShown, Lawful, Leg, LegAt, LegPlace, LegState, LevelsStayInOrder, Member, NeedsPointBack, Outcome, Plain, Plan, Reply, Row, Run, RunAt, RunFits, RunPlan, RunShape, RunState, RunStays, SaysOf, Sight, Standing, StandsAfterNeeds, Status, Stays, StepCall, StepPlan, TextPlace, ValueFault, Values, WaitsForSuccess, What, Work, admitted, after, after_at, after_enter, after_event, after_from, ancestors_status, answered_step, any_ancestor, apart, asked, begin_found, begin_leg, beginning, beginning_by, board_legs, call_after, call_from, call_if, calling_owner, calls, changed, closed, conclusion_of, decided, directory_value, done_value, dropped, each_held, else_from, end_found, end_leg, ended_legs, ending_by, event_row, failed_step, failure_of, faults, finished, first_job, first_number, first_of, fold, goes_rightly, has_failed, has_room, holding, holds, holds_at, id_pair, idle_owner, is_cancelled, is_closed, is_ended, is_failure, is_fresh, is_full, is_going, is_open, is_shut, is_stopping, is_under_way, is_untaken, is_well_formed, job_at, job_beside, job_has_ended, job_leg, job_of, job_passes, job_result, job_results, job_seen, job_sees, job_status, jobs_have_ended, judged_state, leaves, left, leg_asked, leg_at, leg_has_ended, leg_in_jobs, leg_left, leg_of_job, leg_place, leg_place_from, leg_result, leg_seen, leg_standing, leg_status, leg_there, leg_variables, moved, need_pair, need_value, needed_job, needs_at, needs_have_ended, new_board, new_job, new_leg, new_run, next_step, numbered_leg, numbers, object, open_calls, or_below, or_none, outcome_of, outputs_of, overlaid, places_needed, released, result_by, row, run_at, run_left, run_opened, run_result, run_seen, run_standing, run_stands, seen_from, set_by, set_over, sight, skipped_step, skips, some_ancestor, status_by, status_of, step_pair, then_after, then_call, then_value, times_ended, value_at, waiting, was_cancelled, with_env, with_held, with_leg, with_pair, withdrawn, ◌>>=◌}
unfoldable pub use Rattle.status_table.specs.Words.{condition_value, contexts_at, env_value, flow_env, job_condition, job_env, job_outputs, job_tolerates, job_values, laid_over, leg_entrance, leg_env, leg_outputs, leg_values, leg_values_by, matrix_value, needs_value, outputs_of_leg, outputs_value, run_entrance, run_values, step_call, step_decision, step_env, step_passes, step_tolerates, steps_value, strategy_value, text_text, work_value}
pub use Rattle.status_table.specs.declared.fault.EventFault.{EventFault}
pub use Rattle.std.specs.Cmp.Lexicographic.{slice_cmp}
pub use Rattle.std.specs.List.{AllByRecursion, AllZip, cons_option, filter, filter_map, flat_map, list_all, list_any, slice_get, zip}
pub use Rattle.std.specs.Ordering.{is_eq, match_ordering, nat_cmp}
pub use Rattle.step_host.specs.Entries.{IsKept, kept_one}
pub use Rattle.step_host.specs.Replay.{IsRecorded, IsRefusedAt, recorded}
pub use Rattle.step_host.specs.Script.{IsListed, Line}
