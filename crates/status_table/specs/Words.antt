-- The words of boards and events, from one place.
unfoldable pub use Rattle.plan_values.specs.Words.{condition_read, condition_value, contexts_at, env_value, flag_value, laid_over, outputs_value, text_text}
pub use Rattle.plan_values.specs.Words.{Answer, Ascends, Board, CallWork, Context, Contexts, DoneStep, Each, Entry, Env, EnvHasItsNames, Event, Expr, ExprFault, Failure, FaultStands, Gives, Group, HasNoFault, HaveDistinctNames, IsExpression, IsKnownOf, IsPlan, Items, Job, JobPlan, JobState, Leg, LegState, LevelsStayInOrder, Map, Member, Members, NeedsPointBack, Node, OnlyMemory, Outcome, Path, Piece, Plain, Plan, Reply, Roots, Run, RunPlan, RunState, SameText, Shell, SoundJob, SoundPlan, SoundRun, Spells, StandsIn, Status, StepCall, StepPlan, Tree, ValueFault, Values, WaitsForSuccess, What, Work, Workflow, all_there, any_names_context, are_distinct, ascend_between, board_jobs, board_legs, context_name, each_pair, env_context, evaluated, exprs_of, fault_at, fault_name, fault_place, first_job, fold, greatest, group_rules, if_there, is_condition, is_exit_code, is_flag, is_id, is_job_output, is_line, is_output, is_pair, is_variable, is_well_formed, is_within, item, job_ids, job_rules, jobs_rules, json_of, json_read, keys_of, kind_of, known_env, legs_of_runs, legs_rules, lines_of, list, map, map_values, member, members_of, names_status, newline, no_items, no_members, null, onto_first, or_below, or_else, outcome_word, pairs_of, plan_jobs, plan_legs, roots_rules, rule, run_rules, runs_rules, steps_rules, template_of, text, text_of, truth, under, value_at, value_fault_name, value_of, view, viewed, views, whole, with_env, with_pair}
pub use Rattle.board_decisions.specs.Ancestors.{EachAncestor, IsAncestor, SaysOf, StandsAfterNeeds, need, of_need}
pub use Rattle.board_decisions.specs.Calls.{AreCallsOf, Tells, called_as}
pub use Rattle.board_decisions.specs.Contexts.{done_value, ended_legs, first_number, id_pair, job_beside, job_leg, job_of, job_sees, job_value, leg_of_job, matrix_shown, need_pair, need_shown, need_value, needed_job, object, overlaid, pairs_in, step_pair, steps_shown, strategy_shown, with_needs}
unfoldable pub use Rattle.board_decisions.specs.Contexts.{job_outputs, job_values, leg_values_by, matrix_value, needs_value, run_values, steps_value, strategy_value}
pub use Rattle.board_decisions.specs.Decisions.{Sight, call_if, directory_value, entrance, entrance_value, is_called, is_stopping, is_true, job_passes, job_variables_over, leg_result, leg_status, leg_variables, or_none, seen_from, set_over, sight, status_of, step_variables_over, stops_anyway, then_value}
unfoldable pub use Rattle.board_decisions.specs.Decisions.{flow_env, job_condition, job_env, job_tolerates, leg_entrance, leg_env, leg_outputs, leg_values, outputs_of_leg, run_entrance, step_call, step_decision, step_env, step_passes, step_tolerates, work_value}
pub use Rattle.board_decisions.specs.Derived.{all_succeed, ancestors_status, any_ancestor, has_failed, holds, holds_at, is_any_job_cancelled, is_any_job_failed, is_cancelled, is_closed, is_ended, is_failure, is_fresh, is_full, is_going, is_open, is_shut, is_success, is_under_way, is_untaken, job_has_ended, job_result, job_results, job_status, jobs_have_ended, leg_has_ended, legs_result, needs_at, needs_have_ended, places_needed, result_by, run_result, some_ancestor, status_by, was_cancelled}
pub use Rattle.board_decisions.specs.Numbered.{HasAsMany, IsNumberedIn, IsPlannedAt, JobsAreNumbered, LegsAreNumbered, job_there, leg_there, numbered_leg}
pub use Rattle.board_decisions.specs.Place.{JobAt, LegAt, RunAt, else_from, job_at, job_in_run, job_place, job_place_from, job_placed, leg_at, leg_in_jobs, leg_place, leg_place_from, run_at, ◌>>=◌}
pub use Rattle.board_decisions.specs.Places.{all_jobs_from, all_legs_from, job_places, leg_places, numbers, run_sizes, sizes}
pub use Rattle.board_decisions.specs.Scenes.{leg_scene}
pub use Rattle.board_decisions.specs.Seen.{job_seen, leg_seen, run_seen}
pub use Rattle.board_decisions.specs.declared.entrance.Entrance.{Entrance}
pub use Rattle.board_decisions.specs.declared.kept.Calls.{Calls}
pub use Rattle.board_decisions.specs.declared.place.JobPlace.{JobPlace}
pub use Rattle.board_decisions.specs.declared.place.LegPlace.{LegPlace}
pub use Rattle.group_admission.specs.Content.{Content, EachOnce, after_at, after_enter, after_release, after_withdraw, each_held, holder_of, is_in_group, released, same_member, waiter_of, with_held, withdrawn}
pub use Rattle.group_admission.specs.Known.{Known, content, is_known, put_known}
pub use Rattle.group_admission.specs.Laws.{Becomes, FirstHolds, NextDisplaces, NowhereIsNoGroup, OnceStays, OrderStays, OwnRunChangesNothing, ReleasesPassOn, WithdrawsLeaveHolders}
pub use Rattle.group_admission.specs.declared.held.Held.{Held}
pub use Rattle.plan_values.specs.declared.place.TextPlace.{TextPlace}
pub use Rattle.status_table.specs.Admissions.{asked, left, opened}
pub use Rattle.status_table.specs.Answers.{Answers, Refuses}
pub use Rattle.status_table.specs.Calls.{IfCall, IfCalled, call_after, call_from, called, open_call, then_call}
pub use Rattle.status_table.specs.Change.{changed, leg_changed, put, with_job, with_leg, with_numbered_leg, with_run}
pub use Rattle.status_table.specs.Ends.{EndOnce, times_ended}
pub use Rattle.status_table.specs.Fault.{event_fault_name, is_memory}
pub use Rattle.status_table.specs.Grouped.{EntersFromOutside, KeptAsShown, after_event, leg_asked, leg_left, run_left, run_opened}
pub use Rattle.status_table.specs.Groups.{Done, Standing, admitted, apart, cancelled, closed, displaced, dropped, enters, enters_held, first_place, holder, holding, is_named, is_own, leaves, leg_standing, leg_stands, moved, next_after, passed_on, queued, run_standing, run_stands, stop_told, stopped, told, waiter, waiting, waits, waits_name}
pub use Rattle.status_table.specs.InPlay.{InPlay}
pub use Rattle.status_table.specs.Kinds.{event_of, events_of}
pub use Rattle.status_table.specs.Lawful.{JobFits, Lawful, MembersFit, RunFits, goes_rightly, leg_stands_right}
pub use Rattle.status_table.specs.Members.{OneHolder, is_waiting, share_name, waiters}
pub use Rattle.status_table.specs.Moves.{accepts, clerk_events, finished, is_accepted, is_active, is_none_left, moves, stalled}
pub use Rattle.status_table.specs.Play.{Play}
pub use Rattle.status_table.specs.Reversible.{answer_of, done_of}
pub use Rattle.status_table.specs.Row.{Beginning, Row, answered_step, ask_found, begin_found, begin_leg, beginning, beginning_by, calling_owner, calls, cancel_found, close_found, close_run, close_waiting, conclusion_of, decided, drop_found, end_found, end_leg, ended_state, ending, ending_by, event_row, failed_step, failure_of, faults, finish_found, finish_leg, finishing, finishing_by, first_of, idle_owner, job_state_set, judge_found, judge_job, judged_state, judgement, judgement_by, leg_ended, leg_enters, leg_state_set, may_ask, may_drop, next_step, open_found, open_run, outcome_of, outputs_of, reply, row, run_closes, run_enters, set_by, skipped_step, skips, step_done, take_found, take_leg}
pub use Rattle.status_table.specs.Runs.{IsLegal, Plays, StopsAt, after, after_from, most_entries, new_board, new_job, new_leg, new_play, new_run, then_after}
pub use Rattle.status_table.specs.Seen.{leg_after, noted, put_out}
pub use Rattle.status_table.specs.Shape.{HasShape, JobShape, RunShape, has_room, open_calls}
pub use Rattle.status_table.specs.Stays.{JobStays, LegStays, RunStays, Stays}
pub use Rattle.status_table.specs.Unasked.{Leads, without_reply}
