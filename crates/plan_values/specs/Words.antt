-- The words of plans, boards and values, from one place.
unfoldable pub use Rattle.expr_reader.specs.Accepts.{condition_read}
pub use Rattle.expr_reader.specs.Expr.{Expr, exprs_of}
pub use Rattle.expr_reader.specs.Faults.{FaultStands, OnlyMemory, StandsIn, fault_at, fault_name, fault_place}
pub use Rattle.expr_reader.specs.Fold.{SameText, fold}
pub use Rattle.expr_reader.specs.Names.{context_name}
pub use Rattle.expr_reader.specs.Reading.{Failure}
pub use Rattle.expr_reader.specs.Spells.{IsExpression, Spells}
pub use Rattle.expr_reader.specs.Template.{Piece, names_status}
pub use Rattle.expr_reader.specs.TemplateView.{template_of}
pub use Rattle.expr_reader.specs.View.{views}
pub use Rattle.expr_reader.specs.declared.fault.ExprFault.{ExprFault}
pub use Rattle.expr_reader.specs.declared.tree.Context.{Context}
pub use Rattle.expr_reader.specs.declared.tree.Tree.{Tree}
pub use Rattle.expr_value.specs.Answer.{Gives}
pub use Rattle.expr_value.specs.Context.{Contexts}
pub use Rattle.expr_value.specs.Convert.{text_of}
pub use Rattle.expr_value.specs.Evaluate.{evaluated}
pub use Rattle.expr_value.specs.PlainKind.{kind_of}
pub use Rattle.expr_value.specs.Named.{any_names_context, is_same_context}
pub use Rattle.expr_value.specs.declared.status.Status.{Status}
pub use Rattle.flow_model.specs.Answer.{is_exit_code, is_output, is_pair, is_well_formed}
pub use Rattle.flow_model.specs.Faults.{value_fault_name}
pub use Rattle.flow_model.specs.Found.{Path, each_pair, if_there, or_else, rule, under}
pub use Rattle.flow_model.specs.Json.{json_of, value_of}
pub use Rattle.flow_model.specs.JsonText.{json_read}
pub use Rattle.flow_model.specs.Laws.{NeedsPointBack}
pub use Rattle.flow_model.specs.Lines.{is_line, lines_of, newline, onto_first}
pub use Rattle.flow_model.specs.Mapping.{Ascends, keys_of, map_values, pairs_of, value_at, with_pair}
pub use Rattle.flow_model.specs.Name.{is_id}
pub use Rattle.flow_model.specs.Numbers.{board_jobs, board_legs, first_job, plan_jobs, plan_legs}
pub use Rattle.flow_model.specs.Outcome.{outcome_word}
pub use Rattle.flow_model.specs.Plain.{Items, Members, Plain, item, list, map, member, members_of, no_items, no_members, null, text, truth, whole}
pub use Rattle.flow_model.specs.Rules.{IsPlan, all_there, are_distinct, ascend_between, greatest, group_rules, is_condition, is_flag, is_job_output, is_variable, is_within, job_ids, job_rules, jobs_rules, legs_of_runs, legs_rules, roots_rules, run_rules, runs_rules, steps_rules}
pub use Rattle.flow_model.specs.Sound.{Each, HaveDistinctNames, SoundJob, SoundPlan, SoundRun}
pub use Rattle.flow_model.specs.Value.{view, viewed}
pub use Rattle.flow_model.specs.declared.board.Board.{Board}
pub use Rattle.flow_model.specs.declared.board.DoneStep.{DoneStep}
pub use Rattle.flow_model.specs.declared.board.Job.{Job}
pub use Rattle.flow_model.specs.declared.board.JobState.{JobState}
pub use Rattle.flow_model.specs.declared.board.Leg.{Leg}
pub use Rattle.flow_model.specs.declared.board.LegState.{LegState}
pub use Rattle.flow_model.specs.declared.board.Run.{Run}
pub use Rattle.flow_model.specs.declared.board.RunState.{RunState}
pub use Rattle.flow_model.specs.declared.event.Answer.{Answer}
pub use Rattle.flow_model.specs.declared.event.Entry.{Entry}
pub use Rattle.flow_model.specs.declared.event.Event.{Event}
pub use Rattle.flow_model.specs.declared.event.Member.{Member}
pub use Rattle.flow_model.specs.declared.event.Outcome.{Outcome}
pub use Rattle.flow_model.specs.declared.flow.Workflow.{Workflow}
pub use Rattle.flow_model.specs.declared.plan.Group.{Group}
pub use Rattle.flow_model.specs.declared.plan.JobPlan.{JobPlan}
pub use Rattle.flow_model.specs.declared.plan.Plan.{Plan}
pub use Rattle.flow_model.specs.declared.plan.Roots.{Roots}
pub use Rattle.flow_model.specs.declared.plan.RunPlan.{RunPlan}
pub use Rattle.flow_model.specs.declared.plan.Shell.{Shell}
pub use Rattle.flow_model.specs.declared.plan.StepPlan.{StepPlan}
pub use Rattle.flow_model.specs.declared.plan.Work.{Work}
pub use Rattle.flow_model.specs.declared.reply.CallWork.{CallWork}
pub use Rattle.flow_model.specs.declared.reply.Reply.{Reply}
pub use Rattle.flow_model.specs.declared.reply.StepCall.{StepCall}
pub use Rattle.flow_model.specs.declared.reply.ValueFault.{ValueFault}
pub use Rattle.flow_model.specs.declared.reply.What.{What}
pub use Rattle.flow_model.specs.declared.value.Node.{Map, Node}
pub use Rattle.plan_values.specs.Env.{or_below}
unfoldable pub use Rattle.plan_values.specs.Env.{env_value, laid_over}
pub use Rattle.plan_values.specs.Known.{IsKnownOf, known_env}
pub use Rattle.plan_values.specs.Laws.{EnvHasItsNames, LevelsStayInOrder, WaitsForSuccess}
unfoldable pub use Rattle.plan_values.specs.Outputs.{outputs_value}
pub use Rattle.plan_values.specs.Own.{HasNoFault}
unfoldable pub use Rattle.plan_values.specs.Texts.{condition_value, flag_value, text_text}
pub use Rattle.plan_values.specs.Values.{Env, Values, env_context, with_env}
unfoldable pub use Rattle.plan_values.specs.Values.{contexts_at}
