-- Which parts of a board in play may cross threads, each from its own parts: a `search` that goes down through all of a plan at once runs out
-- of steps.
use denote.Param.Send.{IsSend, sendable}
use Rattle.board_decisions.proofs.kept.Calls.TheSendSync as calls
use Rattle.flat_board.specs.contracts.flat_board.FlatBoard as FlatBoard
use Rattle.flat_board.specs.contracts.grouped_board.GroupedBoard as GroupedBoard
use Rattle.board_counters.proofs.need.Need.TheSendSync as need
use Rattle.board_counters.proofs.standing.RunTally.TheSendSync as run_tally
use Rattle.board_counters.proofs.stopping.RunLegs.TheSendSync as run_legs
use Rattle.board_counters.proofs.tally.Tally.TheSendSync as tally
use Rattle.board_counters.proofs.undo.Change.TheSendSync as change
use Rattle.board_counters.specs.contracts.counted.Counted as Counted
use Rattle.board_counters.specs.contracts.counts.Counts as Counts
use Rattle.board_counters.specs.contracts.lasting.Lasting as Lasting
use Rattle.board_counters.specs.contracts.tracked.Tracked as Tracked
use Rattle.flow_model.proofs.board.Board.TheSendSync as board
use Rattle.flow_model.proofs.mapping.Mapping.TheSendSync as mapping
use Rattle.flow_model.proofs.plan.Flag.TheSendSync as flag
use Rattle.flow_model.proofs.plan.Group.TheSendSync as group
use Rattle.flow_model.proofs.plan.Shell.TheSendSync as shell
use Rattle.flow_model.proofs.sequence.Sequence.TheSendSync as sequence
use Rattle.flow_model.proofs.text.Text.TheSendSync as text
use Rattle.flow_model.proofs.value.Node.TheLaws.TheKnot as knot
use Rattle.flow_model.specs.contracts.check.CheckedPlan as CheckedPlan
use Rattle.flow_model.specs.contracts.plan.JobPlan as JobPlan
use Rattle.flow_model.specs.contracts.plan.Plan as Plan
use Rattle.flow_model.specs.contracts.plan.Roots as Roots
use Rattle.flow_model.specs.contracts.plan.RunPlan as RunPlan
use Rattle.flow_model.specs.contracts.plan.StepPlan as StepPlan
use Rattle.flow_model.specs.contracts.plan.Work as Work
use Rattle.flow_model.specs.contracts.value.Node as Node
use Rattle.flow_model.specs.contracts.value.Value as Value
use Rattle.group_admission.proofs.groups.Groups.TheSendSync as groups
use Rattle.std.proofs.Crossing as std
use Rattle.std.proofs.MapsCrossing as maps

pub node_crosses : IsSend Node.the_field.row
node_crosses = search (maps.crosses, std.crosses, knot.crosses, text.the_send, sendable) depth 60 fits 20000

pub value_crosses : IsSend Value.the_row
value_crosses = search (node_crosses, sendable) depth 60 fits 20000

pub roots_crosses : IsSend Roots.the_field.row
roots_crosses = search (value_crosses, mapping.the_send, sendable) depth 60 fits 20000

pub work_crosses : IsSend Work.the_field.row
work_crosses = search (value_crosses, mapping.the_send, text.the_send, shell.the_field_send, sendable) depth 60 fits 20000

pub step_plan_crosses : IsSend StepPlan.the_field.row
step_plan_crosses = search (value_crosses, work_crosses, mapping.the_send, text.the_send, flag.the_field_send, sendable) depth 60 fits 20000

pub job_plan_crosses : IsSend JobPlan.the_field.row
job_plan_crosses = search (value_crosses, step_plan_crosses, mapping.the_send, sequence.the_send, text.the_send, flag.the_field_send, group.the_field_send, sendable) depth 60 fits 20000

pub run_plan_crosses : IsSend RunPlan.the_field.row
run_plan_crosses = search (value_crosses, job_plan_crosses, roots_crosses, mapping.the_send, sequence.the_send, text.the_send, group.the_field_send, sendable) depth 60 fits 20000

pub plan_crosses : IsSend Plan.the_field.row
plan_crosses = search (run_plan_crosses, sequence.the_send, sendable) depth 60 fits 20000

pub checked_plan_crosses : IsSend CheckedPlan.the_row
checked_plan_crosses = search (plan_crosses, sendable) depth 60 fits 20000

pub counts_crosses : IsSend Counts.the_field.row
counts_crosses = search (tally.the_field_send, run_tally.the_field_send, run_legs.the_field_send, need.the_field_send, sequence.the_send, sendable) depth 60 fits 20000

pub lasting_crosses : IsSend Lasting.the_field.row
lasting_crosses = search (calls.the_field_send, sequence.the_send, sendable) depth 60 fits 20000

pub counted_crosses : IsSend Counted.the_row
counted_crosses = search (checked_plan_crosses, counts_crosses, lasting_crosses, board.the_field_send, sequence.the_send, std.crosses, sendable) depth 60 fits 20000

pub tracked_crosses : IsSend Tracked.the_row
tracked_crosses = search (counted_crosses, change.the_field_send, std.crosses, sendable) depth 60 fits 20000

pub grouped_board_crosses : IsSend GroupedBoard.the_field.row
grouped_board_crosses = search (tracked_crosses, groups.the_send, std.crosses, sendable) depth 60 fits 20000

pub flat_board_crosses : IsSend FlatBoard.the_row
flat_board_crosses = search (grouped_board_crosses, sendable) depth 60 fits 20000
