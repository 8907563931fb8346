use Rattle.std.proofs.Common.{◌≡◌, ◌++◌}
use Rattle.serde_json.specs.View.{members_view}
use Rattle.flow_reader.specs.Checked.{made, members_checked}
use Rattle.flow_reader.specs.Workflow.{job_at}
use Rattle.flow_reader.proofs.job.read_each.Given as goal

-- what was read, before what is left
abbrev pub invariant-loop-id : goal.invariant-loop-id
invariant-loop-id l = made (λ xs. l.read ++ xs) (members_checked job_at (members_view l.id-iterator)) ≡ members_checked job_at (members_view l.members.entries)
