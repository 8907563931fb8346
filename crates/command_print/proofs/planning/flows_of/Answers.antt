use Rattle.std.proofs.Common.{◌≤◌, List, length, sym, subst, rules}
use Rattle.status_table.specs.Words.{Workflow}
use Rattle.command_print.specs.Planning.{GiveFlows}
use Rattle.command_print.proofs.Flows.{all_flows}
use Rattle.command_print.proofs.planning.flows_of.Goals as goal

pub returns : goal.returns
returns c =
    let past : length c.args.files.now ≤ c.loop-file.file-index = search rules in
    subst (λ (l : List Workflow). GiveFlows c.args.files.now l) (sym c.new.ensures)
    (all_flows c.args.files.now c.loop-file.file-index c.loop-file.flows.items past c.loop-file.invariant)
