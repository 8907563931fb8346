use Rattle.std.proofs.Common.{subst}
use Rattle.serde_json.specs.View.{view}
use Rattle.flow_reader.specs.declared.fault.FlowFault.{FlowFault}
use Rattle.flow_lint.specs.FaultNodes.{FindsFlow}
use Rattle.flow_lint.specs.Notes.{IsNowhere}
use Rattle.flow_lint.specs.Shows.{ShowsFlow}
use Rattle.flow_lint.proofs.flow_place.name_note.Goals as goal

pub repeated_note-requires-clause-none : goal.repeated_note-requires-clause-none
repeated_note-requires-clause-none c =
    let root = view c.args.root.now in
    subst (λ (fault : FlowFault). IsNowhere root (ShowsFlow fault)) c.requires.fault
    (subst (FindsFlow root c.args.fault.now) c.in-None.is c.in_ok-node.ensures)
