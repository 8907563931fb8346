-- The faults at the places of a file, as the code goes over them.
use Rattle.std.specs.Borrow.{Bor}
use Rattle.std.specs.Prelude.{Option, Some, None}
use Rattle.serde_json.specs.Data.{Data}
use Rattle.expr_reader.specs.declared.fault.ExprFault.{ExprFault}
use Rattle.flow_lint.specs.Nodes.{Fits, place_of}
use Rattle.flow_lint.specs.Notes.{IsNowhere}
use Rattle.flow_lint.specs.Shows.{ShowsFlow, ShowsText}
use Rattle.flow_lint.specs.declared.node.Node.{Node}
use Rattle.flow_reader.specs.declared.fault.FlowFault.{FlowFault}

-- A fault is to be seen at a place.
abbrev pub HasFlow : FlowFault → Node → Type 0
HasFlow fault node = ShowsFlow fault (place_of node)

abbrev pub HasText : ExprFault → Node → Type 0
HasText fault node = ShowsText fault (place_of node)

-- A place that was found, which shows a fault; or none, where no place does.
abbrev pub FindsFlow : Data → FlowFault → Option (Bor Node) → Type 0
FindsFlow root fault None = IsNowhere root (ShowsFlow fault)
FindsFlow root fault (Some node) = Fits root node.now × HasFlow fault node.now
