use Rattle.std.proofs.Common.{subst, sym}
use Rattle.serde_json.specs.View.{view}
use Rattle.flow_lint.specs.Nodes.{AreAll}
use Rattle.flow_lint.proofs.hint.hints.Goals as goal

pub hints_of-requires-clause-all : goal.hints_of-requires-clause-all
hints_of-requires-clause-all c = subst (AreAll (view c.in-Some.root)) (sym c.as_slice.ensures.value) c.in_ok-nodes-in-Some.ensures.all
