use Rattle.std.proofs.Common.{subst, sym}
use Rattle.serde_json.specs.View.{view}
use Rattle.flow_lint.specs.Nodes.{AreAll}
use Rattle.flow_lint.proofs.plan_place.need_note.Goals as goal

pub need_noted_in-requires-clause-all : goal.need_noted_in-requires-clause-all
need_noted_in-requires-clause-all c = subst (AreAll (view c.in-Some.root)) (sym c.as_slice.ensures.value) c.in_ok-nodes-in-Some.ensures.all
