use Rattle.std.proofs.lemmas.Result.{on_ok_weaker}
use Rattle.flow_lint.proofs.Nodes.{added_by_push, kept_by_push}
use Rattle.flow_lint.proofs.node.push_found.Goals as goal

pub returns-in-Some-clause-kept : goal.returns-in-Some-clause-kept
returns-in-Some-clause-kept c = on_ok_weaker c.push_node.result (kept_by_push _ _ _) c.push_node.ensures.items

pub returns-in-Some-clause-added : goal.returns-in-Some-clause-added
returns-in-Some-clause-added c = rw c.in-Some.is (on_ok_weaker c.push_node.result (added_by_push _ _ _) c.push_node.ensures.items)
