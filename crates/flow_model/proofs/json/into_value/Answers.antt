use Rattle.serde_json.specs.View.{view as json_view}
use Rattle.flow_model.specs.Value.{view}
use Rattle.flow_model.proofs.Conversions.{value_only, value_in_range}
use Rattle.flow_model.proofs.json.into_value.Goals as goal

pub returns-clause-in_range : goal.returns-clause-in_range
returns-clause-in_range c = rw c.new.ensures (value_in_range (json_view c.args.json) (view c.in_ok-node.node) c.in_ok-node.ensures)

pub returns-clause-back : goal.returns-clause-back
returns-clause-back c = rw c.new.ensures (value_only (json_view c.args.json) (view c.in_ok-node.node) c.in_ok-node.ensures)
