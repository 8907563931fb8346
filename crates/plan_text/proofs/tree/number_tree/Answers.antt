use Rattle.plan_text.proofs.OutlineLaws.{number_stands}
use Rattle.serde_json.specs.View.{view}
use Rattle.plan_text.proofs.tree.number_tree.Goals as goal

pub returns-in-Ok : goal.returns-in-Ok
returns-in-Ok c = number_stands c.args.text.now (view c.in-Ok.tree) (c.is_number.ensures.0 c.if-not-is_number.false) c.in-Ok.ensures.ok
