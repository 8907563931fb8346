use Rattle.std.proofs.Common.{arith, sym}
use Rattle.serde_json.specs.View.{view}
use Rattle.flow_lint.proofs.Seen.{no_id_past}
use Rattle.flow_lint.proofs.flow_place.repeated_in.Goals as goal

pub repeated_at-requires : goal.repeated_at-requires
repeated_at-requires c place past =
    no_id_past (view c.args.node.now.value.now) c.in_ok-as_array.field-0.now.items (sym c.in_ok-as_array.ensures) place (omega (arith, c.len.ensures, past))
