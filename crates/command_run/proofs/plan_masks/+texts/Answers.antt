use Rattle.std.proofs.Common.{◌≡◌, ap, ◌∙◌}
use Rattle.status_table.specs.Words.{pairs_of, view, viewed}
use Rattle.flow_model.specs.Plain as plain
use Rattle.flow_model.proofs.Nodes.{view-Map}
use Rattle.command_run.proofs.plan_masks.+texts.Goals as goal

pub add_secret-returns-in-Map : goal.add_secret-returns-in-Map
add_secret-returns-in-Map t c =
    let seen : view c.args.secret.now ≡ plain.map (plain.members_of (viewed (pairs_of c.in-Map.members.entries))) =
    ap view c.in-Map.is ∙ view-Map c.in-Map.members in
    rw seen c.add_members.ensures
