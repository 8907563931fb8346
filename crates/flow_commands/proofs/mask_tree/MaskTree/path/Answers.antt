-- A byte more.
use Rattle.std.proofs.Common.{ap, ◌∙◌, take}
use Rattle.std.proofs.lemmas.List.{take_more}
use Rattle.std.proofs.lemmas.Result.{IfOk-from_err}
use Rattle.flow_commands.specs.MaskTree.{edges_of, reached}
use Rattle.flow_commands.proofs.mask_tree.MaskTree.path.Goals as goal

pub returns-in_err-node : goal.returns-in_err-node
returns-in_err-node c masks tree =
    let so_far = c.loop-byte.invariant masks tree in (
      (c.lead.ensures masks (take c.loop-byte.byte-index c.args.text.now) so_far.0 so_far.1).0,
      IfOk-from_err c.from_residual.result _ c.from_residual.ensures.0,
    )

pub loop-byte-preserved : goal.loop-byte-preserved
loop-byte-preserved c masks tree =
    let so_far = c.loop-byte.invariant masks tree in
    let more = c.in_ok-node.ensures masks (take c.loop-byte.byte-index c.args.text.now) so_far.0 so_far.1 in
    (more.0, ap (reached (edges_of c.lead.new.self)) (take_more c.args.text.now c.loop-byte.byte-index 0 c.loop-byte-test.true) ∙ more.1)
