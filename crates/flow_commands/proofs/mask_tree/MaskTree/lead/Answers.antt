-- A byte leads on, or is made to.
use Rattle.std.proofs.Common.{◌≡◌, sym, ◌∙◌}
use Rattle.flow_commands.specs.MaskTree.{edges_of}
use Rattle.flow_commands.proofs.MaskTrees.{reached_more}
use Rattle.flow_commands.proofs.mask_tree.MaskTree.lead.Goals as goal

pub returns-in-Some : goal.returns-in-Some
returns-in-Some c masks text tree at =
    (tree, reached_more (edges_of c.args.self.now) text c.args.byte c.args.node at ∙ sym c.in-Some.ensures)

pub returns-in-None : goal.returns-in-None
returns-in-None c masks text tree at = c.grow.ensures masks text tree at (sym c.in-None.ensures)
