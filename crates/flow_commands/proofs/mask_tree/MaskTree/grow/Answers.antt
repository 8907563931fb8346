-- A new node is of no mask.
use Rattle.std.proofs.Common.{◌≡◌, ℕ, List, ap, subst, sym, ◌∙◌, length-set, arith}
use Rattle.std.specs.Map.{lookup}
use Rattle.std.proofs.lemmas.Result.{IfOk-from_err}
use Rattle.flow_commands.specs.MaskTree.{IsTree, edges_of, listed, same_edge}
use Rattle.flow_commands.proofs.MaskTrees.{tree_roomier, new_node, firsts_more, firsts_stay}
use Rattle.flow_commands.proofs.mask_tree.MaskTree.grow.Goals as goal

pub returns-in_err-insert : goal.returns-in_err-insert
returns-in_err-insert c masks text tree at free = (
  record {
    nodes = subst (λ es. IsTree masks (λ node b. lookup (same_edge (node, b)) es) c.push.new.self.items) (sym c.in_err-insert.ensures.err)
        (subst (IsTree masks (edges_of c.args.self.now)) (sym c.in_ok-push.ensures.items) (tree_roomier tree.nodes));
    bytes = tree.bytes;
    firsts = λ b unlisted. ap (lookup (same_edge (0, b))) c.in_err-insert.ensures.err ∙ tree.firsts b unlisted;
  },
  IfOk-from_err c.from_residual-in_err-insert.result _ c.from_residual-in_err-insert.ensures.0,
)

pub returns-then-node-eq0 : goal.returns-then-node-eq0
returns-then-node-eq0 c masks text tree at free =
    let grown = new_node tree.nodes (listed c.insert.new.self) text c.args.node c.args.byte c.push.new.self.items c.len-new.result at free c.in_ok-push.ensures.items
    (c.len-new.ensures ∙ c.push.new.self.ok.0) (λ from x. c.in_ok-insert.ensures.updates.0 (from, x)) in (
      record {
        nodes = grown.0;
        bytes = length-set c.args.self.now.firsts c.from.result _ ∙ tree.bytes;
        firsts = firsts_more (edges_of c.args.self.now) (listed c.insert.new.self) c.len-new.result c.args.self.now.firsts c.args.node c.args.byte c.from.result
            c.from.ensures (omega (arith, tree.bytes, c.ranges.byte.fits)) (λ from x. c.in_ok-insert.ensures.updates.0 (from, x)) tree.firsts;
      },
      grown.1,
    )

pub returns-else-node-eq0 : goal.returns-else-node-eq0
returns-else-node-eq0 c masks text tree at free =
    let grown = new_node tree.nodes (listed c.insert.new.self) text c.args.node c.args.byte c.push.new.self.items c.len-new.result at free c.in_ok-push.ensures.items
    (c.len-new.ensures ∙ c.push.new.self.ok.0) (λ from x. c.in_ok-insert.ensures.updates.0 (from, x)) in (
      record {
        nodes = grown.0;
        bytes = tree.bytes;
        firsts = firsts_stay (edges_of c.args.self.now) (listed c.insert.new.self) c.len-new.result c.args.self.now.firsts c.args.node c.args.byte
            c.if-node-eq0.false (λ from x. c.in_ok-insert.ensures.updates.0 (from, x)) tree.firsts;
      },
      grown.1,
    )
