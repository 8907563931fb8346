use Rattle.std.proofs.Common.{List, subst, sym}
use Rattle.serde_json.specs.View.{view}
use Rattle.flow_lint.specs.Hints.{AreAllHints, HasHints}
use Rattle.flow_lint.specs.declared.node.Node.{Node}
use Rattle.flow_lint.specs.declared.note.Note.{Note}
use Rattle.flow_lint.proofs.Hinted.{hints_all, hints_more}
use Rattle.flow_lint.proofs.hint.hints_of.Goals as goal

pub loop-node-preserved : goal.loop-node-preserved
loop-node-preserved c =
    let root = view c.args.root.now in
    let told = c.args.told.now in
    let added = c.in_ok-add_hint.ensures in
    record {
      are = added.are;
      all = hints_more root told _ _ c.args.nodes.now c.loop-node.node-index c.node-item.result c.loop-node-test.true added.kept c.loop-node.invariant.all
          (subst (λ (node : Node). HasHints root told c.add_hint.new.notes.items node) c.node-item.is added.added);
    }

pub returns-clause-all : goal.returns-clause-all
returns-clause-all c =
    let root = view c.args.root.now in
    let told = c.args.told.now in
    subst (λ (notes : List Note). AreAllHints root told notes) (sym c.new.ensures)
    (hints_all root told _ c.args.nodes.now c.loop-node.node-index c.requires.all c.loop-node-test.false c.loop-node.invariant.all)
