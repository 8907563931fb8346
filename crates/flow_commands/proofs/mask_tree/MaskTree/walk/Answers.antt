-- The walk goes on, or ends.
use Rattle.std.proofs.Common.{◌≡◌, ℕ, ◌+◌, List, Some, cond, take, get_or, refl, sym, ap, ◌∙◌}
use Rattle.std.proofs.lemmas.Bool.{cond-true, cond-false}
use Rattle.flow_commands.specs.Mask.{longest}
use Rattle.flow_commands.specs.MaskTree.{IsTreeOf, edges_of, is_end, reached}
use Rattle.flow_commands.proofs.MaskTrees.{longest_of_nothing, looked_past, looked_up, reached_next}
use Rattle.flow_commands.proofs.mask_tree.MaskTree.walk.Goals as goal
use Rattle.flow_commands.proofs.mask_tree.MaskTree.walk.Goals.{then-is_end, else-is_end}

pub loop-place-init : goal.loop-place-init
loop-place-init c = (refl, λ masks tree. sym (longest_of_nothing masks))

pub returns-in_default : goal.returns-in_default
returns-in_default c masks tree =
    c.loop-place.invariant.1 masks tree
    ∙ sym (looked_past tree.nodes c.args.text.now c.loop-place.place c.loop-place.node c.loop-place-test.true c.loop-place.invariant.0 (sym c.in_default.ensures))

pub loop-place-preserved : goal.loop-place-preserved
loop-place-preserved c =
    elim c.if-is_end.branch [
      | then-is_end w ↦ (goes ∙ ap Some (sym w.node-is), λ masks tree. w.most-is ∙ sym (up masks tree ∙ cond-true _ _ _ (sym c.is_end.ensures ∙ w.if-is_end.true)))
      | else-is_end w ↦ (goes ∙ ap Some (sym w.node-is), λ masks tree. w.most-is ∙ c.loop-place.invariant.1 masks tree ∙ sym (up masks tree ∙ cond-false _ _ _ (sym c.is_end.ensures ∙ w.if-is_end.false)))
    ]
  where
    text : List ℕ
    text = c.args.text.now

    i : ℕ
    i = c.loop-place.place

    goes : reached (edges_of c.args.self.now) (take (i + 1) text) ≡ Some c.in-Some.next
    goes = reached_next (edges_of c.args.self.now) text i c.loop-place.node c.loop-place-test.true c.loop-place.invariant.0 ∙ sym c.in-Some.ensures

    up : (masks : List (List ℕ)) → IsTreeOf masks c.args.self.now
        → longest masks (take (i + 1) text) ≡ cond (is_end c.args.self.now.ends.items c.in-Some.next) (i + 1) (longest masks (take i text))
    up masks tree = looked_up tree.nodes text i c.loop-place.node c.in-Some.next c.loop-place-test.true c.loop-place.invariant.0 (sym c.in-Some.ensures)
