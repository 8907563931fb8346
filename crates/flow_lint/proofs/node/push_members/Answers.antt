use Rattle.std.proofs.Common.{List, ℕ, subst}
use Rattle.serde_json.specs.Find.{get}
use Rattle.serde_json.specs.View.{view}
use Rattle.flow_lint.specs.Nodes.{GivesInner}
use Rattle.flow_lint.proofs.Nodes.{MembersLeft, members_more}
use Rattle.flow_lint.proofs.node.push_members.Goals as goal

pub loop-key-preserved : goal.loop-key-preserved
loop-key-preserved c =
    let node = c.args.node.now in
    let pushed = c.in_ok-push_found.ensures in
    let gives = subst (λ (name : List ℕ). GivesInner node name (get name (view node.value.now)) c.in_ok-member.field-0)
    c.as_str.ensures.value c.in_ok-member.ensures.gives in
    let left = subst (λ l. MembersLeft node l c.loop-key.nodes.items) c.in-Some.ensures.steps c.loop-key.invariant.left in
    record {
      fit = pushed.fit;
      left = members_more node (c.in-Some.key.now, c.in-Some.field-0-1.now) _ _ _ _ pushed.kept pushed.added gives left;
    }
