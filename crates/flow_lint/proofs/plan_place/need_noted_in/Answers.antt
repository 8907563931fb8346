use Rattle.std.proofs.Common.{codes, inr, subst, sym}
use Rattle.std.proofs.lemmas.Result.{IfOk-weaker}
use Rattle.serde_json.specs.Find.{get}
use Rattle.serde_json.specs.View.{view}
use Rattle.flow_lint.specs.Nodes.{place_of}
use Rattle.flow_lint.specs.Places.{ShowsNeed}
use Rattle.flow_lint.specs.declared.node.Node.{Node}
use Rattle.flow_lint.proofs.Seen.{none_more, nowhere_at_end}
use Rattle.flow_lint.proofs.plan_place.need_noted_in.Goals as goal

pub loop-node-preserved : goal.loop-node-preserved
loop-node-preserved c =
    let jobs = get (codes "jobs") (view c.args.root.now) in
    none_more (ShowsNeed jobs) c.args.nodes.now c.loop-node.node-index c.node-item.result c.loop-node-test.true c.loop-node.invariant
    (λ shows. c.unknown_need.ensures.none c.in_default.is (subst (λ (node : Node). ShowsNeed jobs (place_of node)) (sym c.node-item.is) shows))

pub returns : goal.returns
returns c =
    let root = view c.args.root.now in
    let nowhere = nowhere_at_end root c.args.nodes.now c.loop-node.node-index (ShowsNeed (get (codes "jobs") root)) c.requires.all c.loop-node-test.false
    c.loop-node.invariant in
    IfOk-weaker c.noted.result _ _ (λ note whole. inr (whole, nowhere)) c.noted.ensures.path
