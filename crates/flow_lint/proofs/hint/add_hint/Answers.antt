use Rattle.std.proofs.Common.{codes}
use Rattle.std.proofs.lemmas.Result.{on_ok_weaker}
use Rattle.serde_json.specs.Find.{get}
use Rattle.serde_json.specs.View.{view}
use Rattle.flow_lint.specs.Nodes.{place_of}
use Rattle.flow_lint.proofs.Hinted.{hinted_event, hinted_idle, hinted_need, hinted_step, hinted_unknown}
use Rattle.flow_lint.proofs.hint.add_hint.Goals as goal

pub returns-in-Unknown-clause-added : goal.returns-in-Unknown-clause-added
returns-in-Unknown-clause-added c =
    on_ok_weaker c.add_unknown.result
    (λ h not_told. hinted_unknown (get (codes "jobs") (view c.args.root.now)) _ _ (place_of c.args.node.now) c.in-Unknown.is h)
    c.add_unknown.ensures.added

pub returns-in-Idle-clause-added : goal.returns-in-Idle-clause-added
returns-in-Idle-clause-added c =
    on_ok_weaker c.add_idle.result
    (λ h not_told. hinted_idle (get (codes "jobs") (view c.args.root.now)) _ _ (place_of c.args.node.now) c.in-Idle.is h)
    c.add_idle.ensures.added

pub returns-in-Event-clause-added : goal.returns-in-Event-clause-added
returns-in-Event-clause-added c =
    on_ok_weaker c.add_event.result
    (λ h not_told. hinted_event (get (codes "jobs") (view c.args.root.now)) _ _ (place_of c.args.node.now) c.in-Event.is)
    c.add_event.ensures.kept

pub returns-in-Step-clause-added : goal.returns-in-Step-clause-added
returns-in-Step-clause-added c =
    on_ok_weaker c.add_step.result
    (λ h not_told. hinted_step (get (codes "jobs") (view c.args.root.now)) _ _ (place_of c.args.node.now) c.in-Step.is)
    c.add_step.ensures.kept

pub returns-in-Needs-clause-added : goal.returns-in-Needs-clause-added
returns-in-Needs-clause-added c =
    on_ok_weaker c.add_need.result
    (λ h not_told. hinted_need (get (codes "jobs") (view c.args.root.now)) _ _ (place_of c.args.node.now) c.in-Needs.is h)
    c.add_need.ensures.added
