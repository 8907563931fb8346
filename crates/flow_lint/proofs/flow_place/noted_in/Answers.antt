use Rattle.std.proofs.Common.{IfOk, List, ℕ, subst, sym}
use Rattle.std.proofs.lemmas.Result.{IfOk-weaker}
use Rattle.serde_json.specs.View.{view}
use Rattle.flow_reader.specs.declared.fault.FlowFault.{FlowFault}
use Rattle.flow_reader.specs.declared.fault.FlowFault.TheVariants.{BadId}
use Rattle.flow_lint.specs.Nodes.{AreAll}
use Rattle.flow_lint.specs.Notes.{FlowPlace}
use Rattle.flow_lint.proofs.Seen.{placed}
use Rattle.flow_lint.proofs.flow_place.noted_in.Goals as goal

pub name_note-requires-clause-all : goal.name_note-requires-clause-all
name_note-requires-clause-all c = subst (AreAll (view c.args.root.now)) (sym c.as_slice-nodes.ensures.value) c.in_ok-nodes.ensures.all

pub returns-in-BadId : goal.returns-in-BadId
returns-in-BadId c =
    let root = view c.args.root.now in
    subst (λ (fault : FlowFault). IfOk c.name_note.result (λ note. FlowPlace root fault note.path)) (sym c.in-BadId.is)
    (subst (λ (name : List ℕ). IfOk c.name_note.result (λ note. FlowPlace root (BadId name) note.path)) c.as_str-in-BadId.ensures c.name_note.ensures)

pub noted_at-requires-clause-all : goal.noted_at-requires-clause-all
noted_at-requires-clause-all c = subst (AreAll (view c.args.root.now)) (sym c.as_slice-nodes.ensures.value) c.in_ok-nodes.ensures.all

pub returns : goal.returns
returns c =
    IfOk-weaker c.noted_at.result _ _ (λ note seen. placed (view c.args.root.now) note.path c.args.fault.now c.in-NotJson.is seen) c.noted_at.ensures
