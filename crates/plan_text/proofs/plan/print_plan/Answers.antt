use Rattle.std.proofs.Common.{◌≡◌, ◌≤◌, string_bytes, ap, subst, ◌∙◌, arith}
use Rattle.std.proofs.lemmas.Result.{IfOk-weaker}
use Rattle.serde_json.specs.Data.{depth}
use Rattle.serde_json.specs.View.{view}
use Rattle.flow_model.specs.Rules.{IsPlan}
use Rattle.flow_model.specs.declared.plan.Plan.{Plan}
use Rattle.plan_documents.specs.Document.{document}
use Rattle.plan_documents.specs.declared.version.Version.TheVariants.{Two}
use Rattle.plan_documents.proofs.Fitting.{plan_sound}
use Rattle.plan_text.proofs.LoadLemmas.{compact_of, reads_of, load_again, plan_alone}
use Rattle.plan_documents.proofs.PlanLaws.{plan_reads}
use Rattle.plan_text.proofs.plan.print_plan.Goals as goal

kept : (p q : Plan) → p ≡ q → IsPlan p → IsPlan q
kept p q e h = subst (λ r. IsPlan r) e h

low : (p : Plan) → IsPlan p → depth (document p) ≤ 127
low p h = omega (arith, plan_reads.low Two p (plan_sound p h))

pub returns-in_err-json-clause-alone : goal.returns-in_err-json-clause-alone
returns-in_err-json-clause-alone c other d h mine its =
    plan_alone other c.args.plan.now d h (kept c.plan.result.now c.args.plan.now c.plan.ensures.same c.plan.ensures.sound) its mine

pub returns-clause-alone : goal.returns-clause-alone
returns-clause-alone c other d h mine its =
    plan_alone other c.args.plan.now d h (kept c.plan.result.now c.args.plan.now c.plan.ensures.same c.plan.ensures.sound) its mine

pub returns-clause-text : goal.returns-clause-text
returns-clause-text c =
    let is : view c.in_ok-json.json ≡ document c.args.plan.now = c.in_ok-json.ensures ∙ ap document c.plan.ensures.same in
    IfOk-weaker c.to_string.result _ _ (λ s h. compact_of (string_bytes s) (view c.in_ok-json.json) (document c.args.plan.now) h is (plan_reads.exact Two c.args.plan.now)) c.to_string.ensures.text

pub returns-clause-reads : goal.returns-clause-reads
returns-clause-reads c =
    let is : view c.in_ok-json.json ≡ document c.args.plan.now = c.in_ok-json.ensures ∙ ap document c.plan.ensures.same in
    let sound = kept c.plan.result.now c.args.plan.now c.plan.ensures.same c.plan.ensures.sound in
    IfOk-weaker c.to_string.result _ _ (λ s h. reads_of s (view c.in_ok-json.json) (document c.args.plan.now) h is (low c.args.plan.now sound)) c.to_string.ensures.reads_back

pub returns-clause-loads : goal.returns-clause-loads
returns-clause-loads c =
    let is : view c.in_ok-json.json ≡ document c.args.plan.now = c.in_ok-json.ensures ∙ ap document c.plan.ensures.same in
    let sound = kept c.plan.result.now c.args.plan.now c.plan.ensures.same c.plan.ensures.sound in
    IfOk-weaker c.to_string.result _ _
    (λ s h. load_again (string_bytes s) Two c.args.plan.now sound (reads_of s (view c.in_ok-json.json) (document c.args.plan.now) h is (low c.args.plan.now sound)))
    c.to_string.ensures.reads_back
