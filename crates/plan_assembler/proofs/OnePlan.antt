-- Workflows, contexts and a choice of them come to one plan at most.
use Rattle.std.proofs.Common.{◌≡◌, ◌∙◌, ◌+◌, ℕ, Bool, true, false, List, [], ◌∷◌, length, refl, ap, sym, subst}
use Rattle.std.proofs.lemmas.List.{ext_get_or}
use Rattle.flow_model.specs.declared.flow.FlowJob.{FlowJob}
use Rattle.flow_model.specs.declared.flow.Workflow.{Workflow}
use Rattle.flow_model.specs.declared.plan.Plan.{Plan}
use Rattle.flow_model.specs.declared.plan.Roots.{Roots}
use Rattle.flow_model.specs.declared.plan.RunPlan.{RunPlan}
use Rattle.plan_assembler.specs.Layout.{graph_of, taken, AreTaken, IsOrder}
use Rattle.plan_assembler.specs.Order.{order_of}
use Rattle.plan_assembler.specs.Plans.{run_plan, AssemblesRun, AssemblesRuns, Assembles}
use Rattle.plan_assembler.specs.declared.choice.Choice.{Choice}
use Rattle.plan_assembler.specs.declared.choice.Choice.TheVariants.{Event, Job, All}
use Rattle.plan_assembler.proofs.Cycles.{one_staging}

same_test : (a b : Bool) → (a ≡ true → b ≡ true) → (b ≡ true → a ≡ true) → a ≡ b
same_test true b f g = sym (f refl)
same_test false true f g = g refl
same_test false false f g = refl

one_marking : (choice : Choice) (jobs : List FlowJob) (marks others : List Bool) → AreTaken choice jobs marks → AreTaken choice jobs others → marks ≡ others
one_marking (Event name) jobs marks others a b = a ∙ sym b
one_marking (Job id) jobs marks others a b =
    ext_get_or false marks others (a.0 ∙ sym b.0) (λ j w. same_test _ _ (λ e. (b.1 j).1 ((a.1 j).0 e)) (λ e. (a.1 j).1 ((b.1 j).0 e)))
one_marking All jobs marks others a b = a ∙ sym b

pub one_order : (choice : Choice) (jobs : List FlowJob) (order other : List ℕ) → IsOrder choice jobs order → IsOrder choice jobs other → order ≡ other
one_order choice jobs order other a b =
    a.in_order ∙ ap (λ (ss : List ℕ). order_of ss a.marks) (one_staging (graph_of jobs) a.stages b.stages a.are_stages b.are_stages)
    ∙ ap (order_of b.stages) (one_marking choice jobs a.marks b.marks a.are_taken b.are_taken) ∙ sym b.in_order

pub one_run : (roots : Roots) (choice : Choice) (w : Workflow) (first : ℕ) (r q : RunPlan) → AssemblesRun roots choice w first r → AssemblesRun roots choice w first q → r ≡ q
one_run roots choice w first r q a b =
    a.is_run ∙ ap (λ (order : List ℕ). run_plan roots choice w order first) (one_order choice w.jobs a.order b.order a.is_order b.is_order) ∙ sym b.is_run

one_each : (roots : Roots) (choice : Choice) (ws : List Workflow) (first : ℕ) (rs qs : List RunPlan) → AssemblesRuns roots choice ws first rs → AssemblesRuns roots choice ws first qs → rs ≡ qs
one_each roots choice [] first [] [] a b = refl
one_each roots choice [] first [] (q ∷ qs) a b = absurd b
one_each roots choice [] first (r ∷ rs) qs a b = absurd a
one_each roots choice (w ∷ ws) first [] qs a b = absurd a
one_each roots choice (w ∷ ws) first (r ∷ rs) [] a b = absurd b
one_each roots choice (w ∷ ws) first (r ∷ rs) (q ∷ qs) a b =
    let here : r ≡ q = one_run roots choice w first r q a.0 b.0 in
    let later : rs ≡ qs = one_each roots choice ws (first + length r.jobs) rs qs a.1 (subst (λ (x : RunPlan). AssemblesRuns roots choice ws (first + length x.jobs) qs) (sym here) b.1) in
    ap (λ (x : RunPlan). x ∷ rs) here ∙ ap (λ (l : List RunPlan). q ∷ l) later

abbrev plan_of : List RunPlan → Plan
plan_of rs = record { runs = rs }

pub one_plan : (ws : List Workflow) (roots : Roots) (choice : Choice) (p q : Plan) → Assembles ws roots choice p → Assembles ws roots choice q → p ≡ q
one_plan ws roots choice p q a b =
    let runs : p.runs ≡ q.runs = one_each roots choice (taken choice ws) 0 p.runs q.runs a b in
    ap plan_of runs
