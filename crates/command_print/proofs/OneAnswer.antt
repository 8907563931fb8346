-- Files come to one plan at most.
use Rattle.std.proofs.Common.{◌≡◌, ◌∙◌, ℕ, List, [], ◌∷◌, ap, sym, subst, refl}
use Rattle.status_table.specs.Words.{Plan, Roots, Workflow}
use Rattle.plan_assembler.specs.Laws.{OnePlan, OneStaging}
use Rattle.plan_assembler.specs.Plans.{Assembles}
use Rattle.plan_assembler.specs.Stages.{stage_after}
use Rattle.plan_assembler.specs.Staging.{AreStageLists, plan_graph, run_jobs, stage_lists}
use Rattle.plan_assembler.specs.declared.choice.Choice.{Choice}
use Rattle.command_io.specs.Files.{Content}
use Rattle.command_print.specs.List.{IsListing, listing}
use Rattle.command_print.specs.Planning.{ComesTo, GivesFlow, GiveFlows}

one_flow : (file : Content) (w u : Workflow) → GivesFlow file w → GivesFlow file u → w ≡ u
one_flow file w u is other = cc

same_flows : (files : List Content) (ws us : List Workflow) → GiveFlows files ws → GiveFlows files us → ws ≡ us
same_flows [] [] [] g h = refl
same_flows [] [] (u ∷ us) g h = absurd h
same_flows [] (w ∷ ws) us g h = absurd g
same_flows (file ∷ files) [] us g h = absurd g
same_flows (file ∷ files) (w ∷ ws) [] g h = absurd h
same_flows (file ∷ files) (w ∷ ws) (u ∷ us) g h =
    ap (λ (x : Workflow). x ∷ ws) (one_flow file w u g.0 h.0) ∙ ap (λ (xs : List Workflow). u ∷ xs) (same_flows files ws us g.1 h.1)

pub same_plan : OnePlan → (choice : Choice) (contexts : Content) (files : List Content) (p q : Plan) → ComesTo choice contexts files p → ComesTo choice contexts files q → p ≡ q
same_plan one choice contexts files p q a b =
    let first = a.has_roots in
    let other = b.has_roots in
    let roots : b.roots ≡ a.roots = cc (first, other) in
    let flows : b.flows ≡ a.flows = same_flows files b.flows a.flows b.has_flows a.has_flows in
    one a.flows a.roots choice p q a.assembles
    (subst (λ (ws : List Workflow). Assembles ws a.roots choice q) flows (subst (λ (r : Roots). Assembles b.flows r choice q) roots b.assembles))

same_lists : OneStaging → (p : Plan) (xs ys : List (List (ℕ × ℕ))) → AreStageLists p xs → AreStageLists p ys → xs ≡ ys
same_lists one p xs ys a b =
    a.1.1 ∙ ap (λ (ss : List ℕ). stage_lists (stage_after ss) 0 ss (run_jobs 0 p.runs)) (one (plan_graph p) a.0 b.0 a.1.0 b.1.0) ∙ sym b.1.1

pub same_listing : OneStaging → (p q : Plan) (a b : List ℕ) → p ≡ q → IsListing p a → IsListing q b → a ≡ b
same_listing one p q a b same x y =
    let z : IsListing p b = subst (λ (r : Plan). IsListing r b) (sym same) y in
    x.2 ∙ ap (listing p 0) (same_lists one p x.0 z.0 x.1 z.1) ∙ sym z.2
