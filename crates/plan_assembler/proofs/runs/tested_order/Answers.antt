use Rattle.std.proofs.Common.{◌≡◌, true, false, refl, inl, inr, rules}
use Rattle.plan_assembler.specs.Graph.{HasCycle}
use Rattle.plan_assembler.specs.Layout.{are_needs_known, graph_of, IsOrder}
use Rattle.plan_assembler.specs.Refusals.{NeedsFail}
use Rattle.plan_assembler.specs.declared.fault.PlanFault.TheVariants as fault
use Rattle.plan_assembler.proofs.Answering.{fault_answered}
use Rattle.plan_assembler.proofs.Cycles.{no_cycle}
use Rattle.plan_assembler.proofs.Places.{known_graph}
use Rattle.plan_assembler.proofs.runs.tested_order.Goals as goal

pub returns-then-not-are_needs_known-clause-order : goal.returns-then-not-are_needs_known-clause-order
returns-then-not-are_needs_known-clause-order c =
    let no : are_needs_known c.args.jobs.now ≡ false = search rules in
    fault_answered (NeedsFail c.args.jobs.now) fault.UnknownNeed (inl (no, refl))

pub find_order-requires-clause-known : goal.find_order-requires-clause-known
find_order-requires-clause-known c =
    let yes : are_needs_known c.args.jobs.now ≡ true = search rules in
    rw c.in_ok-graph.ensures (known_graph c.args.jobs.now yes)

pub returns-in-Some-clause-order : goal.returns-in-Some-clause-order
returns-in-Some-clause-order c =
    let yes : are_needs_known c.args.jobs.now ≡ true = search rules in
    let found : IsOrder c.args.choice.now c.args.jobs.now c.in-Some.order = rw c.in-Some.is at c.in_ok-order.ensures.order in
    record { known = yes; no_cycle = no_cycle (graph_of c.args.jobs.now) found.stages found.are_stages; is_order = found }

pub returns-clause-order : goal.returns-clause-order
returns-clause-order c =
    let yes : are_needs_known c.args.jobs.now ≡ true = search rules in
    let cycle : HasCycle (graph_of c.args.jobs.now) = rw c.in-None.is at c.in_ok-order.ensures.order in
    fault_answered (NeedsFail c.args.jobs.now) fault.Cycle (inr (yes, (cycle, refl)))
