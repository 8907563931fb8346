use Rattle.std.proofs.Common.{◌≡◌, ◌<◌, ◌≤◌, length, refl, inl, inr, arith}
use Rattle.plan_assembler.specs.Layout.{taken}
use Rattle.plan_assembler.specs.Refusals.{RunsFail, Refuses}
use Rattle.plan_assembler.specs.declared.fault.PlanFault.TheVariants as fault
use Rattle.plan_assembler.proofs.Answering.{answered_weaker, fault_answered}
use Rattle.plan_assembler.proofs.LegsAlone.{plans_from}
use Rattle.plan_assembler.proofs.planner.Planner.plan.Goals as goal

pub returns-then-count-eq0 : goal.returns-then-count-eq0
returns-then-count-eq0 c =
    let none : length (taken c.args.choice.now c.self.inside.flows) ≡ 0 = omega (arith, c.count_taken-count.ensures.count, c.if-count-eq0.true) in
    rw (← c.self.view_is) (fault_answered (Refuses c.self.inside.flows c.self.inside.roots c.args.choice.now) c.none_taken.result (inl (none, c.none_taken.ensures)))

pub returns-then-count-gt64 : goal.returns-then-count-gt64
returns-then-count-gt64 c =
    let some : 0 < length (taken c.args.choice.now c.self.inside.flows) = omega (arith, c.count_taken-count.ensures.count, c.if-count-eq0.false) in
    let many : 64 < length (taken c.args.choice.now c.self.inside.flows) = omega (arith, c.count_taken-count.ensures.count, c.if-count-gt64.true) in
    rw (← c.self.view_is) (fault_answered (Refuses c.self.inside.flows c.self.inside.roots c.args.choice.now) fault.TooMany (inr (some, inl (many, refl))))

pub returns-in-Ok : goal.returns-in-Ok
returns-in-Ok c =
    let some : 0 < length (taken c.args.choice.now c.self.inside.flows) = omega (arith, c.count_taken-count.ensures.count, c.if-count-eq0.false) in
    let few : length (taken c.args.choice.now c.self.inside.flows) ≤ 64 = omega (arith, c.count_taken-count.ensures.count, c.if-count-gt64.false) in
    rw (← c.self.view_is) (plans_from c.self.inside.flows c.self.inside.roots c.args.choice.now c.in-Ok.runs c.checked.result c.count_taken-count.ensures.rules c.self.invariant some few c.in-Ok.ensures c.checked.ensures)

pub returns-in-Err : goal.returns-in-Err
returns-in-Err c =
    let some : 0 < length (taken c.args.choice.now c.self.inside.flows) = omega (arith, c.count_taken-count.ensures.count, c.if-count-eq0.false) in
    let few : length (taken c.args.choice.now c.self.inside.flows) ≤ 64 = omega (arith, c.count_taken-count.ensures.count, c.if-count-gt64.false) in
    rw (← c.self.view_is) (answered_weaker (RunsFail c.args.choice.now 0 0 (taken c.args.choice.now c.self.inside.flows)) (Refuses c.self.inside.flows c.self.inside.roots c.args.choice.now) c.in-Err.fault
    (λ g x. inr (some, inr (few, inl x))) c.in-Err.ensures)
