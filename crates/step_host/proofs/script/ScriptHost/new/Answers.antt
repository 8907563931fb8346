use Rattle.std.proofs.Common.{◌≡◌, arith, ◌++◌, length, ap, sym, ◌∙◌}
use Rattle.std.specs.Vec.Iter.{into_iter_items, into_iter_len}
use Rattle.step_host.proofs.Kept.{keeping-next, faults, all_kept, one_more, kept_well_formed}
use Rattle.step_host.proofs.script.ScriptHost.new.Goals as goal

pub returns-in-Err-clause-makes : goal.returns-in-Err-clause-makes
returns-in-Err-clause-makes c =
    let before = c.loop-line.invariant in
    let step = c.in-Some.ensures.steps in
    faults c.loop-line.yielded c.loop-line.answers.entries c.in-Some.line (into_iter_items c.next.new.self) c.keep.new.answers.entries c.args.lines.items c.in-Err.fault before.0
    (ap (λ xs. c.loop-line.yielded ++ xs) (sym step.0) ∙ before.1) c.in-Err.ensures

pub loop-line-preserved : goal.loop-line-preserved
loop-line-preserved c =
    let before = c.loop-line.invariant in
    let step = c.in-Some.ensures.steps in
    let many : into_iter_len c.next.new.self ≡ length (into_iter_items c.next.new.self) =
    let longer = ap length step.0 in let was = before.2 in let fewer = step.1 in omega (arith, longer, was, fewer) in (
      keeping-next c.loop-line.yielded c.loop-line.answers.entries c.keep.new.answers.entries c.in-Some.line before.0 c.in_default.ensures,
      one_more c.loop-line.yielded (into_iter_items c.loop-line.line-iterator) (into_iter_items c.next.new.self) c.args.lines.items c.in-Some.line before.1 step.0,
      many,
    )

pub invariant_of-result : goal.invariant_of-result
invariant_of-result c = record { sound = kept_well_formed c.loop-line.yielded c.loop-line.answers.entries c.loop-line.invariant.0 }

pub returns-clause-makes : goal.returns-clause-makes
returns-clause-makes c =
    let before = c.loop-line.invariant in
    let kept = all_kept c.loop-line.yielded (into_iter_items c.loop-line.line-iterator) c.args.lines.items c.loop-line.answers.entries before.0 before.1 (sym before.2 ∙ c.in-None.ensures.steps.0) in
    (kept.script, λ call a. kept.listed call.leg call.step a)
