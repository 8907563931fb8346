use Rattle.std.proofs.Common.{ap, subst, option_map, ◌∙◌}
use Rattle.command_run.specs.Environment.{with_entry}
use Rattle.command_run.proofs.Variables.{all_variables, variables_more}
use Rattle.command_run.proofs.environment.variables.Goals as goal

pub returns-in_default : goal.returns-in_default
returns-in_default g c =
    let holds = g.R.Environment.holds c.args.rt.now c.loop-number.number in
    all_variables _ c.loop-number.number c.loop-number.variables c.loop-number.invariant
    (subst (λ found. holds (option_map (λ entry. entry.items) found)) c.in_default.is c.in_ok-entry.ensures)

pub loop-number-preserved : goal.loop-number-preserved
loop-number-preserved g c =
    let holds = g.R.Environment.holds c.args.rt.now c.loop-number.number in
    variables_more _ c.loop-number.number c.in-Some.entry.items c.loop-number.variables c.add_entry.new.variables c.loop-number.invariant
    (subst (λ found. holds (option_map (λ entry. entry.items) found)) c.in-Some.is c.in_ok-entry.ensures)
    (c.in_ok-add_entry.ensures ∙ ap (λ entry. with_entry entry c.loop-number.variables) c.as_slice.ensures.value)
