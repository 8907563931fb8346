use Rattle.std.proofs.Common.{Ok, rules}
use Rattle.flow_model.specs.Checked.{ChecksPlan}
use Rattle.flow_model.proofs.Accepted.{accepts_sound}
use Rattle.flow_model.proofs.plan.Plan.check.Goals as goal

pub returns-in_err-check_plan-clause-rules : goal.returns-in_err-check_plan-clause-rules
returns-in_err-check_plan-clause-rules c =
    let refused : ChecksPlan c.args.self c.from_residual.result = search rules in
    accepts_sound c.tests_tell.ensures c.args.self c.from_residual.result refused

pub returns-clause-rules : goal.returns-clause-rules
returns-clause-rules c =
    let accepted : ChecksPlan c.args.self (Ok c.args.self) = search rules in
    accepts_sound c.tests_tell.ensures c.args.self (Ok c.args.self) accepted
