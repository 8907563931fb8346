use Rattle.plan_values.proofs.Lawful.{fault_takes_out_its_output}
use Rattle.plan_values.proofs.laws.fault_takes_out_its_output.Goals as goal

pub returns : goal.returns
returns c = fault_takes_out_its_output
