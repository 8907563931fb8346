use Rattle.step_host.proofs.Counted.{records_are_counted}
use Rattle.step_host.proofs.laws.records_are_counted.Goals as goal

pub returns : goal.returns
returns c = records_are_counted
