use Rattle.step_host.proofs.Recorded.{recorded_is_script, recorded_is_lawful}
use Rattle.step_host.proofs.laws.records_are_lawful.Goals as goal

pub returns-clause-script : goal.returns-clause-script
returns-clause-script c = recorded_is_script

pub returns-clause-lawful : goal.returns-clause-lawful
returns-clause-lawful c = recorded_is_lawful
