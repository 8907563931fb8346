use Rattle.step_host.proofs.LastCalls.{open_calls_are_last}
use Rattle.step_host.proofs.Recorded.{called_legs_have_calls}
use Rattle.step_host.proofs.laws.open_calls_are_last.Goals as goal

pub returns-clause-last : goal.returns-clause-last
returns-clause-last c = open_calls_are_last

pub returns-clause-called : goal.returns-clause-called
returns-clause-called c = called_legs_have_calls
