use Rattle.step_host.proofs.Lawfulness.{none_is_lawful, lawful_grows, lawful_begins, call_follows}
use Rattle.step_host.proofs.laws.lawful_lists_grow.Goals as goal

pub returns-clause-none : goal.returns-clause-none
returns-clause-none g c = λ host. none_is_lawful (g.H.StepHost.admits host)

pub returns-clause-last : goal.returns-clause-last
returns-clause-last g c = λ host. lawful_grows (g.H.StepHost.admits host)

pub returns-clause-first : goal.returns-clause-first
returns-clause-first g c = λ host. lawful_begins (g.H.StepHost.admits host)

pub returns-clause-call : goal.returns-clause-call
returns-clause-call g c = call_follows
