use Rattle.worker_pool.proofs.Stuck.{legal_waits, legal_goes_on}
use Rattle.worker_pool.proofs.stalls.stalled_only_by_groups.Goals as goal

pub returns-clause-waits : goal.returns-clause-waits
returns-clause-waits c = λ p rules es b h. legal_waits p rules ((c.rules_hold.ensures p).0 rules) es b h

pub returns-clause-never : goal.returns-clause-never
returns-clause-never c = λ p rules without es b h. legal_goes_on p rules ((c.rules_hold.ensures p).0 rules) without es b h
