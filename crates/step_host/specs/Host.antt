-- What a host gives to a call.
use Rattle.std.specs.Prelude.{Result, Ok, Err}
use Rattle.status_table.specs.Words.{Answer, StepCall}
use Rattle.step_host.specs.declared.fault.HostFault.{HostFault}
use Rattle.step_host.specs.declared.fault.HostFault.TheVariants.{NoAnswer, Memory}

-- The answer to a call is one that is admitted; where there is none, the call may be declined, or there was no memory.
abbrev pub Responds : (Answer → Type 0) → Type 0 → Result Answer HostFault → Type 0
Responds admitted declined (Ok answer) = admitted answer
Responds admitted declined (Err NoAnswer) = declined
Responds admitted declined (Err Memory) = Unit {0}

-- No call is declined for which an answer is admitted.
abbrev pub DeclinesUnanswered : (StepCall → Answer → Type 0) → (StepCall → Type 0) → Type 0
DeclinesUnanswered admits declines = (call : StepCall) → declines call → (answer : Answer) → admits call answer → ⊥
