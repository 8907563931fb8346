-- Answers that come with what takes them back.
use Rattle.std.specs.Prelude.{Result, Ok, Err}
use Rattle.plan_values.specs.Words.{Reply}
use Rattle.status_table.specs.declared.fault.EventFault.{EventFault}

-- the answer without its undo
abbrev pub answer_of : {U : Type 0} → Result (Reply × U) EventFault → Result Reply EventFault
answer_of (Ok both) = Ok both.0
answer_of (Err refusal) = Err refusal

-- what was done, without its undo
abbrev pub done_of : {U : Type 0} → Result U EventFault → Result (Unit {0}) EventFault
done_of (Ok undo) = Ok tt
done_of (Err refusal) = Err refusal
