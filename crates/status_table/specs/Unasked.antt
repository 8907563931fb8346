-- Entries whose reply nobody asks for.
use Rattle.std.specs.Prelude.{◌≡◌, Bool, true, false, Some, Result, Ok, Err}
use Rattle.plan_values.specs.Words.{Board, Reply, ValueFault}
use Rattle.status_table.specs.Answers.{Refuses}
use Rattle.status_table.specs.Row.{Row, Beginning, calls, skips, faults}
use Rattle.status_table.specs.Runs.{then_after}
use Rattle.status_table.specs.declared.fault.EventFault.{EventFault}
use Rattle.status_table.specs.declared.unasked.Begins.{Begins}
use Rattle.status_table.specs.declared.unasked.Begins.TheVariants.{Calls, Skips, Faults}

-- what beginning a step comes to, without its call or its fault
abbrev pub begins_of : Beginning → Begins
begins_of (calls call) = Calls
begins_of skips = Skips
begins_of (faults f) = Faults

-- what beginning a step comes to, without its call or its fault; or why it is not begun
abbrev pub begins_by : Result Beginning EventFault → Result Begins EventFault
begins_by (Ok x) = Ok (begins_of x)
begins_by (Err f) = Err f

-- what beginning a step comes to, by whether the step is called
abbrev pub begins_called : Result Bool ValueFault → Begins
begins_called (Ok true) = Calls
begins_called (Ok false) = Skips
begins_called (Err f) = Faults

-- What is done leads to the row's board, and what is refused is refused as the row is, and changes nothing.
abbrev pub Leads : Row → Board → Result (Unit {0}) EventFault → Board → Type 0
Leads r old (Ok done) new = then_after r (λ next. Some next) ≡ Some new
Leads r old (Err f) new = Refuses r f × (new ≡ old)

-- an answer without its reply
abbrev pub without_reply : Result Reply EventFault → Result (Unit {0}) EventFault
without_reply (Ok reply) = Ok tt
without_reply (Err f) = Err f
