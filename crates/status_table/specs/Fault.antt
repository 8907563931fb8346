-- The names of the table's refusals, and which of them is no fault of the event.
use Rattle.std.specs.Prelude.{ℕ, Bool, true, false, List, codes}
use Rattle.status_table.specs.declared.fault.EventFault.{EventFault}

-- the name under which a refusal is printed
abbrev pub event_fault_name : EventFault → List ℕ
event_fault_name EventFault.NoSuch = codes "NoSuch"
event_fault_name EventFault.WrongState = codes "WrongState"
event_fault_name EventFault.OtherWorker = codes "OtherWorker"
event_fault_name EventFault.NeedsOpen = codes "NeedsOpen"
event_fault_name EventFault.SlotsFull = codes "SlotsFull"
event_fault_name EventFault.Stopping = codes "Stopping"
event_fault_name EventFault.NotStopping = codes "NotStopping"
event_fault_name EventFault.StepsLeft = codes "StepsLeft"
event_fault_name EventFault.BadAnswer = codes "BadAnswer"
event_fault_name EventFault.Memory = codes "Memory"

-- whether a refusal is for want of memory
abbrev pub is_memory : EventFault → Bool
is_memory EventFault.NoSuch = false
is_memory EventFault.WrongState = false
is_memory EventFault.OtherWorker = false
is_memory EventFault.NeedsOpen = false
is_memory EventFault.SlotsFull = false
is_memory EventFault.Stopping = false
is_memory EventFault.NotStopping = false
is_memory EventFault.StepsLeft = false
is_memory EventFault.BadAnswer = false
is_memory EventFault.Memory = true
