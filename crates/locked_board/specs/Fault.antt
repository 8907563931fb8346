-- Why an event is not posted.
use Rattle.std.specs.Prelude.{◌≡◌, Result, Ok, Err}
use Rattle.status_table.specs.Words.{Board, Reply, Row}
use Rattle.locked_board.specs.declared.fault.PostFault.{PostFault}
use Rattle.status_table.specs.declared.fault.EventFault.{EventFault}

-- A refusal is the row's; memory may run out besides.
abbrev pub Refuses : Row → PostFault → Type 0
Refuses r (PostFault.Event f) = r ≡ Err f
Refuses r PostFault.Memory = Unit {0}

-- The row's reply with its board, or its refusal, which changes nothing.
abbrev pub Answers : Row → Board → Result Reply PostFault → Board → Type 0
Answers r old (Ok reply) new = r ≡ Ok (new, reply)
Answers r old (Err f) new = Refuses r f × (new ≡ old)

-- a refusal of the table, in which want of memory stands apart
abbrev pub post_fault : EventFault → PostFault
post_fault EventFault.NoSuch = PostFault.Event EventFault.NoSuch
post_fault EventFault.WrongState = PostFault.Event EventFault.WrongState
post_fault EventFault.OtherWorker = PostFault.Event EventFault.OtherWorker
post_fault EventFault.NeedsOpen = PostFault.Event EventFault.NeedsOpen
post_fault EventFault.SlotsFull = PostFault.Event EventFault.SlotsFull
post_fault EventFault.Stopping = PostFault.Event EventFault.Stopping
post_fault EventFault.NotStopping = PostFault.Event EventFault.NotStopping
post_fault EventFault.StepsLeft = PostFault.Event EventFault.StepsLeft
post_fault EventFault.BadAnswer = PostFault.Event EventFault.BadAnswer
post_fault EventFault.Memory = PostFault.Memory

-- the fault of an End whose call is not the open one of its leg
abbrev pub fault_of_other : EventFault → PostFault
fault_of_other EventFault.NoSuch = PostFault.Event EventFault.NoSuch
fault_of_other EventFault.WrongState = PostFault.Event EventFault.WrongState
fault_of_other EventFault.OtherWorker = PostFault.Event EventFault.WrongState
fault_of_other EventFault.NeedsOpen = PostFault.Event EventFault.WrongState
fault_of_other EventFault.SlotsFull = PostFault.Event EventFault.WrongState
fault_of_other EventFault.Stopping = PostFault.Event EventFault.WrongState
fault_of_other EventFault.NotStopping = PostFault.Event EventFault.WrongState
fault_of_other EventFault.StepsLeft = PostFault.Event EventFault.WrongState
fault_of_other EventFault.BadAnswer = PostFault.Event EventFault.WrongState
fault_of_other EventFault.Memory = PostFault.Memory
