-- How an answer of a board stands to the row of the table.
use Rattle.std.specs.Prelude.{◌≡◌, Result, Ok, Err}
use Rattle.plan_values.specs.Words.{Board, Entry, Plan, Reply}
use Rattle.status_table.specs.declared.fault.EventFault.{EventFault}
use Rattle.status_table.specs.Row.{Row, row}

-- A refusal is the row's; memory may run out besides.
abbrev pub Refuses : {T : Type 0} → Result T EventFault → EventFault → Type 0
Refuses r EventFault.Memory = Unit {0}
Refuses r EventFault.NoSuch = r ≡ Err EventFault.NoSuch
Refuses r EventFault.WrongState = r ≡ Err EventFault.WrongState
Refuses r EventFault.OtherWorker = r ≡ Err EventFault.OtherWorker
Refuses r EventFault.NeedsOpen = r ≡ Err EventFault.NeedsOpen
Refuses r EventFault.SlotsFull = r ≡ Err EventFault.SlotsFull
Refuses r EventFault.Stopping = r ≡ Err EventFault.Stopping
Refuses r EventFault.NotStopping = r ≡ Err EventFault.NotStopping
Refuses r EventFault.StepsLeft = r ≡ Err EventFault.StepsLeft
Refuses r EventFault.BadAnswer = r ≡ Err EventFault.BadAnswer

-- A decision is made as it is defined, or refused as it is; memory may run out besides.
abbrev pub Decides : {T : Type 0} → Result T EventFault → Result T EventFault → Type 0
Decides r (Ok x) = r ≡ Ok x
Decides r (Err f) = Refuses r f

-- what stands for a decision is made as that is defined, or refused as it is; memory may run out besides
abbrev pub DecidesAs : {X T : Type 0} → (X → T) → Result T EventFault → Result X EventFault → Type 0
DecidesAs seen r (Ok x) = r ≡ Ok (seen x)
DecidesAs seen r (Err f) = Refuses r f

-- An answer is the row's reply with its board, or the row's refusal, which changes nothing.
abbrev pub Answers : Row → Board → Result Reply EventFault → Board → Type 0
Answers r old (Ok reply) new = r ≡ Ok (new, reply)
Answers r old (Err f) new = Refuses r f × (new ≡ old)

-- An entry is answered as the row of its event.
abbrev pub AnswersEntry : Plan → Board → Entry → Result Reply EventFault → Board → Type 0
AnswersEntry p old entry r new = Answers (row p old entry.worker entry.event) old r new
