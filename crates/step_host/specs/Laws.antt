-- What holds of lists that are lawful over a host.
use Rattle.std.specs.Prelude.{◌≡◌, ℕ, true, List, [], ◌∷◌, ◌++◌, length, Some, Ok, slice_get}
use Rattle.status_table.specs.Words.{Answer, Board, Entry, IsLegal, Leg, LegState, Plan, Reply, StepCall, after, board_legs, call_after, new_board, open_call, row}
use Rattle.step_host.specs.Lawful.{IsLastCalled, EndsAdmitted, Lawful}
use Rattle.step_host.specs.Counted.{counted}
use Rattle.step_host.specs.Replay.{recorded, IsRecorded}
use Rattle.step_host.specs.Script.{IsScript}

-- No entries are lawful.
abbrev pub NoneIsLawful : (StepCall → Answer → Type 0) → Type 0
NoneIsLawful admits = (p : Plan) → Lawful admits p []

-- A lawful list stays so with one entry more, if the table accepts it and it ends no call but as the host admits.
abbrev pub LawfulGrows : (StepCall → Answer → Type 0) → Type 0
LawfulGrows admits =
    (p : Plan) (es : List Entry) (b new : Board) (e : Entry) (reply : Reply) → Lawful admits p es
    → after p es ≡ Some b → row p b e.worker e.event ≡ Ok (new, reply) → EndsAdmitted admits (open_call p es) e.event
    → Lawful admits p (es ++ e ∷ [])

-- The first entries of a lawful list are lawful.
abbrev pub LawfulBegins : (StepCall → Answer → Type 0) → Type 0
LawfulBegins admits = (p : Plan) (es more : List Entry) → Lawful admits p (es ++ more) → Lawful admits p es

-- Which call of a leg is open after one entry more follows from what was replied to that entry.
abbrev pub CallFollows : Type 0
CallFollows =
    (p : Plan) (es : List Entry) (b new : Board) (e : Entry) (reply : Reply) (l : ℕ) → after p es ≡ Some b
    → row p b e.worker e.event ≡ Ok (new, reply) → open_call p (es ++ e ∷ []) l ≡ call_after l (open_call p es l) e.event reply.what

-- An open call is that of the last Begin of its leg.
abbrev pub OpenCallsAreLast : Type 0
OpenCallsAreLast =
    (p : Plan) (es : List Entry) (l : ℕ) (call : StepCall) → open_call p es l ≡ Some call → IsLastCalled p (new_board p) es l call

-- the leg has an open call, which is that of its next step
abbrev pub HasOpenCall : Plan → List Entry → ℕ → Leg → Type 0
HasOpenCall p es l leg = (call : StepCall) × (open_call p es l ≡ Some call) × (call.leg ≡ l) × (call.step ≡ length leg.steps)

-- Each leg that is in a call after a legal list has an open call.
abbrev pub CalledLegsHaveCalls : Type 0
CalledLegsHaveCalls =
    (p : Plan) (es : List Entry) (b : Board) (l worker : ℕ) (leg : Leg) → after p es ≡ Some b → slice_get (board_legs b) l ≡ Some leg
    → leg.state ≡ LegState.Running worker true → HasOpenCall p es l leg

-- What a legal list records is a script.
abbrev pub RecordsAreScripts : Type 0
RecordsAreScripts = (p : Plan) (es : List Entry) → IsLegal p es → IsScript (recorded p es)

-- A legal list is lawful over what it records.
abbrev pub RecordsAreLawful : Type 0
RecordsAreLawful = (p : Plan) (es : List Entry) → IsLegal p es → Lawful (IsRecorded p es) p es

-- What a legal list records can be counted in its entries, without a board.
abbrev pub RecordsAreCounted : Type 0
RecordsAreCounted = (p : Plan) (es : List Entry) → IsLegal p es → counted es ≡ recorded p es
