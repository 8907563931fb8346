-- What a record leaves: the board after its entries, and what is noted of all that its plan has.
use Rattle.std.specs.Prelude.{◌≡◌, ℕ, suc, false, List, [], ◌∷◌, Option, Some, None, Result, Ok, Err}
use Rattle.status_table.specs.Words.{Board, Entry, Plan, Play, Refuses, Row, StopsAt, is_memory, new_board, row}
use Rattle.why_facts.specs.Notes.{all_noted, new_notes}
use Rattle.why_facts.specs.declared.notes.Notes.{Notes}
use Rattle.why_notes.specs.Changes.{changes}
use Rattle.why_notes.specs.declared.account.SeenAccount.{SeenAccount}
use Rattle.status_table.specs.declared.fault.EventFault.{EventFault}

-- a plan with a board of it, and what is noted
pub record Account : Type 0 where
  pub plan : Plan
  pub board : Board
  pub notes : Notes

-- what is noted after an entry at a line
abbrev pub entry_noted : ℕ → Plan → Board → Notes → Entry → Notes
entry_noted line p b notes entry = all_noted line notes (changes p b entry.event)

-- what follows a row, if it is accepted
abbrev pub then_account : Row → (Board → Option Account) → Option Account
then_account (Ok x) rest = rest x.0
then_account (Err refusal) rest = None

-- the account of entries on this board, of which the first has this line, if none of them is refused
abbrev pub account_from : ℕ → Plan → Board → Notes → List Entry → Option Account
account_from line p b notes [] = Some (record { plan = p; board = b; notes = notes })
account_from line p b notes (e ∷ es) =
    then_account (row p b e.worker e.event) (λ next. account_from (suc line) p next (entry_noted line p b notes e) es)

-- the account of a record: its plan is line 1
abbrev pub account_of : Plan → List Entry → Option Account
account_of p es = account_from 2 p (new_board p) (new_notes p) es

-- An entry at a line is played and noted, or the table refuses it, or there was no memory.
abbrev pub PlaysNoted : ℕ → Plan → Board → Notes → Entry → Result (Unit {0}) EventFault → Board → Notes → Type 0
PlaysNoted line p old notes e (Ok done) new noted =
    (account_from line p old notes (e ∷ []) ≡ Some (record { plan = p; board = new; notes = noted }))
PlaysNoted line p old notes e (Err f) new noted = Refuses (row p old e.worker e.event) f × (new ≡ old)

-- What a list of entries leaves, of which the first has line 2: all are played and noted, or it stops at one.
abbrev pub RunsNoted : Plan → Board → Notes → List Entry → Result (Unit {0}) (ℕ × EventFault) → Board → Notes → Type 0
RunsNoted p old notes es (Ok done) new noted =
    account_from 2 p old notes es ≡ Some (record { plan = p; board = new; notes = noted })
RunsNoted p old notes es (Err stop) new noted = StopsAt p old es stop.0 stop.1 new

-- A list of entries stops at one, unless there was no memory.
abbrev pub Stops : Plan → List Entry → ℕ → EventFault → Type 0
Stops p es i f = is_memory f ≡ false → (b : Board) × StopsAt p (new_board p) es i f b

-- The account of a record, or the entry at which it stops.
abbrev pub Accounts : Plan → List Entry → Result (Play × Notes) (ℕ × EventFault) → Type 0
Accounts p es (Ok both) =
    (account_of p es ≡ Some (record { plan = p; board = both.0.board; notes = both.1 })) × (both.0.plan ≡ p)
Accounts p es (Err stop) = Stops p es stop.0 stop.1

-- what an account that is lent stands for
abbrev pub account_seen : SeenAccount → Account
account_seen x = record { plan = x.plan.now; board = x.board.now; notes = x.notes.now }
