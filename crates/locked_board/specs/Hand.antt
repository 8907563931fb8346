-- What a worker's share counts.
use Rattle.std.specs.Prelude.{◌≡◌, ◌+◌, ℕ, List, map, sum_by, Result, Ok, Err}
use Rattle.status_table.specs.Words.{numbers}
use Rattle.locked_board.specs.declared.clerk.Clerk.{Clerk}
use Rattle.locked_board.specs.declared.fault.PostFault.{PostFault}

-- a worker, and how many of its entries were accepted
pub record Hand : Type 0 where
  pub worker : ℕ
  pub entries : ℕ

-- the share of a worker that has posted nothing
abbrev pub new_hand : ℕ → Hand
new_hand w = record { worker = w; entries = 0 }

-- those of the first workers
abbrev pub new_hands : ℕ → List Hand
new_hands n = map new_hand (numbers n)

-- how many entries some shares have counted together
abbrev pub all_entries : List Hand → ℕ
all_entries hands = sum_by (λ hand. hand.entries) hands

-- one entry more
abbrev pub with_entry : Hand → Hand
with_entry hand = record { worker = hand.worker; entries = hand.entries + 1 }

-- An entry that is accepted is counted, and nothing else.
abbrev pub Counts : {A B : Type 0} → Hand → Result A B → Hand → Type 0
Counts old (Ok x) new = new ≡ with_entry old
Counts old (Err f) new = new ≡ old

-- an entry of a clerk that is accepted is counted, and nothing else: a clerk posts nothing where it has no move
abbrev pub CountsMove : Hand → Result Clerk PostFault → Hand → Type 0
CountsMove old (Ok (Clerk.Moved e reply)) new = new ≡ with_entry old
CountsMove old (Ok Clerk.Done) new = new ≡ old
CountsMove old (Ok Clerk.Idle) new = new ≡ old
CountsMove old (Ok Clerk.Stalled) new = new ≡ old
CountsMove old (Err f) new = new ≡ old
