-- One entry more of an account.
use Rattle.std.proofs.Common.{◌≡◌, ℕ, suc, List, [], ◌∷◌, Option, Some, None, Ok, Err, ap}
use Rattle.status_table.specs.Words.{Board, Entry, Plan, Row, after_from, row, then_after}
use Rattle.why_facts.specs.declared.notes.Notes.{Notes}
use Rattle.why_notes.specs.Account.{Account, account_from, entry_noted, then_account}

unfoldable pub board_of : Option Account → Option Board
board_of None = None
board_of (Some a) = Some a.board

-- what follows an account
unfoldable pub leads_on : ℕ → Plan → List Entry → Option Account → Option Account
leads_on line p es None = None
leads_on line p es (Some a) = account_from line p a.board a.notes es

-- an entry that is played and noted leads to the board, and what follows goes on from there
pub record OneMore (line : ℕ) (p : Plan) (b new : Board) (notes noted : Notes) (e : Entry) (es : List Entry) : Type 0 where
  pub played : after_from p b (e ∷ []) ≡ Some new
  pub rest : account_from line p b notes (e ∷ es) ≡ account_from (suc line) p new noted es

pub one_more : (line : ℕ) (p : Plan) (b new : Board) (notes noted : Notes) (e : Entry) (es : List Entry)
    → account_from line p b notes (e ∷ []) ≡ Some (record { plan = p; board = new; notes = noted })
    → OneMore line p b new notes noted e es
unfolding board_of leads_on
one_more line p b new notes noted e es h = record {
  played = played (row p b e.worker e.event) h;
  rest = rest (row p b e.worker e.event) h;
}
  where
    made : Notes
    made = entry_noted line p b notes e

    played : (r : Row) → then_account r (λ next. account_from (suc line) p next made []) ≡ Some (record { plan = p; board = new; notes = noted })
        → then_after r (λ next. Some next) ≡ Some new
    played (Ok x) h' = ap board_of h'
    played (Err f) h' = cc

    rest : (r : Row) → then_account r (λ next. account_from (suc line) p next made []) ≡ Some (record { plan = p; board = new; notes = noted })
        → then_account r (λ next. account_from (suc line) p next made es) ≡ account_from (suc line) p new noted es
    rest (Ok x) h' = ap (leads_on (suc line) p es) h'
    rest (Err f) h' = cc
