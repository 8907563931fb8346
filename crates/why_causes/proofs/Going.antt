-- What is shown of a row that is accepted.
use Rattle.std.proofs.Common.{◌≡◌, ℕ, zero, suc, List, [], ◌∷◌, Some, Ok, Err, slice_get, ap, subst}
use Rattle.status_table.specs.Words.{Board, Each, Member, Reply, Row}
use Rattle.why_facts.specs.Notes.{all_noted}
use Rattle.why_facts.specs.declared.fact.Change.{Change}
use Rattle.why_facts.specs.declared.fact.Teller.{Teller}
use Rattle.why_facts.specs.declared.notes.Notes.{Notes}
use Rattle.why_causes.specs.Agrees.{Agrees}
use Rattle.why_causes.specs.Becomes.{Becomes}
use Rattle.why_causes.specs.Stands.{Has}
use Rattle.why_causes.proofs.Members.{Quiet, untold_leg, untold_run}
use Rattle.board_decisions.proofs.Lists.{no_some, same_some}

-- ---- lists of changes

none : (P : Change → Type 0) → Each P []
none P i x at = absurd (no_some x at)

pub more : (P : Change → Type 0) (c : Change) (cs : List Change) → P c → Each P cs → Each P (c ∷ cs)
more P c cs one all zero x at = subst P (same_some c x at) one
more P c cs one all (suc i) x at = all i x at

pub only : (P : Change → Type 0) (c : Change) → P c → Each P (c ∷ [])
only P c one = more P c [] one (none P)

-- the board of a row, if it is accepted
unfoldable pub board_of : Board → Row → Board
board_of b (Ok x) = x.0
board_of b (Err f) = b

-- Who was not told to stop is not told on the new board, but where a change names it.
abbrev pub Tells : Board → Board → List Change → Type 0
Tells b new cs = (w : Member) → Has b w untold_run untold_leg → ((i : ℕ) (t : Teller) → slice_get cs i ≡ Some (Change.Stop w t) → ⊥) → Has new w untold_run untold_leg

-- notes that agree with a board agree with the new one once the changes are noted
abbrev pub Noting : Board → Board → List Change → Type 0
Noting b new cs = (line : ℕ) (notes : Notes) → Agrees b notes → Agrees new (all_noted line notes cs)

-- Each change becomes so, nobody else is told to stop, and to note them is to note all.
pub record Goes (b new : Board) (cs : List Change) : Type 0 where
  pub so : Each (Becomes b new) cs
  pub tells : Tells b new cs
  pub noting : Noting b new cs

-- nobody is told
pub quietly : (b new : Board) (cs : List Change) → Each (Becomes b new) cs → Quiet b new → Noting b new cs → Goes b new cs
quietly b new cs so quiet noting = record { so = so; tells = λ w x _. quiet w x; noting = noting }

-- what becomes so on the board of a row becomes so on the board that it is
pub led : (b : Board) (cs : List Change) (r : Row) (new : Board) (reply : Reply) → r ≡ Ok (new, reply) → Goes b (board_of b r) cs → Goes b new cs
unfolding board_of
led b cs r new reply h all = subst (λ (n : Board). Goes b n cs) (ap (board_of b) h) all
