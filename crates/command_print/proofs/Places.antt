-- The places of a record are told one after the other.
use Rattle.std.proofs.Common.{◌≡◌, ℕ, suc, ◌+◌, ◌<◌, List, [], ◌∷◌, Some, String, string_bytes, length, take, get_or, sym, subst, arith}
use Rattle.std.specs.declared.alloc.Global.{Global}
use Rattle.status_table.specs.Words.{Board, Entry, Plan, after_from, new_board}
use Rattle.plan_text.specs.Changes.{AddsOf}
use Rattle.status_table.proofs.RunsLemmas.{after_from-next}
use Rattle.command_print.specs.Changes.{TellsPlace, TellsPlaces}
use Rattle.command_print.specs.Replay.{LeadsTo}

-- the place to which the entry after k others leads
pub next_told : (p : Plan) (es : List Entry) (k : ℕ) (e : Entry) (before board : Board) (text text' : String Global) → k < length es → e ≡ get_or es k e
    → LeadsTo p (take k es) before → after_from p before (e ∷ []) ≡ Some board → TellsPlaces p es k (string_bytes text)
    → AddsOf (TellsPlace (k + 1) before board) text text' → TellsPlaces p es (k + 1) (string_bytes text')
next_told p es k e before board text text' within is there step told adds =
    let next : suc k ≡ k + 1 = omega arith in
    let leads : LeadsTo p (take (k + 1) es) board = after_from-next p (new_board p) before board es k e within is there step in
    subst (λ (n : ℕ). TellsPlaces p es n (string_bytes text')) next (
      string_bytes text,
      adds.0,
      told,
      (
        before,
        board,
        there,
        subst (λ (n : ℕ). LeadsTo p (take n es) board) (sym next) leads,
        subst (λ (n : ℕ). TellsPlace n before board adds.0) (sym next) adds.1,
      ),
      adds.2,
    )
