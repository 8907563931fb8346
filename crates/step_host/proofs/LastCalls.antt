-- The open call of a leg is that of its last Begin.
use Rattle.std.proofs.Common.{◌≡◌, ◌≢◌, ◌⊎◌, inl, inr, ℕ, zero, suc, ◌<◌, ◌==◌, arith, Bool, true, false, List, [], ◌∷◌, Option, Some, None, Ok, Err, take, slice_get, if◌then◌else◌, refl, ap, sym, subst, ◌∙◌}
use Rattle.status_table.specs.Words.{Board, Entry, Event, Plan, Reply, Row, StepCall, What, after_from, call_after, call_from, called, new_board, row, then_after, then_call}
use Rattle.board_decisions.proofs.Lists.{no_some, same_some}
use Rattle.step_host.specs.Lawful.{PassesBy, IsLastCalled}
use Rattle.step_host.specs.Laws.{OpenCallsAreLast}

-- no entry begins or ends a step of the leg
abbrev AllPassBy : ℕ → List Entry → Type 0
AllPassBy l es = (k : ℕ) (e : Entry) → slice_get es k ≡ Some e → PassesBy l e.event

-- the call was open before the entries, which pass the leg by, or it is that of a Begin among them
abbrev FromBegin : Plan → Board → Option StepCall → ℕ → StepCall → List Entry → Type 0
FromBegin p b call l one es = ((call ≡ Some one) × AllPassBy l es) ⊎ IsLastCalled p b es l one

pass_first : (l : ℕ) (e : Entry) (es : List Entry) → PassesBy l e.event → AllPassBy l es → AllPassBy l (e ∷ es)
pass_first l e es here later zero d h = pass (same_some e d h) here
  where
    pass : e ≡ d → PassesBy l e.event → PassesBy l d.event
    pass same k = subst (λ (x : Entry). PassesBy l x.event) same k
pass_first l e es here later (suc k) d h = later k d h

-- a Begin among the entries that follow
later_begin : (p : Plan) (b next : Board) (told : Reply) (e : Entry) (es : List Entry) (l : ℕ) (one : StepCall) → row p b e.worker e.event ≡ Ok (next, told)
    → IsLastCalled p next es l one → IsLastCalled p b (e ∷ es) l one
later_begin p b next told e es l one is h = record {
  place = suc h.place;
  worker = h.worker;
  begins = h.begins;
  before = h.before;
  after = h.after;
  reply = h.reply;
  played = ap (λ (r : Row). then_after r (λ x. after_from p x (take h.place es))) is ∙ h.played;
  accepted = h.accepted;
  carries = h.carries;
  last = later;
}
  where
    later : (k : ℕ) (d : Entry) → suc h.place < k → slice_get (e ∷ es) k ≡ Some d → PassesBy l d.event
    later zero d less there = absurd (omega (arith, less))
    later (suc k) d less there = h.last k d (omega (arith, less)) there

-- the first entry is the Begin
first_begin : (p : Plan) (b next : Board) (told : Reply) (e : Entry) (es : List Entry) (l : ℕ) (one : StepCall) → row p b e.worker e.event ≡ Ok (next, told)
    → e.event ≡ Event.Begin l → called told.what ≡ Some one → AllPassBy l es → IsLastCalled p b (e ∷ es) l one
first_begin p b next told e es l one is begins carries later = record {
  place = 0;
  worker = e.worker;
  begins = ap (λ d. Some (record { worker = e.worker; event = d })) begins;
  before = b;
  after = next;
  reply = told;
  played = refl;
  accepted = ap (row p b e.worker) (sym begins) ∙ is;
  carries = carries;
  last = after_it;
}
  where
    after_it : (k : ℕ) (d : Entry) → 0 < k → slice_get (e ∷ es) k ≡ Some d → PassesBy l d.event
    after_it zero d less there = absurd (omega (arith, less))
    after_it (suc k) d less there = later k d there

from_begin : (p : Plan) (b : Board) (call : Option StepCall) (l : ℕ) (one : StepCall) (es : List Entry) → call_from p b l call es ≡ Some one → FromBegin p b call l one es
from_begin p b call l one [] h = inl (h, λ k e there. absurd (no_some e there))
from_begin p b call l one (e ∷ es) h =
    step (row p b e.worker e.event) refl (λ next told k. from_begin p next (call_after l call e.event told) l one es k) h
  where
    passed : AllPassBy l es → (d : Event) → e.event ≡ d → PassesBy l d → call ≡ Some one → FromBegin p b call l one (e ∷ es)
    passed later d is pass k = inl (k, pass_first l e es (subst (PassesBy l) (sym is) pass) later)

    here : (next : Board) (told : Reply) → row p b e.worker e.event ≡ Ok (next, told) → AllPassBy l es → (d : Event) → e.event ≡ d → call_after l call d told.what ≡ Some one
        → FromBegin p b call l one (e ∷ es)
    here next told is later (Event.Open r) d k = passed later (Event.Open r) d tt k
    here next told is later (Event.Judge j) d k = passed later (Event.Judge j) d tt k
    here next told is later (Event.Ask m) d k = passed later (Event.Ask m) d tt k
    here next told is later (Event.Drop m) d k = passed later (Event.Drop m) d tt k
    here next told is later (Event.Take m) d k = passed later (Event.Take m) d tt k
    here next told is later (Event.Begin m) d k = by (m == l) refl k
      where
        by : (c : Bool) → (m == l) ≡ c → (if c then called told.what else call) ≡ Some one → FromBegin p b call l one (e ∷ es)
        by true same j = let leg : m ≡ l = grind (arith, same) in inr (first_begin p b next told e es l one is (d ∙ ap (λ n. Event.Begin n) leg) j later)
        by false same j = let apart : m ≢ l = grind (arith, same) in passed later (Event.Begin m) d apart j
    here next told is later (Event.End m a) d k = by (m == l) refl k
      where
        by : (c : Bool) → (m == l) ≡ c → (if c then None else call) ≡ Some one → FromBegin p b call l one (e ∷ es)
        by true same j = absurd (no_some one j)
        by false same j = let apart : m ≢ l = grind (arith, same) in passed later (Event.End m a) d apart j
    here next told is later (Event.Finish m) d k = passed later (Event.Finish m) d tt k
    here next told is later (Event.Close r) d k = passed later (Event.Close r) d tt k
    here next told is later (Event.Cancel r) d k = passed later (Event.Cancel r) d tt k

    step : (r : Row) → row p b e.worker e.event ≡ r
        → ((next : Board) (told : What) → call_from p next l (call_after l call e.event told) es ≡ Some one → FromBegin p next (call_after l call e.event told) l one es)
        → then_call r (λ next told. call_from p next l (call_after l call e.event told) es) ≡ Some one → FromBegin p b call l one (e ∷ es)
    step (Err f) is later k = absurd (no_some one k)
    step (Ok x) is later k = elim (later x.0 x.1.what k) as (λ _. FromBegin p b call l one (e ∷ es)) [
      | inl was ↦ here x.0 x.1 is was.1 e.event refl was.0
      | inr begun ↦ inr (later_begin p b x.0 x.1 e es l one is begun)
    ]

pub open_calls_are_last : OpenCallsAreLast
open_calls_are_last p es l call h = elim (from_begin p (new_board p) None l call es h) as (λ _. IsLastCalled p (new_board p) es l call) [
  | inl was ↦ absurd (no_some call was.0)
  | inr begun ↦ begun
]
