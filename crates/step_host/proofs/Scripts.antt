-- Scripts with one line more.
use Rattle.std.proofs.Common.{◌≡◌, ℕ, ◌-◌, ◌≤◌, arith, Bool, true, false, List, [], ◌∷◌, ◌++◌, Some, None, length, slice_get, nat_lt, refl, ap, sym, ◌∙◌}
use Rattle.std.proofs.lemmas.List.{length-append}
use Rattle.std.proofs.lemmas.Option.{slice_get_within}
use Rattle.status_table.specs.Words.{Answer, is_well_formed}
use Rattle.board_decisions.proofs.Lists.{get-left, get-right, same_some}
use Rattle.step_host.specs.Script.{Line, IsScript}

-- an item of a list with one more at its end: of the list, or the last
pub data AtEnd (T : Type 0) (xs : List T) (x : T) (k : ℕ) (y : T) : Type 0 where
  before : slice_get xs k ≡ Some y → AtEnd T xs x k y
  last : k ≡ length xs → x ≡ y → AtEnd T xs x k y

pub at_end : {T : Type 0} (xs : List T) (x : T) (k : ℕ) (y : T) → slice_get (xs ++ x ∷ []) k ≡ Some y → AtEnd T xs x k y
at_end {T} xs x k y there = by (nat_lt k (length xs)) refl
  where
    by : (c : Bool) → nat_lt k (length xs) ≡ c → AtEnd T xs x k y
    by true is = before (sym (get-left xs (x ∷ []) k (grind (arith, is))) ∙ there)
    by false is =
        let within = slice_get_within (xs ++ x ∷ []) k y there in
        let many = length-append xs (x ∷ []) in
        let over : length xs ≤ k = grind (arith, is) in
        let at : k ≡ length xs = omega (arith, within, many, over) in
        let none : k - length xs ≡ 0 = omega (arith, at) in
        last at (same_some x y (ap (slice_get (x ∷ [])) (sym none) ∙ sym (get-right xs (x ∷ []) k over) ∙ there))

pub get-last : {T : Type 0} (xs : List T) (x : T) (more : List T) → slice_get (xs ++ x ∷ more) (length xs) ≡ Some x
get-last [] x more = refl
get-last (y ∷ xs) x more = get-last xs x more

pub get-front : {T : Type 0} (xs ys : List T) (k : ℕ) (y : T) → slice_get xs k ≡ Some y → slice_get (xs ++ ys) k ≡ Some y
get-front xs ys k y h = get-left xs ys k (slice_get_within xs k y h) ∙ h

pub append-none : {T : Type 0} (xs : List T) → xs ++ [] ≡ xs
append-none [] = refl
append-none (x ∷ xs) = ap (λ ys. x ∷ ys) (append-none xs)

-- no line is for this step of the leg
abbrev pub IsFree : List Line → ℕ → ℕ → Type 0
IsFree lines leg step = (k : ℕ) (line : Line) → slice_get lines k ≡ Some line → line.0 ≡ leg → line.1 ≡ step → ⊥

pub script-last : (lines : List Line) (leg step : ℕ) (a : Answer) → IsScript lines → is_well_formed a ≡ true → IsFree lines leg step
    → IsScript (lines ++ (leg, step, a) ∷ [])
script-last lines leg step a script good free = record {
  well_formed = λ k line there. well k line (at_end lines new k line there);
  once = λ i k one other h g leg_is step_is. single i k one other (at_end lines new i one h) (at_end lines new k other g) leg_is step_is;
}
  where
    new : Line
    new = (leg, step, a)

    well : (k : ℕ) (line : Line) → AtEnd Line lines new k line → is_well_formed line.2 ≡ true
    well k line (before h) = script.well_formed k line h
    well k line (last at is) = ap (λ (x : Line). is_well_formed x.2) (sym is) ∙ good

    single : (i k : ℕ) (one other : Line) → AtEnd Line lines new i one → AtEnd Line lines new k other → one.0 ≡ other.0 → one.1 ≡ other.1 → i ≡ k
    single i k one other (before h) (before g) leg_is step_is = script.once i k one other h g leg_is step_is
    single i k one other (before h) (last at is) leg_is step_is =
        absurd (free i one h (leg_is ∙ ap (λ (x : Line). x.0) (sym is)) (step_is ∙ ap (λ (x : Line). x.1) (sym is)))
    single i k one other (last at is) (before g) leg_is step_is =
        absurd (free k other g (sym leg_is ∙ ap (λ (x : Line). x.0) (sym is)) (sym step_is ∙ ap (λ (x : Line). x.1) (sym is)))
    single i k one other (last at is) (last at' is') leg_is step_is = at ∙ sym at'

pub no_script : IsScript []
no_script = record { well_formed = λ k line h. absurd (none line h); once = λ i k one other h g leg_is step_is. absurd (none one h) }
  where
    none : (x : Line) → None ≡ Some x → ⊥
    none x h = cc
