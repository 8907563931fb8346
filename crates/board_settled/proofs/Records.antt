-- The answers that a list records are those of its host.
use Rattle.std.proofs.Common.{◌≡◌, ◌↔◌, ℕ, zero, suc, ◌==◌, ◌&&◌, Bool, true, false, List, [], ◌∷◌, Option, Some, None, IsTrue, slice_get, if◌then◌else◌, subst, ap, refl, sym, ◌∙◌, arith}
use Rattle.std.proofs.lemmas.Bool.Decides.{nat_tests}
use Rattle.board_settled.specs.Words.{Answer, Board, ByAnswers, Entry, IsListed, IsRecorded, IsSettled, Line, Plan, StepCall, TellsSettled, after, listed, recorded, recorded_answers, settled}
use Rattle.board_decisions.proofs.Lists.{and-left, and-right, same_some, no_some}

-- what is given is listed
pub is_listed : (lines : List Line) (leg step : ℕ) (a : Answer) → listed lines leg step ≡ Some a → IsListed lines leg step a
is_listed [] leg step a h = absurd (no_some a h)
is_listed (line ∷ lines) leg step a h = by ((line.0 == leg) && (line.1 == step)) refl h (is_listed lines leg step a)
  where
    by : (c : Bool) → ((line.0 == leg) && (line.1 == step)) ≡ c → (if c then Some line.2 else listed lines leg step) ≡ Some a
        → (listed lines leg step ≡ Some a → IsListed lines leg step a) → IsListed (line ∷ lines) leg step a
    by true is e more =
        let left = and-left (line.0 == leg) (line.1 == step) is in
        let right = and-right (line.0 == leg) (line.1 == step) is in
        let of_leg : line.0 ≡ leg = grind (arith, nat_tests, left) in
        let of_step : line.1 ≡ step = grind (arith, nat_tests, right) in
        (0, λ i. Some (of_leg i, of_step i, same_some line.2 a e i))
    by false is e more = let later = more e in (suc later.0, later.1)

-- what is listed is given, or another
pub is_given : (lines : List Line) (leg step : ℕ) (a : Answer) → listed lines leg step ≡ None → IsListed lines leg step a → ⊥
is_given [] leg step a h is = no_some (leg, step, a) is.1
is_given (line ∷ lines) leg step a h is = by ((line.0 == leg) && (line.1 == step)) refl h (is_given lines leg step a) is.0 is.1
  where
    by : (c : Bool) → ((line.0 == leg) && (line.1 == step)) ≡ c → (if c then Some line.2 else listed lines leg step) ≡ None
        → (listed lines leg step ≡ None → IsListed lines leg step a → ⊥) → (k : ℕ) → slice_get (line ∷ lines) k ≡ Some (leg, step, a) → ⊥
    by true test e more k at = no_some line.2 (sym e)
    by false test e more (suc k) at = more e (k, at)
    by false test e more zero at =
        let same = same_some line (leg, step, a) at in
        let of_leg = ap (λ (x : Line). x.0) same in
        let of_step = ap (λ (x : Line). x.1) same in
        grind (arith, nat_tests, of_leg, of_step, test)

-- ---- a record

module _ (admits : StepCall → Answer → Type 0) (declines : StepCall → Type 0) (p : Plan) (es : List Entry)
    (own : (call : StepCall) (a : Answer) → admits call a ↔ IsRecorded p es call a)
    (alone : (call : StepCall) (one other : Answer) → admits call one → admits call other → one ≡ other)
    (silent : (call : StepCall) → declines call → (a : Answer) → admits call a → ⊥) where
  -- what the host admits is what the list records
  admitted : (call : StepCall) (a : Answer) → admits call a → recorded_answers p es call ≡ Some a
  admitted call a is = by (recorded_answers p es call) refl
    where
      by : (o : Option Answer) → recorded_answers p es call ≡ o → o ≡ Some a
      by None e = absurd (is_given (recorded p es) call.leg call.step a e ((own call a).0 is))
      by (Some x) e = ap (λ (y : Answer). Some y) (alone call x a ((own call x).1 (is_listed (recorded p es) call.leg call.step x e)) is)

  -- and a call that it declines has none
  declined : (call : StepCall) → declines call → recorded_answers p es call ≡ None
  declined call is = by (recorded_answers p es call) refl
    where
      by : (o : Option Answer) → recorded_answers p es call ≡ o → o ≡ None
      by None e = refl
      by (Some x) e = absurd (silent call is x ((own call x).1 (is_listed (recorded p es) call.leg call.step x e)))

  -- what is told over the host of the list's answers is told of the list
  pub tells_settled : (left seen : Board) (holds : Bool) → after p es ≡ Some left → seen ≡ left
      → ByAnswers admits declines (λ answers. IsTrue holds ↔ IsSettled (settled p answers) seen) → TellsSettled p es holds
  tells_settled left seen holds led lent tells b is =
      let same : seen ≡ b = lent ∙ same_some left b (sym led ∙ is) in
      subst (λ (x : Board). IsTrue holds ↔ IsSettled (settled p (recorded_answers p es)) x) same
      (tells (recorded_answers p es) (record { admitted = admitted; declined = declined }))
