-- What holds of each row of Begin: it is refused, or does what is decided of the next step.
use Rattle.std.proofs.Common.{◌≡◌, ℕ, ◌==◌, Bool, true, false, Option, Some, Ok, Err, nat_le, if◌then◌else◌, refl, sym, subst}
use Rattle.board_settled.specs.Words.{Board, Event, EventFault, LegAt, Plan, Row, StepPlan, begin_found, begin_leg, beginning, beginning_by, decided, idle_owner, leg_at, next_step, row, step_decision}

-- what holds of both sides of a choice
pub either : {A : Type 0} (C : A → Type 0) (c : Bool) (x y : A) → C x → C y → C (if c then x else y)
either C true x y first second = first
either C false x y first second = second

module _ (C : Row → Type 0) (refused : (f : EventFault) → C (Err f)) (b : Board) (worker l : ℕ) (at : LegAt) where
  pub by_decision : ((owner : ℕ) (step : StepPlan) → idle_owner at.leg.state ≡ Some owner → next_step at ≡ Some step → C (begin_leg b worker at (Ok (decided (step_decision l at step)))))
      → C (begin_leg b worker at (beginning worker l at))
  by_decision each = by_owner (idle_owner at.leg.state) refl (next_step at) refl
    where
      by_owner : (o : Option ℕ) → idle_owner at.leg.state ≡ o → (s : Option StepPlan) → next_step at ≡ s → C (begin_leg b worker at (beginning_by worker l at o s))
      by_owner (Some owner) was (Some step) next =
          either (λ x. C (begin_leg b worker at x)) (worker == owner) (Ok (decided (step_decision l at step))) (Err EventFault.OtherWorker) (each owner step was next) (refused EventFault.OtherWorker)
      by_owner o was s next = refused EventFault.WrongState

  -- of a leg that is found
  pub begins : (p : Plan) → leg_at p b l ≡ Some at → ((step : StepPlan) → next_step at ≡ Some step → C (begin_leg b worker at (Ok (decided (step_decision l at step)))))
      → C (row p b worker (Event.Begin l))
  begins p is each =
      either C (nat_le worker 15) (begin_found b worker l (leg_at p b l)) (Err EventFault.NoSuch)
      (subst (λ (o : Option LegAt). C (begin_found b worker l o)) (sym is) (by_decision (λ owner step was. each step))) (refused EventFault.NoSuch)
