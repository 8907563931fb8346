-- What is laid over one item after another.
use Rattle.std.proofs.Common.{◌≡◌, ℕ, zero, suc, ◌+◌, List, [], ◌∷◌, Option, Some, None, drop, slice_get, length, refl, ap, ◌∙◌, ◌≤◌, add-one}
use Rattle.std.specs.List.{zip, filter_map, cons_option}
use Rattle.std.proofs.lemmas.List.{drop_all}
use Rattle.plan_values.specs.Words.{DoneStep, Plain, StepPlan, laid_over}
use Rattle.board_decisions.specs.Contexts.{step_pair, planned_pair}

one_laid : {V : Type 0} (o : Option (List ℕ × V)) (others made : List (List ℕ × V)) → laid_over (cons_option o others) made ≡ laid_over others (laid_over (cons_option o []) made)
unfolding laid_over
one_laid None others made = refl
one_laid (Some p) others made = refl

-- nothing stands beside nothing
pub zip_none : (xs : List StepPlan) → ◌≡◌ {A = List (StepPlan × DoneStep)} (zip xs []) []
zip_none [] = refl
zip_none (x ∷ xs) = refl

abbrev no_plans : List StepPlan
no_plans = []

steps_after : (plans : List StepPlan) (i : ℕ) (done : DoneStep) (steps : List DoneStep) (made : List (List ℕ × Plain))
    → laid_over (filter_map step_pair (zip (drop i plans) (done ∷ steps))) made
    ≡ laid_over (filter_map step_pair (zip (drop (suc i) plans) steps)) (laid_over (cons_option (planned_pair (slice_get plans i) done) []) made)
unfolding laid_over
steps_after [] i done steps made = none i
  where
    none : (i : ℕ) → laid_over (filter_map step_pair (zip (drop i no_plans) (done ∷ steps))) made ≡ laid_over (filter_map step_pair (zip (drop (suc i) no_plans) steps)) (laid_over (cons_option (planned_pair (slice_get no_plans i) done) []) made)
    none zero = refl
    none (suc i) = refl
steps_after (plan ∷ plans) zero done steps made = one_laid (planned_pair (Some plan) done) (filter_map step_pair (zip plans steps)) made
steps_after (plan ∷ plans) (suc i) done steps made = steps_after plans i done steps made

-- what done steps set, beside their plans from a place on, is what the next sets and then the others
pub steps_next : (plans : List StepPlan) (i : ℕ) (done : DoneStep) (steps : List DoneStep) (made : List (List ℕ × Plain))
    → laid_over (filter_map step_pair (zip (drop i plans) (done ∷ steps))) made
    ≡ laid_over (filter_map step_pair (zip (drop (i + 1) plans) steps)) (laid_over (cons_option (planned_pair (slice_get plans i) done) []) made)
steps_next plans i done steps made = rw add-one (steps_after plans i done steps made)

-- where no step is left, nothing is laid over
pub steps_end : (plans : List StepPlan) (i : ℕ) (steps : List DoneStep) (made : List (List ℕ × Plain)) → length steps ≤ i
    → laid_over (filter_map step_pair (zip (drop i plans) (drop i steps))) made ≡ made
unfolding laid_over
steps_end plans i steps made h =
    ap (λ (ss : List DoneStep). laid_over (filter_map step_pair (zip (drop i plans) ss)) made) (drop_all i steps h)
    ∙ ap (λ (ps : List (StepPlan × DoneStep)). laid_over (filter_map step_pair ps) made) (zip_none (drop i plans))
