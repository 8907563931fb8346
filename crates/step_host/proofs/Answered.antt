-- How a call is answered whose program has ended.
use Rattle.std.proofs.Common.{◌≡◌, ℕ, ℤ, List, Option, Result, Err, subst}
use Rattle.flow_model.specs.declared.event.Answer.{Answer}
use Rattle.step_host.specs.Program.{AnsweredBy, AnsweredWith, Answers, ended}
use Rattle.step_host.specs.declared.watch.Refusal.{Refusal}

pub answered_with : (code : Option ℤ) (given set : List ℕ) (answer : Answer) (end : Result Answer Refusal)
    → answer ≡ ended code given set → Answers answer given set end → AnsweredWith code given end
answered_with code given set answer end is h = by end (subst (λ (a : Answer). Answers a given set end) is h)
  where
    by : (r : Result Answer Refusal) → Answers (ended code given set) given set r → AnsweredWith code given r
    by (Err (Refusal.NoVariables kind)) k = tt
    by r k = (set, k)

pub answered_by : (code : Option ℤ) (given : List ℕ) (end : Result Answer Refusal) → AnsweredWith code given end → AnsweredBy code end
answered_by code given (Err (Refusal.NoOutputs kind)) h = tt
answered_by code given end h = (given, h)
