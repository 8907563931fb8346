-- What an accepted entry makes so was not so on the board before it, and is so on the board after it.
use Rattle.std.specs.Prelude.{◌≡◌, ◌++◌, ℕ, [], ◌∷◌, Some, Ok, slice_get}
use Rattle.status_table.specs.Words.{Board, DoneStep, Each, Event, Leg, Member, Plan, Reply, board_legs, event_row}
use Rattle.why_facts.specs.declared.fact.Change.{Change}
use Rattle.why_facts.specs.declared.fact.StepFact.{StepFact}
use Rattle.why_facts.specs.declared.fact.Teller.{Teller}
use Rattle.why_notes.specs.Changes.{changes}
use Rattle.why_causes.specs.Stands.{IsCalled, IsTold, JobStands, MemberStands, outcome_told}

-- A leg has one step more that is done, of which that became.
pub record StepBecomes (old new : Board) (l : ℕ) (fact : StepFact) : Type 0 where
  pub was : Leg
  pub is : Leg
  pub done : DoneStep
  pub before : slice_get (board_legs old) l ≡ Some was
  pub after : slice_get (board_legs new) l ≡ Some is
  pub more : is.steps ≡ was.steps ++ done ∷ []
  pub outcome : done.outcome ≡ outcome_told fact

-- Somebody is told to stop. By `cancel` it is told once; a newer member also tells one that was told already.
abbrev pub StopBecomes : Board → Board → Member → Teller → Type 0
StopBecomes old new who Teller.Cancel = (IsTold old who → ⊥) × IsTold new who
StopBecomes old new who (Teller.Newer m) = IsTold new who

-- A change was not so on the board before, and is so on the board after.
abbrev pub Becomes : Board → Board → Change → Type 0
Becomes old new (Change.Member who fact) = (MemberStands old who fact → ⊥) × MemberStands new who fact
Becomes old new (Change.Job j fact) = (JobStands old j fact → ⊥) × JobStands new j fact
Becomes old new (Change.Called l) = (IsCalled old l → ⊥) × IsCalled new l
Becomes old new (Change.Step l fact) = StepBecomes old new l fact
Becomes old new (Change.Stop who tells) = StopBecomes old new who tells

-- Where the row of an event accepts it, each thing that it makes so was not so before it, and is so after it.
abbrev pub ChangesBecomeSo : Type 0
ChangesBecomeSo =
    (p : Plan) (b new : Board) (worker : ℕ) (e : Event) (reply : Reply)
    → event_row p b worker e ≡ Ok (new, reply) → Each (Becomes b new) (changes p b e)
