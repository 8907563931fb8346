-- A job is before the jobs after it.
use Rattle.std.proofs.Common.{◌≡◌, ◌+◌, ◌<◌, ◌∙◌, ℕ, suc, List, ◌∷◌, ◌++◌, [], ap, append_assoc, arith, drop, get_or, length, sym}
use Rattle.std.proofs.lemmas.Option.{get_or_from_slice_get}
use Rattle.flow_model.proofs.Conversions.{drop-next}
use Rattle.flow_model.proofs.Places.{slice_get_there}
use Rattle.why_causes.specs.declared.question.Question.{Question}
use Rattle.why_facts.specs.declared.notes.JobNotes.{JobNotes}
use Rattle.command_why.specs.Parts.{job_parts}

jobs_next : (jobs : List JobNotes) (i : ℕ) → i < length jobs → job_parts i (drop i jobs) ≡ Question.Job i ∷ job_parts (i + 1) (drop (i + 1) jobs)
jobs_next jobs i h =
    let there = slice_get_there jobs i h in
    let is : there.0 ≡ get_or jobs i there.0 = sym (get_or_from_slice_get jobs i there.0 there.0 there.1) in
    let one : suc i ≡ i + 1 = omega arith in
    ap (job_parts i) (drop-next jobs i there.0 h is) ∙ ap (λ (k : ℕ). Question.Job i ∷ job_parts k (drop (i + 1) jobs)) one

-- where the jobs from a number on were left, those after it are left once it was added
pub jobs_left : (jobs : List JobNotes) (i : ℕ) (old new all : List Question) → i < length jobs → new ≡ old ++ Question.Job i ∷ []
    → old ++ job_parts i (drop i jobs) ≡ all → new ++ job_parts (i + 1) (drop (i + 1) jobs) ≡ all
jobs_left jobs i old new all h added before =
    let rest : List Question = job_parts (i + 1) (drop (i + 1) jobs) in
    ap (λ (qs : List Question). qs ++ rest) added
    ∙ (append_assoc old (Question.Job i ∷ []) rest ∙ (sym (ap (λ (qs : List Question). old ++ qs) (jobs_next jobs i h)) ∙ before))
