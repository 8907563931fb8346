-- Boards of one plan have one shape, and so one index.
use Rattle.std.proofs.Common.{◌≡◌, ◌+◌, ℕ, List, [], ◌∷◌, length, map, refl, sym, ap, subst, ◌∙◌}
use Rattle.std.specs.List.{AllZip}
use Rattle.status_table.specs.Words.{Board, InPlay, Job, JobPlan, JobShape, Plan, Run, RunPlan, RunShape, all_legs_from, run_sizes, sizes}
use Rattle.plan_text.specs.Changes.{after_jobs}
use Rattle.command_print.specs.Touched.{IsIndexOf, StandAlike, next_numbers}
use Rattle.command_print.specs.declared.index.Index.{Index}
use Rattle.command_print.proofs.RunTexts.{same-count, same-length}

abbrev planned : List JobPlan → List ℕ
planned plans = map (λ (job : JobPlan). length job.legs) plans

jobs-shape : (plans : List JobPlan) (jobs : List Job) → AllZip JobShape plans jobs → sizes jobs ≡ planned plans
jobs-shape [] [] fits = refl
jobs-shape [] (job ∷ jobs) fits = absurd fits
jobs-shape (plan ∷ plans) [] fits = absurd fits
jobs-shape (plan ∷ plans) (job ∷ jobs) fits = λ i. fits.0.legs i ∷ jobs-shape plans jobs fits.1 i

runs-shape : (plans : List RunPlan) (runs : List Run) → AllZip RunShape plans runs → run_sizes runs ≡ map (λ (run : RunPlan). planned run.jobs) plans
runs-shape [] [] fits = refl
runs-shape [] (run ∷ runs) fits = absurd fits
runs-shape (plan ∷ plans) [] fits = absurd fits
runs-shape (plan ∷ plans) (run ∷ runs) fits = λ i. jobs-shape plan.jobs run.jobs fits.0 i ∷ runs-shape plans runs fits.1 i

one-shape : (p : Plan) (b c : Board) → InPlay p b → InPlay p c → run_sizes b.runs ≡ run_sizes c.runs
one-shape p b c one other = runs-shape p.runs b.runs one.shape ∙ sym (runs-shape p.runs c.runs other.shape)

same-after : (first : ℕ × ℕ) (was jobs : List Job) → sizes was ≡ sizes jobs → after_jobs first was ≡ after_jobs first jobs
same-after first was jobs same = λ i. (first.0 + same-length was jobs same i, first.1 + same-count was jobs same i)

same-next : (first : ℕ × ℕ) (was runs : List Run) → run_sizes was ≡ run_sizes runs → next_numbers first was ≡ next_numbers first runs
same-next first [] [] same = refl
same-next first [] (run ∷ runs) same = absurd (cc)
same-next first (w ∷ was) [] same = absurd (cc)
same-next first (w ∷ was) (run ∷ runs) same =
    let here : sizes w.jobs ≡ sizes run.jobs = cc in
    let others : run_sizes was ≡ run_sizes runs = cc in
    let after = same-after first w.jobs run.jobs here in
    ap (λ (n : ℕ × ℕ). n ∷ next_numbers n was) after
    ∙ ap (λ (ns : List (ℕ × ℕ)). after_jobs first run.jobs ∷ ns) (same-next (after_jobs first run.jobs) was runs others)

-- an index of a board is that of each board of its shape
same-index : (index : Index) (b c : Board) → run_sizes b.runs ≡ run_sizes c.runs → IsIndexOf index b → IsIndexOf index c
same-index index b c same is =
    record { next = is.next ∙ same-next (0, 0) b.runs c.runs same; legs = is.legs ∙ ap (all_legs_from 0) same }

-- boards of one plan, of which one has an index, are alike
pub boards-alike : (index : Index) (p q : Plan) (before board : Board) → p ≡ q → InPlay p before → InPlay q board → IsIndexOf index before → StandAlike index before board
boards-alike index p q before board same there here is =
    let shape = one-shape q before board (subst (λ (r : Plan). InPlay r before) same there) here in
    record { shape = shape; here = same-index index before board shape is; there = is }
