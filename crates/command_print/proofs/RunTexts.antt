-- Where runs stand on a board and on the one before it, and what is told of them.
use Rattle.std.proofs.Common.{◌≡◌, ◌+◌, ◌-◌, ◌<◌, ◌≤◌, get_or, ℕ, List, [], ◌∷◌, ◌++◌, length, take, drop, map, refl, sym, ap, ◌∙◌, subst, arith}
use Rattle.std.proofs.Math.Seq.{drop-append_seam, take-append_seam}
use Rattle.std.proofs.lemmas.List.{drop-drop, drop_all, drop_more, length-append, length-map, map-append}
use Rattle.std.proofs.lemmas.List.Concat.{flat_map-append}
use Rattle.std.specs.List.{flat_map}
use Rattle.status_table.specs.Words.{Board, Job, Leg, Run, board_legs, run_sizes, sizes}
use Rattle.plan_text.specs.BoardText.{legs_count}
use Rattle.plan_text.specs.Changes.{after_jobs}
use Rattle.command_print.proofs.ChangeLemmas.{at_place}
use Rattle.command_print.specs.Touched.{JobsKeep, KeepsUntouched, RunsStand, StandAlike, next_numbers}
use Rattle.command_print.specs.declared.index.Index.{Index}
use Rattle.command_print.specs.declared.touched.Touched.{Touched}

abbrev jobs_of : List Run → List Job
jobs_of runs = flat_map (λ run. run.jobs) runs

abbrev legs_of : List Job → List Leg
legs_of jobs = flat_map (λ job. job.legs) jobs

-- ---- lists

split : {A : Type 0} (xs ys us vs : List A) → xs ++ ys ≡ us ++ vs → length xs ≡ length us → (xs ≡ us) × (ys ≡ vs)
split [] ys [] vs same size = (refl, same)
split [] ys (u ∷ us) vs same size = absurd (omega (arith, size))
split (x ∷ xs) ys [] vs same size = absurd (omega (arith, size))
split (x ∷ xs) ys (u ∷ us) vs same size =
    let first : x ≡ u = cc in
    let others : xs ++ ys ≡ us ++ vs = cc in
    let rest = split xs ys us vs others (omega (arith, size)) in
    (λ i. first i ∷ rest.0 i, rest.1)

map-split : {A B : Type 0} (g : A → B) (xs ys us vs : List A) → map g (xs ++ ys) ≡ map g (us ++ vs) → length xs ≡ length us → (map g xs ≡ map g us) × (map g ys ≡ map g vs)
map-split g xs ys us vs same size =
    split (map g xs) (map g ys) (map g us) (map g vs) (sym (map-append g xs ys) ∙ same ∙ map-append g us vs) (length-map xs g ∙ size ∙ sym (length-map us g))

-- ---- legs in jobs

counted : (jobs : List Job) → legs_count jobs ≡ length (legs_of jobs)
counted [] = refl
counted (job ∷ jobs) = ap (λ n. length job.legs + n) (counted jobs) ∙ sym (length-append job.legs (legs_of jobs))

pub same-count : (was jobs : List Job) → sizes was ≡ sizes jobs → legs_count was ≡ legs_count jobs
same-count [] [] same = refl
same-count [] (job ∷ jobs) same = absurd (cc)
same-count (w ∷ was) [] same = absurd (cc)
same-count (w ∷ was) (job ∷ jobs) same =
    let first : length w.legs ≡ length job.legs = cc in
    let others : sizes was ≡ sizes jobs = cc in
    let rest = same-count was jobs others in
    λ i. first i + rest i

pub same-length : (was jobs : List Job) → sizes was ≡ sizes jobs → length was ≡ length jobs
same-length was jobs same = sym (length-map was (λ (job : Job). length job.legs)) ∙ ap length same ∙ length-map jobs (λ (job : Job). length job.legs)

-- the legs of a run, and those after them
cut : (first count : ℕ) (all mine rest : List Leg) → drop first all ≡ mine ++ rest → count ≡ length mine
    → (take (first + count - first) (drop first all) ≡ mine) × (drop (first + count) all ≡ rest)
cut first count all mine rest is size =
    let here : first + count - first ≡ length mine = omega (arith, size) in (
      ap (λ k. take k (drop first all)) here ∙ ap (take (length mine)) is ∙ take-append_seam mine rest,
      sym (drop-drop count first all) ∙ ap (drop count) is ∙ ap (λ k. drop k (mine ++ rest)) size ∙ drop-append_seam mine rest,
    )

-- ---- runs from a place on

-- The runs that are left, whose jobs and legs have the numbers from two on, beside those before them.
pub record RunsLeft (touched : Touched) (before board : Board) (first : ℕ × ℕ) (was runs : List Run) (next : List (ℕ × ℕ)) : Type 0 where
  pub numbers : next ≡ next_numbers first runs
  pub legs : drop first.1 (board_legs board) ≡ legs_of (jobs_of runs)
  pub legs_before : drop first.1 (board_legs before) ≡ legs_of (jobs_of was)
  pub shape : run_sizes was ≡ run_sizes runs
  pub keeps : JobsKeep touched (jobs_of was) (jobs_of runs)

pub runs-stand : (touched : Touched) (index : Index) (before board : Board) → StandAlike index before board → KeepsUntouched touched before board
    → RunsLeft touched before board (0, 0) before.runs board.runs index.next.items
runs-stand touched index before board alike keeps =
    record { numbers = alike.here.next; legs = refl; legs_before = refl; shape = alike.shape; keeps = by touched keeps }
  where
    by : (touched : Touched) → KeepsUntouched touched before board → JobsKeep touched (jobs_of before.runs) (jobs_of board.runs)
    by Touched.Jobs same = same
    by (Touched.Legs members) others = others.states

keeps-apart : (touched : Touched) (was before jobs later : List Job) → length jobs ≡ length was → JobsKeep touched (was ++ before) (jobs ++ later)
    → JobsKeep touched was jobs × JobsKeep touched before later
keeps-apart Touched.Jobs was before jobs later size same = map-split (λ (job : Job). job.legs) jobs later was before same size
keeps-apart (Touched.Legs members) was before jobs later size same = map-split (λ (job : Job). job.state) jobs later was before same size

-- what is known of a run, and of those after it
pub record NextRun (touched : Touched) (before board : Board) (first n : ℕ × ℕ) (w run : Run) (was runs : List Run) (next : List (ℕ × ℕ)) : Type 0 where
  pub stand : RunsStand touched first before board w run
  pub number : n ≡ after_jobs first run.jobs
  pub left : RunsLeft touched before board n was runs next

next-run : (touched : Touched) (before board : Board) (first n : ℕ × ℕ) (w run : Run) (was runs : List Run) (next : List (ℕ × ℕ))
    → RunsLeft touched before board first (w ∷ was) (run ∷ runs) (n ∷ next) → NextRun touched before board first n w run was runs next
next-run touched before board first n w run was runs next left = record {
  stand = record { size = size; keeps = keeps.0; legs = mine.0; legs_before = theirs.0 };
  number = number;
  left = subst (λ (k : ℕ × ℕ). RunsLeft touched before board k was runs next) (sym number)
      (record { numbers = numbers; legs = mine.1; legs_before = theirs.1; shape = shape; keeps = keeps.1 });
}
  where
    left_shape : sizes w.jobs ∷ run_sizes was ≡ sizes run.jobs ∷ run_sizes runs
    left_shape = left.shape

    size : sizes w.jobs ≡ sizes run.jobs
    size = let shapes = left_shape in cc

    shape : run_sizes was ≡ run_sizes runs
    shape = let shapes = left_shape in cc

    left_numbers : n ∷ next ≡ after_jobs first run.jobs ∷ next_numbers (after_jobs first run.jobs) runs
    left_numbers = left.numbers

    number : n ≡ after_jobs first run.jobs
    number = let numbers = left_numbers in cc

    numbers : next ≡ next_numbers (after_jobs first run.jobs) runs
    numbers = let numbers = left_numbers in cc

    mine : (take (first.1 + legs_count run.jobs - first.1) (drop first.1 (board_legs board)) ≡ legs_of run.jobs) × (drop (first.1 + legs_count run.jobs) (board_legs board) ≡ legs_of (jobs_of runs))
    mine = cut first.1 (legs_count run.jobs) (board_legs board) (legs_of run.jobs) (legs_of (jobs_of runs))
        (left.legs ∙ flat_map-append (λ (job : Job). job.legs) run.jobs (jobs_of runs)) (counted run.jobs)

    theirs : (take (first.1 + legs_count run.jobs - first.1) (drop first.1 (board_legs before)) ≡ legs_of w.jobs) × (drop (first.1 + legs_count run.jobs) (board_legs before) ≡ legs_of (jobs_of was))
    theirs = cut first.1 (legs_count run.jobs) (board_legs before) (legs_of w.jobs) (legs_of (jobs_of was))
        (left.legs_before ∙ flat_map-append (λ (job : Job). job.legs) w.jobs (jobs_of was)) (sym (same-count w.jobs run.jobs size) ∙ counted w.jobs)

    keeps : JobsKeep touched w.jobs run.jobs × JobsKeep touched (jobs_of was) (jobs_of runs)
    keeps = keeps-apart touched w.jobs (jobs_of was) run.jobs (jobs_of runs) (sym (same-length w.jobs run.jobs size)) left.keeps

next-at : (touched : Touched) (before board : Board) (first n : ℕ × ℕ) (w run : Run) (was runs : List Run) (next : List (ℕ × ℕ)) (i : ℕ) → drop i was ≡ w ∷ drop (i + 1) was
    → drop i runs ≡ run ∷ drop (i + 1) runs → drop i next ≡ n ∷ drop (i + 1) next → RunsLeft touched before board first (drop i was) (drop i runs) (drop i next)
    → NextRun touched before board first n w run (drop (i + 1) was) (drop (i + 1) runs) (drop (i + 1) next)
next-at touched before board first n w run was runs next i was_is run_is next_is left =
    next-run touched before board first n w run (drop (i + 1) was) (drop (i + 1) runs) (drop (i + 1) next)
    (subst (λ (ns : List (ℕ × ℕ)). RunsLeft touched before board first (w ∷ drop (i + 1) was) (run ∷ drop (i + 1) runs) ns) next_is
    (subst (λ (rs : List Run). RunsLeft touched before board first (w ∷ drop (i + 1) was) rs (drop i next)) run_is
    (subst (λ (ws : List Run). RunsLeft touched before board first ws (drop i runs) (drop i next)) was_is left)))

-- an item that is found at a place of a list
pub record IsFound {X : Type 0} (xs : List X) (i : ℕ) (x : X) : Type 0 where
  pub within : i < length xs
  pub is : x ≡ get_or xs i x

pub found-in : {X : Type 0} (slice xs : List X) (i : ℕ) (x : X) → slice ≡ xs → i < length slice → x ≡ get_or slice i x → IsFound xs i x
found-in {X} slice xs i x same within is = subst (λ (ys : List X). IsFound ys i x) same (record { within = within; is = is })

-- so it is with what is found at a place
pub found-run : (touched : Touched) (before board : Board) (first : ℕ × ℕ) (w run : Run) (was runs : List Run) (next slice : List (ℕ × ℕ)) (i : ℕ) → IsFound was i w → IsFound runs i run
    → slice ≡ next → i < length slice → RunsLeft touched before board first (drop i was) (drop i runs) (drop i next)
    → NextRun touched before board first (get_or slice i (0, 0)) w run (drop (i + 1) was) (drop (i + 1) runs) (drop (i + 1) next)
found-run touched before board first w run was runs next slice i w_found run_found same within left =
    let n = get_or slice i (0, 0) in
    next-at touched before board first n w run was runs next i (at_place was i w w_found.within w_found.is) (at_place runs i run run_found.within run_found.is)
    (subst (λ (ns : List (ℕ × ℕ)). drop i ns ≡ n ∷ drop (i + 1) ns) same (drop_more slice i (0, 0) within)) left

no-runs : (first : ℕ × ℕ) (runs : List Run) → [] ≡ next_numbers first runs → runs ≡ []
no-runs first [] is = refl
no-runs first (run ∷ runs) is = absurd (cc)

-- where no numbers are left, no runs are
pub none-left : (touched : Touched) (before board : Board) (first : ℕ × ℕ) (was runs : List Run) (next slice : List (ℕ × ℕ)) (i : ℕ) → slice ≡ next → length slice ≤ i
    → RunsLeft touched before board first (drop i was) (drop i runs) (drop i next) → drop i runs ≡ []
none-left touched before board first was runs next slice i same end left =
    no-runs first (drop i runs) (sym (drop_all i slice end) ∙ ap (drop i) same ∙ left.numbers)
