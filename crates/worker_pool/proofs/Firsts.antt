-- The first leg that may be taken, in the parts of a list and in the whole.
use Rattle.std.proofs.Common.{◌≡◌, ℕ, zero, suc, ◌+◌, ◌<◌, Bool, true, false, List, [], ◌∷◌, ◌++◌, Option, Some, None, length, slice_get, get_or, drop, cond, flat_map, ap, subst, sym, refl, ◌∙◌, arith}
use Rattle.std.specs.List.{position_from}
use Rattle.std.proofs.lemmas.Bool.{true≢false}
use Rattle.std.proofs.lemmas.List.{drop_more, length-append}
use Rattle.std.proofs.lemmas.List.Concat.{flat_map-append}
use Rattle.status_table.specs.Words.{Board, Job, Leg, LegState, Run, board_legs}
use Rattle.board_decisions.proofs.Lists.{no_some, same_some}
use Rattle.worker_pool.specs.Alone.{is_admitted, IsLowestAdmitted}
use Rattle.worker_pool.specs.Lowest.{IsFirstAdmitted}

-- whether a leg may be taken
abbrev pub is_free : Leg → Bool
is_free leg = is_admitted leg.state

-- ---- the parts of a list

-- a first leg of the first part is that of the whole
pub found_before : (n k : ℕ) (xs ys : List Leg) → position_from is_free n xs ≡ Some k → position_from is_free n (xs ++ ys) ≡ Some k
found_before n k [] ys is = absurd (no_some k is)
found_before n k (x ∷ xs) ys is = by (found_before (n + 1) k xs ys) (is_free x) is
  where
    by : (position_from is_free (n + 1) xs ≡ Some k → position_from is_free (n + 1) (xs ++ ys) ≡ Some k)
        → (b : Bool) → cond b (Some n) (position_from is_free (n + 1) xs) ≡ Some k → cond b (Some n) (position_from is_free (n + 1) (xs ++ ys)) ≡ Some k
    by rest true here = here
    by rest false later = rest later

-- where the first part has none, the first leg of the second part is that of the whole
pub found_after : (n : ℕ) (xs ys : List Leg) → position_from is_free n xs ≡ None → position_from is_free n (xs ++ ys) ≡ position_from is_free (n + length xs) ys
found_after n [] ys is = let e : n ≡ n + 0 = omega arith in ap (λ m. position_from is_free m ys) e
found_after n (x ∷ xs) ys is = by (found_after (n + 1) xs ys) (is_free x) is
  where
    by : (position_from is_free (n + 1) xs ≡ None → position_from is_free (n + 1) (xs ++ ys) ≡ position_from is_free (n + 1 + length xs) ys)
        → (b : Bool) → cond b (Some n) (position_from is_free (n + 1) xs) ≡ None → cond b (Some n) (position_from is_free (n + 1) (xs ++ ys)) ≡ position_from is_free (n + suc (length xs)) ys
    by rest true here = absurd (no_some n (sym here))
    by rest false later =
        let e : n + 1 + length xs ≡ n + suc (length xs) = omega arith in
        rest later ∙ ap (λ m. position_from is_free m ys) e

-- ---- a part more

-- What is left of the legs is a part and the rest.
job_there : (jobs : List Job) (i : ℕ) (job : Job) (legs : List Leg) → i < length jobs → job ≡ get_or jobs i job → legs ≡ job.legs
    → flat_map (λ job. job.legs) (drop i jobs) ≡ legs ++ flat_map (λ job. job.legs) (drop (i + 1) jobs)
job_there jobs i job legs h at are =
    let here : drop i jobs ≡ job ∷ drop (i + 1) jobs = drop_more jobs i job h ∙ ap (λ (x : Job). x ∷ drop (i + 1) jobs) (sym at) in
    ap (flat_map (λ job. job.legs)) here ∙ ap (λ l. l ++ flat_map (λ job. job.legs) (drop (i + 1) jobs)) (sym are)

run_there : (runs : List Run) (i : ℕ) (run : Run) (jobs : List Job) → i < length runs → run ≡ get_or runs i run → jobs ≡ run.jobs
    → flat_map (λ job. job.legs) (flat_map (λ run. run.jobs) (drop i runs))
    ≡ flat_map (λ job. job.legs) jobs ++ flat_map (λ job. job.legs) (flat_map (λ run. run.jobs) (drop (i + 1) runs))
run_there runs i run jobs h at are =
    let here : drop i runs ≡ run ∷ drop (i + 1) runs = drop_more runs i run h ∙ ap (λ (x : Run). x ∷ drop (i + 1) runs) (sym at) in
    ap (λ rs. flat_map (λ job. job.legs) (flat_map (λ run. run.jobs) rs)) here
    ∙ flat_map-append (λ job. job.legs) run.jobs (flat_map (λ run. run.jobs) (drop (i + 1) runs))
    ∙ ap (λ js. flat_map (λ job. job.legs) js ++ flat_map (λ job. job.legs) (flat_map (λ run. run.jobs) (drop (i + 1) runs))) (sym are)

-- the first leg of the part is that of the whole
found_in : (all left part rest : List Leg) (before number found : ℕ) → left ≡ part ++ rest → position_from is_free before all ≡ position_from is_free number left
    → position_from is_free number part ≡ Some found → position_from is_free before all ≡ Some found
found_in all left part rest before number found are invariant is =
    invariant ∙ ap (position_from is_free number) are ∙ found_before number found part rest is

-- what is still known where the part has none
abbrev pub Passed : List Leg → List Leg → ℕ → ℕ → Type 0
Passed all left before number = (position_from is_free before all ≡ position_from is_free number left) × (before + length all ≡ number + length left)

passed : (all left part rest : List Leg) (before number : ℕ) → left ≡ part ++ rest → Passed all left before number → position_from is_free number part ≡ None
    → Passed all rest before (number + length part)
passed all left part rest before number are invariant none =
    let count : length left ≡ length part + length rest = ap length are ∙ length-append part rest in
    (invariant.0 ∙ ap (position_from is_free number) are ∙ found_after number part rest none, omega (arith, invariant.1, count))

pub job_found : (jobs : List Job) (i : ℕ) (job : Job) (legs : List Leg) (before number found : ℕ) → i < length jobs → job ≡ get_or jobs i job → legs ≡ job.legs
    → position_from is_free before (flat_map (λ job. job.legs) jobs) ≡ position_from is_free number (flat_map (λ job. job.legs) (drop i jobs))
    → Some found ≡ position_from is_free number legs
    → position_from is_free before (flat_map (λ job. job.legs) jobs) ≡ Some found
job_found jobs i job legs before number found h at are invariant is =
    found_in (flat_map (λ job. job.legs) jobs) (flat_map (λ job. job.legs) (drop i jobs)) legs (flat_map (λ job. job.legs) (drop (i + 1) jobs)) before number found (job_there jobs i job legs h at are) invariant (sym is)

pub job_passed : (jobs : List Job) (i : ℕ) (job : Job) (legs : List Leg) (before number : ℕ) → i < length jobs → job ≡ get_or jobs i job → legs ≡ job.legs
    → Passed (flat_map (λ job. job.legs) jobs) (flat_map (λ job. job.legs) (drop i jobs)) before number
    → None ≡ position_from is_free number legs
    → Passed (flat_map (λ job. job.legs) jobs) (flat_map (λ job. job.legs) (drop (i + 1) jobs)) before (number + length legs)
job_passed jobs i job legs before number h at are invariant is =
    passed (flat_map (λ job. job.legs) jobs) (flat_map (λ job. job.legs) (drop i jobs)) legs (flat_map (λ job. job.legs) (drop (i + 1) jobs)) before number (job_there jobs i job legs h at are) invariant (sym is)

pub run_found : (all : List Leg) (runs : List Run) (i : ℕ) (run : Run) (jobs : List Job) (number found : ℕ) → i < length runs → run ≡ get_or runs i run → jobs ≡ run.jobs
    → position_from is_free 0 all ≡ position_from is_free number (flat_map (λ job. job.legs) (flat_map (λ run. run.jobs) (drop i runs)))
    → position_from is_free number (flat_map (λ job. job.legs) jobs) ≡ Some found
    → position_from is_free 0 all ≡ Some found
run_found all runs i run jobs number found h at are invariant is =
    found_in all (flat_map (λ job. job.legs) (flat_map (λ run. run.jobs) (drop i runs))) (flat_map (λ job. job.legs) jobs) (flat_map (λ job. job.legs) (flat_map (λ run. run.jobs) (drop (i + 1) runs))) 0 number found (run_there runs i run jobs h at are) invariant is

pub run_passed : (all : List Leg) (runs : List Run) (i : ℕ) (run : Run) (jobs : List Job) (number next : ℕ) → i < length runs → run ≡ get_or runs i run → jobs ≡ run.jobs
    → Passed all (flat_map (λ job. job.legs) (flat_map (λ run. run.jobs) (drop i runs))) 0 number
    → position_from is_free number (flat_map (λ job. job.legs) jobs) ≡ None
    → next ≡ number + length (flat_map (λ job. job.legs) jobs)
    → Passed all (flat_map (λ job. job.legs) (flat_map (λ run. run.jobs) (drop (i + 1) runs))) 0 next
run_passed all runs i run jobs number next h at are invariant is after =
    rw after (passed all (flat_map (λ job. job.legs) (flat_map (λ run. run.jobs) (drop i runs))) (flat_map (λ job. job.legs) jobs) (flat_map (λ job. job.legs) (flat_map (λ run. run.jobs) (drop (i + 1) runs))) 0 number (run_there runs i run jobs h at are) invariant is)

-- ---- what the first leg is

-- Leg k may be taken, and none before it.
record IsFirst (xs : List Leg) (k : ℕ) : Type 0 where
  leg : Leg
  there : slice_get xs k ≡ Some leg
  free : is_free leg ≡ true
  first : (j : ℕ) (other : Leg) → j < k → slice_get xs j ≡ Some other → is_free other ≡ false

-- none before leg k of the others may be taken, nor the one before them
behind : (x : Leg) (xs : List Leg) (k : ℕ) → is_free x ≡ false → ((j : ℕ) (other : Leg) → j < k → slice_get xs j ≡ Some other → is_free other ≡ false)
    → (j : ℕ) (other : Leg) → j < suc k → slice_get (x ∷ xs) j ≡ Some other → is_free other ≡ false
behind x xs k not_free first zero other below at = subst (λ y. is_free y ≡ false) (same_some x other at) not_free
behind x xs k not_free first (suc j) other below at = first j other (omega (arith, below)) at

one_later : (x : Leg) (xs : List Leg) (k : ℕ) → is_free x ≡ false → IsFirst xs k → IsFirst (x ∷ xs) (suc k)
one_later x xs k not_free h = record { leg = h.leg; there = h.there; free = h.free; first = behind x xs k not_free h.first }

first_there : (n m : ℕ) (xs : List Leg) → position_from is_free n xs ≡ Some m → (k : ℕ) × (m ≡ n + k) × IsFirst xs k
first_there n m [] is = absurd (no_some m is)
first_there n m (x ∷ xs) is = by (first_there (n + 1) m xs) (is_free x) refl is
  where
    by : (position_from is_free (n + 1) xs ≡ Some m → (k : ℕ) × (m ≡ n + 1 + k) × IsFirst xs k)
        → (b : Bool) → is_free x ≡ b → cond b (Some n) (position_from is_free (n + 1) xs) ≡ Some m → (k : ℕ) × (m ≡ n + k) × IsFirst (x ∷ xs) k
    by rest true free here = (0, omega (arith, same_some n m here), record { leg = x; there = refl; free = free; first = λ j other below at. absurd (omega (arith, below)) })
    by rest false not_free later = let h = rest later in (suc h.0, omega (arith, h.1), one_later x xs h.0 not_free h.2)

none_there : (n : ℕ) (xs : List Leg) → position_from is_free n xs ≡ None → (j : ℕ) (other : Leg) → slice_get xs j ≡ Some other → is_free other ≡ false
none_there n [] is = λ j other at. absurd (no_some other at)
none_there n (x ∷ xs) is = by (none_there (n + 1) xs) (is_free x) refl is
  where
    by : (position_from is_free (n + 1) xs ≡ None → (j : ℕ) (other : Leg) → slice_get xs j ≡ Some other → is_free other ≡ false)
        → (b : Bool) → is_free x ≡ b → cond b (Some n) (position_from is_free (n + 1) xs) ≡ None → (j : ℕ) (other : Leg) → slice_get (x ∷ xs) j ≡ Some other → is_free other ≡ false
    by rest true free here j other at = absurd (no_some n (sym here))
    by rest false not_free later zero other at = subst (λ y. is_free y ≡ false) (same_some x other at) not_free
    by rest false not_free later (suc j) other at = rest later j other at

admitted : (state : LegState) → is_admitted state ≡ true → state ≡ LegState.Admitted
admitted LegState.Fresh is = absurd (true≢false (sym is))
admitted LegState.Waiting is = absurd (true≢false (sym is))
admitted LegState.Admitted is = refl
admitted (LegState.Running worker in_call) is = absurd (true≢false (sym is))
admitted (LegState.Ended result tolerated) is = absurd (true≢false (sym is))

-- the first leg of a board that may be taken is the lowest
pub lowest_first : (b : Board) (o : Option ℕ) → o ≡ position_from is_free 0 (board_legs b) → IsFirstAdmitted b o
lowest_first b None is = none_there 0 (board_legs b) (sym is)
lowest_first b (Some m) is =
    let found = first_there 0 m (board_legs b) (sym is) in
    let is_number : found.0 ≡ m = omega (arith, found.1) in
    subst (IsLowestAdmitted b) is_number record {
      leg = found.2.leg;
      there = found.2.there;
      admitted = admitted found.2.leg.state found.2.free;
      lowest = found.2.first;
    }
