-- A leg that has ended stays as it was, by its number; and each leg stands where it stood.
use Rattle.std.proofs.Common.{◌≡◌, ℕ, zero, suc, true, List, [], ◌∷◌, ◌++◌, Option, Some, length, refl, ap, sym, ◌∙◌}
use Rattle.std.specs.Prelude.{slice_get}
use Rattle.std.specs.List.{flat_map, AllZip}
use Rattle.status_table.specs.Words.{Board, Job, JobStays, Leg, LegPlace, LegStays, Run, RunStays, Stays, all_legs_from, board_jobs, board_legs, is_ended, leg_places, leg_there, run_sizes, sizes, ◌>>=◌}
use Rattle.board_decisions.proofs.Placed.{leg_placed}
use Rattle.status_table.proofs.Numbers.{legs_are_numbered}
use Rattle.debugger.specs.Breaks.{ended_failing, passes}

-- two lists side by side before two others
zip-both : {A B : Type 0} (R : A → B → Type 0) (xs us : List A) (ys vs : List B) → AllZip R xs ys → AllZip R us vs → AllZip R (xs ++ us) (ys ++ vs)
zip-both R [] us [] vs h k = k
zip-both R [] us (y ∷ ys) vs h k = absurd h
zip-both R (x ∷ xs) us [] vs h k = absurd h
zip-both R (x ∷ xs) us (y ∷ ys) vs h k = (h.0, zip-both R xs us ys vs h.1 k)

-- lists made of others side by side
zip-flat : {A B C D : Type 0} (R : A → B → Type 0) (S : C → D → Type 0) (f : A → List C) (g : B → List D) → ((x : A) (y : B) → R x y → AllZip S (f x) (g y))
    → (xs : List A) (ys : List B) → AllZip R xs ys → AllZip S (flat_map f xs) (flat_map g ys)
zip-flat R S f g step [] [] h = h
zip-flat R S f g step [] (y ∷ ys) h = absurd h
zip-flat R S f g step (x ∷ xs) [] h = absurd h
zip-flat R S f g step (x ∷ xs) (y ∷ ys) h = zip-both S (f x) (flat_map f xs) (g y) (flat_map g ys) (step x y h.0) (zip-flat R S f g step xs ys h.1)

legs-stay : (old new : Board) → Stays old new → AllZip LegStays (board_legs old) (board_legs new)
legs-stay old new stays =
    zip-flat (λ (x y : Job). AllZip LegStays x.legs y.legs) LegStays (λ (job : Job). job.legs) (λ (job : Job). job.legs) (λ x y h. h) (board_jobs old) (board_jobs new)
    (zip-flat RunStays (λ (x y : Job). AllZip LegStays x.legs y.legs) (λ (run : Run). run.jobs) (λ (run : Run). run.jobs)
    (λ x y h. jobs x y x.jobs y.jobs h.jobs) old.runs new.runs stays)
  where
    jobs : (a b : Run) (xs ys : List Job) → AllZip (JobStays a b) xs ys → AllZip (λ (x y : Job). AllZip LegStays x.legs y.legs) xs ys
    jobs a b [] [] h = h
    jobs a b [] (y ∷ ys) h = absurd h
    jobs a b (x ∷ xs) [] h = absurd h
    jobs a b (x ∷ xs) (y ∷ ys) h = (h.0.legs, jobs a b xs ys h.1)

-- one that had ended has failed only if it had
at-number : (xs ys : List Leg) (l : ℕ) → AllZip LegStays xs ys → passes is_ended (slice_get xs l) ≡ true → slice_get ys l ≡ slice_get xs l
at-number [] [] l h ended = refl
at-number [] (y ∷ ys) l h ended = absurd h
at-number (x ∷ xs) [] l h ended = absurd h
at-number (x ∷ xs) (y ∷ ys) zero h ended = ap Some (h.0 ended)
at-number (x ∷ xs) (y ∷ ys) (suc l) h ended = at-number xs ys l h.1 ended

pub failed-stays : (old new : Board) (l : ℕ) → Stays old new → passes is_ended (slice_get (board_legs old) l) ≡ true
    → passes ended_failing (slice_get (board_legs new) l) ≡ true → passes ended_failing (slice_get (board_legs old) l) ≡ true
failed-stays old new l stays ended failed =
    ap (passes ended_failing) (sym (at-number (board_legs old) (board_legs new) l (legs-stay old new stays) ended)) ∙ failed

-- ---- where legs stand

zip-length : {A B : Type 0} (R : A → B → Type 0) (xs : List A) (ys : List B) → AllZip R xs ys → length ys ≡ length xs
zip-length R [] [] h = refl
zip-length R [] (y ∷ ys) h = absurd h
zip-length R (x ∷ xs) [] h = absurd h
zip-length R (x ∷ xs) (y ∷ ys) h = ap suc (zip-length R xs ys h.1)

sizes-stay : (a b : Run) (xs ys : List Job) → AllZip (JobStays a b) xs ys → sizes ys ≡ sizes xs
sizes-stay a b [] [] h = refl
sizes-stay a b [] (y ∷ ys) h = absurd h
sizes-stay a b (x ∷ xs) [] h = absurd h
sizes-stay a b (x ∷ xs) (y ∷ ys) h =
    ap (λ n. n ∷ sizes ys) (zip-length LegStays x.legs y.legs h.0.legs) ∙ ap (λ ns. length x.legs ∷ ns) (sizes-stay a b xs ys h.1)

run_sizes-stay : (xs ys : List Run) → AllZip RunStays xs ys → run_sizes ys ≡ run_sizes xs
run_sizes-stay [] [] h = refl
run_sizes-stay [] (y ∷ ys) h = absurd h
run_sizes-stay (x ∷ xs) [] h = absurd h
run_sizes-stay (x ∷ xs) (y ∷ ys) h =
    ap (λ ns. ns ∷ run_sizes ys) (sizes-stay x y x.jobs y.jobs h.0.jobs) ∙ ap (λ nss. sizes x.jobs ∷ nss) (run_sizes-stay xs ys h.1)

-- legs stand where they stood
pub places-stay : (old new : Board) → Stays old new → leg_places new ≡ leg_places old
places-stay old new stays = ap (all_legs_from 0) (run_sizes-stay old.runs new.runs stays)

-- the leg that is found by the place of its number
pub leg-found : (b : Board) (places : List LegPlace) (n : ℕ) → places ≡ leg_places b → (slice_get places n >>= leg_there b) ≡ slice_get (board_legs b) n
leg-found b places n is =
    ap (λ (ps : List LegPlace). slice_get ps n >>= leg_there b) is ∙ ap (λ (o : Option LegPlace). o >>= leg_there b) (leg_placed b n) ∙ (legs_are_numbered b).there n
