-- The text of a board, piece by piece: what has which number.
use Rattle.std.proofs.Common.{◌≡◌, ℕ, suc, ◌+◌, List, [], ◌∷◌, ◌++◌, length, refl, sym, ap, ◌∙◌, append_assoc, arith}
use Rattle.std.proofs.lemmas.Grind.{flat_map-append}
use Rattle.std.proofs.lemmas.List.{length-append}
use Rattle.std.specs.List.{flat_map}
use Rattle.flow_model.specs.declared.board.Board.{Board}
use Rattle.flow_model.specs.declared.board.Run.{Run}
use Rattle.flow_model.specs.declared.board.Job.{Job}
use Rattle.flow_model.specs.declared.board.Leg.{Leg}
use Rattle.plan_text.specs.BoardNumbers.{Piece, run_piece, job_piece, leg_piece, piece_text, shown_run, shown_job, shown_leg, numbered, NumbersByPlace}
use Rattle.plan_text.specs.BoardText.{job_line, run_line, leg_text, legs_text, jobs_text, legs_count, runs_text, ends_line, board_text}

abbrev legs_pieces : ℕ → List Leg → List Piece
legs_pieces l [] = []
legs_pieces l (leg ∷ legs) = leg_piece l leg ∷ legs_pieces (suc l) legs

abbrev jobs_pieces : ℕ → ℕ → List Job → List Piece
jobs_pieces j l [] = []
jobs_pieces j l (job ∷ jobs) = job_piece j job ∷ (legs_pieces l job.legs ++ jobs_pieces (suc j) (l + length job.legs) jobs)

abbrev runs_pieces : ℕ → ℕ → ℕ → List Run → List Piece
runs_pieces r j l [] = []
runs_pieces r j l (run ∷ runs) =
    run_piece r run ∷ (jobs_pieces j l run.jobs ++ runs_pieces (suc r) (j + length run.jobs) (l + legs_count run.jobs) runs)

-- ---- texts

legs-whole : (l : ℕ) (legs : List Leg) → legs_text l legs ≡ flat_map piece_text (legs_pieces l legs)
legs-whole l [] = refl
legs-whole l (leg ∷ legs) = ap (λ (t : List ℕ). leg_text l leg ++ t) (legs-whole (suc l) legs)

-- a line, the text of some pieces and that of the pieces after them
three-parts : (line first rest : List ℕ) (xs ys : List Piece) → first ≡ flat_map piece_text xs → rest ≡ flat_map piece_text ys
    → (line ++ first) ++ rest ≡ line ++ flat_map piece_text (xs ++ ys)
three-parts line first rest xs ys e f =
    append_assoc line first rest ∙ ap (λ (t : List ℕ). line ++ t) ((λ i. e i ++ f i) ∙ sym (flat_map-append piece_text xs ys))

jobs-whole : (j l : ℕ) (jobs : List Job) → jobs_text j l jobs ≡ flat_map piece_text (jobs_pieces j l jobs)
jobs-whole j l [] = refl
jobs-whole j l (job ∷ jobs) =
    three-parts (job_line j job) (legs_text l job.legs) (jobs_text (suc j) (l + length job.legs) jobs) (legs_pieces l job.legs)
    (jobs_pieces (suc j) (l + length job.legs) jobs) (legs-whole l job.legs) (jobs-whole (suc j) (l + length job.legs) jobs)

runs-whole : (r j l : ℕ) (runs : List Run) → runs_text r j l runs ≡ flat_map piece_text (runs_pieces r j l runs)
runs-whole r j l [] = refl
runs-whole r j l (run ∷ runs) =
    let next = runs_pieces (suc r) (j + length run.jobs) (l + legs_count run.jobs) runs in
    three-parts (run_line r run) (jobs_text j l run.jobs) (runs_text (suc r) (j + length run.jobs) (l + legs_count run.jobs) runs) (jobs_pieces j l run.jobs) next
    (jobs-whole j l run.jobs) (runs-whole (suc r) (j + length run.jobs) (l + legs_count run.jobs) runs)

-- ---- numbers

numbered-append : {A : Type 0} (n : ℕ) (xs ys : List A) → numbered n (xs ++ ys) ≡ numbered n xs ++ numbered (n + length xs) ys
numbered-append n [] ys = ap (λ k. numbered k ys) (omega arith)
numbered-append n (x ∷ xs) ys =
    let next : suc n + length xs ≡ n + suc (length xs) = omega arith in
    ap (λ zs. (n, x) ∷ zs) (numbered-append (suc n) xs ys ∙ ap (λ k. numbered (suc n) xs ++ numbered k ys) next)

-- what two rows of pieces show, one after the other
shown-both : {A : Type 0} (shown : Piece → List (ℕ × A)) (xs ys : List Piece) (n : ℕ) (firsts others : List A) → flat_map shown xs ≡ numbered n firsts
    → flat_map shown ys ≡ numbered (n + length firsts) others → flat_map shown (xs ++ ys) ≡ numbered n (firsts ++ others)
shown-both shown xs ys n firsts others e f = flat_map-append shown xs ys ∙ (λ i. e i ++ f i) ∙ sym (numbered-append n firsts others)

legs_count-length : (jobs : List Job) → legs_count jobs ≡ length (flat_map (λ job. job.legs) jobs)
legs_count-length [] = refl
legs_count-length (job ∷ jobs) =
    ap (λ n. length job.legs + n) (legs_count-length jobs) ∙ sym (length-append job.legs (flat_map (λ (j : Job). j.legs) jobs))

legs-of-legs : (l : ℕ) (legs : List Leg) → flat_map shown_leg (legs_pieces l legs) ≡ numbered l legs
legs-of-legs l [] = refl
legs-of-legs l (leg ∷ legs) = ap (λ zs. (l, leg) ∷ zs) (legs-of-legs (suc l) legs)

legs-of-jobs : (j l : ℕ) (jobs : List Job) → flat_map shown_leg (jobs_pieces j l jobs) ≡ numbered l (flat_map (λ job. job.legs) jobs)
legs-of-jobs j l [] = refl
legs-of-jobs j l (job ∷ jobs) =
    shown-both shown_leg (legs_pieces l job.legs) (jobs_pieces (suc j) (l + length job.legs) jobs) l job.legs (flat_map (λ (x : Job). x.legs) jobs)
    (legs-of-legs l job.legs) (legs-of-jobs (suc j) (l + length job.legs) jobs)

legs-of-runs : (r j l : ℕ) (runs : List Run) → flat_map shown_leg (runs_pieces r j l runs) ≡ numbered l (flat_map (λ job. job.legs) (flat_map (λ run. run.jobs) runs))
legs-of-runs r j l [] = refl
legs-of-runs r j l (run ∷ runs) =
    let later = flat_map (λ (x : Run). x.jobs) runs in
    let ours = flat_map (λ (x : Job). x.legs) run.jobs in
    shown-both shown_leg (jobs_pieces j l run.jobs) (runs_pieces (suc r) (j + length run.jobs) (l + legs_count run.jobs) runs) l ours (flat_map (λ (x : Job). x.legs) later)
    (legs-of-jobs j l run.jobs)
    (legs-of-runs (suc r) (j + length run.jobs) (l + legs_count run.jobs) runs
    ∙ ap (λ n. numbered (l + n) (flat_map (λ (x : Job). x.legs) later)) (legs_count-length run.jobs))
    ∙ ap (numbered l) (sym (flat_map-append (λ (x : Job). x.legs) run.jobs later))

jobs-of-legs : (l : ℕ) (legs : List Leg) → flat_map shown_job (legs_pieces l legs) ≡ []
jobs-of-legs l [] = refl
jobs-of-legs l (leg ∷ legs) = jobs-of-legs (suc l) legs

jobs-of-jobs : (j l : ℕ) (jobs : List Job) → flat_map shown_job (jobs_pieces j l jobs) ≡ numbered j jobs
jobs-of-jobs j l [] = refl
jobs-of-jobs j l (job ∷ jobs) =
    let next = jobs_pieces (suc j) (l + length job.legs) jobs in
    ap (λ zs. (j, job) ∷ zs)
    (flat_map-append shown_job (legs_pieces l job.legs) next ∙ (λ i. jobs-of-legs l job.legs i ++ jobs-of-jobs (suc j) (l + length job.legs) jobs i))

jobs-of-runs : (r j l : ℕ) (runs : List Run) → flat_map shown_job (runs_pieces r j l runs) ≡ numbered j (flat_map (λ run. run.jobs) runs)
jobs-of-runs r j l [] = refl
jobs-of-runs r j l (run ∷ runs) =
    shown-both shown_job (jobs_pieces j l run.jobs) (runs_pieces (suc r) (j + length run.jobs) (l + legs_count run.jobs) runs) j run.jobs (flat_map (λ (x : Run). x.jobs) runs)
    (jobs-of-jobs j l run.jobs) (jobs-of-runs (suc r) (j + length run.jobs) (l + legs_count run.jobs) runs)

runs-of-legs : (l : ℕ) (legs : List Leg) → flat_map shown_run (legs_pieces l legs) ≡ []
runs-of-legs l [] = refl
runs-of-legs l (leg ∷ legs) = runs-of-legs (suc l) legs

runs-of-jobs : (j l : ℕ) (jobs : List Job) → flat_map shown_run (jobs_pieces j l jobs) ≡ []
runs-of-jobs j l [] = refl
runs-of-jobs j l (job ∷ jobs) =
    flat_map-append shown_run (legs_pieces l job.legs) (jobs_pieces (suc j) (l + length job.legs) jobs)
    ∙ (λ i. runs-of-legs l job.legs i ++ runs-of-jobs (suc j) (l + length job.legs) jobs i)

runs-of-runs : (r j l : ℕ) (runs : List Run) → flat_map shown_run (runs_pieces r j l runs) ≡ numbered r runs
runs-of-runs r j l [] = refl
runs-of-runs r j l (run ∷ runs) =
    let next = runs_pieces (suc r) (j + length run.jobs) (l + legs_count run.jobs) runs in
    ap (λ zs. (r, run) ∷ zs)
    (flat_map-append shown_run (jobs_pieces j l run.jobs) next
    ∙ (λ i. runs-of-jobs j l run.jobs i ++ runs-of-runs (suc r) (j + length run.jobs) (l + legs_count run.jobs) runs i))

-- in the text of a board each run, job and leg has its place as its number
pub board-numbers : (b : Board) (text : List ℕ) → text ≡ board_text b → NumbersByPlace b text
board-numbers b text is = record {
  pieces = runs_pieces 0 0 0 b.runs;
  whole = is ∙ ap (λ (t : List ℕ). t ++ ends_line b.ends) (runs-whole 0 0 0 b.runs);
  runs = runs-of-runs 0 0 0 b.runs;
  jobs = jobs-of-runs 0 0 0 b.runs;
  legs = legs-of-runs 0 0 0 b.runs;
}
