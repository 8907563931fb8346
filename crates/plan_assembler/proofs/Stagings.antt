-- The stages of the jobs of a plan, found one after the other.
use Rattle.std.proofs.Common.{◌≡◌, ◌∙◌, ◌<◌, ◌≤◌, ◌+◌, ◌-◌, ℕ, zero, suc, List, [], ◌∷◌, ◌++◌, map, length, drop, get_or, refl, ap, sym, subst, arith, append_assoc, append-nil, length-append}
use Rattle.std.specs.List.{Contains, flat_map}
use Rattle.std.proofs.lemmas.List.{drop_more, get_or_default}
use Rattle.flow_model.specs.declared.plan.JobPlan.{JobPlan}
use Rattle.flow_model.specs.declared.plan.RunPlan.{RunPlan}
use Rattle.plan_assembler.specs.Graph.{Graph}
use Rattle.plan_assembler.specs.Stages.{AreStages}
use Rattle.plan_assembler.specs.Staging.{next_stage, stages_from, AreBounded, in_stage, run_jobs, stage_lists}
use Rattle.plan_assembler.proofs.Cycles.{same_after, bound_after}

-- each job needs jobs before it, where the first of these has the place n
abbrev pub PointBack : ℕ → Graph → Type 0
PointBack n [] = Unit {0}
PointBack n (needs ∷ g) = ((k : ℕ) → Contains needs k → k < n) × PointBack (suc n) g

get_last : (xs : List ℕ) (x k : ℕ) (t : ℕ) → ((i : ℕ) → get_or xs i 0 ≤ t) → x ≤ t → get_or (xs ++ x ∷ []) k 0 ≤ t
get_last [] x zero t h w = w
get_last [] x (suc k) t h w = omega arith
get_last (y ∷ xs) x zero t h w = h 0
get_last (y ∷ xs) x (suc k) t h w = get_last xs x k t (λ i. h (suc i)) w

-- one stage more stays bounded
pub bounded_next : (found new needs : List ℕ) → AreBounded found → new ≡ found ++ next_stage found needs ∷ [] → AreBounded new
bounded_next found new needs b e k =
    let long : length new ≡ length found + 1 = ap length e ∙ length-append found (next_stage found needs ∷ []) in
    let last : next_stage found needs ≤ suc (length found) = bound_after (λ i. get_or found i 0) (length found) b needs in
    let all : get_or (found ++ next_stage found needs ∷ []) k 0 ≤ suc (length found) = get_last found (next_stage found needs) k (suc (length found)) (λ i. omega (arith, b i)) last in
    subst (λ (l : List ℕ). get_or l k 0 ≤ length l) (sym e) (omega (arith, all, long, ap length e))

-- jobs after jobs
stages_append : (found : List ℕ) (g h : Graph) → stages_from found (g ++ h) ≡ stages_from (stages_from found g) h
stages_append found [] h = refl
stages_append found (needs ∷ g) h = stages_append (found ++ next_stage found needs ∷ []) g h

pub map-append : (jobs more : List JobPlan) → map (λ job. job.needs) (jobs ++ more) ≡ map (λ job. job.needs) jobs ++ map (λ job. job.needs) more
map-append [] more = refl
map-append (job ∷ jobs) more = ap (λ (g : Graph). job.needs ∷ g) (map-append jobs more)

stages_of_run : (found new : List ℕ) (jobs more : List JobPlan) → new ≡ stages_from found (map (λ job. job.needs) jobs)
    → stages_from new (map (λ job. job.needs) more) ≡ stages_from found (map (λ job. job.needs) (jobs ++ more))
stages_of_run found new jobs more e =
    ap (λ (l : List ℕ). stages_from l (map (λ job. job.needs) more)) e ∙ sym (stages_append found (map (λ job. job.needs) jobs) (map (λ job. job.needs) more))
    ∙ ap (stages_from found) (sym (map-append jobs more))

pub runs_next : (found new : List ℕ) (rs : List RunPlan) (i : ℕ) (run : RunPlan) (all : List ℕ) → i < length rs → run ≡ get_or rs i run
    → stages_from found (map (λ job. job.needs) (flat_map (λ r. r.jobs) (drop i rs))) ≡ all → new ≡ stages_from found (map (λ job. job.needs) run.jobs)
    → stages_from new (map (λ job. job.needs) (flat_map (λ r. r.jobs) (drop (i + 1) rs))) ≡ all
runs_next found new rs i run all h at kept e =
    let here : drop i rs ≡ run ∷ drop (i + 1) rs = drop_more rs i run h ∙ ap (λ (r : RunPlan). r ∷ drop (i + 1) rs) (sym at) in
    stages_of_run found new run.jobs (flat_map (λ r. r.jobs) (drop (i + 1) rs)) e
    ∙ ap (λ (l : List RunPlan). stages_from found (map (λ job. job.needs) (flat_map (λ r. r.jobs) l))) (sym here) ∙ kept

-- ---- the stages that were found are those of all jobs

abbrev pub AllBelow : ℕ → Graph → Type 0
AllBelow n [] = Unit {0}
AllBelow n (needs ∷ g) = ((k : ℕ) → Contains needs k → k < n) × AllBelow n g

same_at : (found : List ℕ) (x k : ℕ) → k < length found → get_or (found ++ x ∷ []) k 0 ≡ get_or found k 0
same_at [] x k h = absurd (omega arith)
same_at (y ∷ found) x zero h = refl
same_at (y ∷ found) x (suc k) h = same_at found x k (omega arith)

same_next : (found : List ℕ) (x : ℕ) (needs : List ℕ) → ((k : ℕ) → Contains needs k → k < length found) → next_stage (found ++ x ∷ []) needs ≡ next_stage found needs
same_next found x needs h =
    same_after (λ k. get_or (found ++ x ∷ []) k 0) (λ k. get_or found k 0) needs (λ i w. same_at found x (get_or needs i 0) (h (get_or needs i 0) (i, w, get_or_default needs i _ 0 w)))

same_each : (found : List ℕ) (x : ℕ) (g : Graph) → AllBelow (length found) g → map (next_stage (found ++ x ∷ [])) g ≡ map (next_stage found) g
same_each found x [] h = refl
same_each found x (needs ∷ g) h = cc (same_next found x needs h.0, same_each found x g h.1)

map_last : (f : List ℕ → ℕ) (g : Graph) (needs : List ℕ) → map f (g ++ needs ∷ []) ≡ map f g ++ f needs ∷ []
map_last f [] needs = refl
map_last f (other ∷ g) needs = ap (λ (l : List ℕ). f other ∷ l) (map_last f g needs)

below_more : (n : ℕ) (g : Graph) (needs : List ℕ) → AllBelow n g → ((k : ℕ) → Contains needs k → k < n) → AllBelow (n + 1) (g ++ needs ∷ [])
below_more n [] needs h here = ((λ k c. omega (arith, here k c)), tt)
below_more n (other ∷ g) needs h here = ((λ k c. omega (arith, h.0 k c)), below_more n g needs h.1 here)

settle : (h g : Graph) (found : List ℕ) → length found ≡ length h → found ≡ map (next_stage found) h → AllBelow (length found) h → PointBack (length found) g
    → stages_from found g ≡ map (next_stage (stages_from found g)) (h ++ g)
settle h [] found l e below back = e ∙ ap (map (next_stage found)) (sym (append-nil h))
settle h (needs ∷ g) found l e below back =
    let x : ℕ = next_stage found needs in
    let new : List ℕ = found ++ x ∷ [] in
    let long : length new ≡ length found + 1 = length-append found (x ∷ []) in
    let longer : length new ≡ length (h ++ needs ∷ []) = omega (arith, long, l, length-append h (needs ∷ [])) in
    let own : next_stage new needs ≡ x = same_next found x needs back.0 in
    let is : new ≡ map (next_stage new) (h ++ needs ∷ []) =
    ap (λ (k : List ℕ). k ++ x ∷ []) (e ∙ sym (same_each found x h below)) ∙ ap (λ (s : ℕ). map (next_stage new) h ++ s ∷ []) (sym own) ∙ sym (map_last (next_stage new) h needs) in
    let more : AllBelow (length new) (h ++ needs ∷ []) = subst (λ (n : ℕ). AllBelow n (h ++ needs ∷ [])) (sym long) (below_more (length found) h needs below back.0) in
    let one : suc (length found) ≡ length new = omega (arith, long) in
    settle (h ++ needs ∷ []) g new longer is more (subst (λ (n : ℕ). PointBack n g) one back.1) ∙ ap (map (next_stage (stages_from new g))) (append_assoc h (needs ∷ []) g)

pub stages_settled : (g : Graph) → PointBack 0 g → AreStages g (stages_from [] g)
stages_settled g back = settle [] g [] refl refl tt back

-- ---- going over the stages

pub list_next : (done new all : List (List (ℕ × ℕ))) (one : List (ℕ × ℕ)) (n stage : ℕ) (ss : List ℕ) (jobs : List (ℕ × ℕ)) → stage < n → done ++ stage_lists (n - stage) stage ss jobs ≡ all
    → new ≡ done ++ one ∷ [] → one ≡ in_stage ss jobs stage → new ++ stage_lists (n - (stage + 1)) (stage + 1) ss jobs ≡ all
list_next done new all one n stage ss jobs h e is o =
    let left : n - stage ≡ suc (n - (stage + 1)) = omega arith in
    let more : suc stage ≡ stage + 1 = omega arith in
    ap (λ (l : List (List (ℕ × ℕ))). l ++ stage_lists (n - (stage + 1)) (stage + 1) ss jobs) is ∙ append_assoc done (one ∷ []) _
    ∙ ap (λ (l : List (ℕ × ℕ)). done ++ l ∷ stage_lists (n - (stage + 1)) (stage + 1) ss jobs) o
    ∙ ap (λ (k : ℕ). done ++ in_stage ss jobs stage ∷ stage_lists (n - (stage + 1)) k ss jobs) (sym more)
    ∙ ap (λ (k : ℕ). done ++ stage_lists k stage ss jobs) (sym left) ∙ e

pub run_jobs_next : (done new all : List (ℕ × ℕ)) (rs : List RunPlan) (i : ℕ) (run : RunPlan) → i < length rs → run ≡ get_or rs i run → done ++ run_jobs i (drop i rs) ≡ all
    → new ≡ done ++ map (λ job. (i, job.number)) run.jobs → new ++ run_jobs (i + 1) (drop (i + 1) rs) ≡ all
run_jobs_next done new all rs i run h at kept e =
    let here : drop i rs ≡ run ∷ drop (i + 1) rs = drop_more rs i run h ∙ ap (λ (r : RunPlan). r ∷ drop (i + 1) rs) (sym at) in
    let more : i + 1 ≡ suc i = omega arith in
    let own : List (ℕ × ℕ) = map (λ (job : JobPlan). (i, job.number)) run.jobs in
    ap (λ (l : List (ℕ × ℕ)). l ++ run_jobs (i + 1) (drop (i + 1) rs)) e ∙ append_assoc done own (run_jobs (i + 1) (drop (i + 1) rs))
    ∙ ap (λ (k : ℕ). done ++ (own ++ run_jobs k (drop (i + 1) rs))) more ∙ ap (λ (l : List RunPlan). done ++ run_jobs i l) (sym here) ∙ kept

pub mapped_next : (f : JobPlan → ℕ × ℕ) (done new all : List (ℕ × ℕ)) (jobs : List JobPlan) (i : ℕ) (job : JobPlan) → i < length jobs → job ≡ get_or jobs i job → new ≡ done ++ f job ∷ [] → done ++ map f (drop i jobs) ≡ all
    → new ++ map f (drop (i + 1) jobs) ≡ all
mapped_next f done new all jobs i job h at e kept =
    let here : drop i jobs ≡ job ∷ drop (i + 1) jobs = drop_more jobs i job h ∙ ap (λ (j : JobPlan). j ∷ drop (i + 1) jobs) (sym at) in
    ap (λ (l : List (ℕ × ℕ)). l ++ map f (drop (i + 1) jobs)) e ∙ append_assoc done (f job ∷ []) (map f (drop (i + 1) jobs))
    ∙ ap (λ (l : List JobPlan). done ++ map f l) (sym here) ∙ kept
