-- A board that is played as settled agrees with what is settled; and two boards of one plan that are finished, by one answer to each call,
-- are the same but for the order of the ends.
use Rattle.std.proofs.Common.{◌≡◌, ℕ, suc, ◌+◌, true, List, [], ◌∷◌, Option, Some, None, option_map, map, take, slice_get, ap, subst, sym, refl, ◌∙◌, arith, Bool, false, length}
use Rattle.board_settled.specs.Words.{Agrees, AllZip, Answers, Board, Entry, Finish, FinishesAsSettled, IsFree, IsPlan, IsSettled, Job, JobAgrees, JobIsSettled, JobPlan, JobShape, JobState, LeadsTo, Leg, LegState, NeedsPointBack, OnlyEndsDiffer, Outcome, Plan, PlaysAsSettled, RulesHold, Run, RunAgrees, RunIsSettled, RunPlan, RunShape, RunState, SettledJob, SettledLeg, SettledRun, Spot, StepCall, finished, is_closed, is_ended, is_open, job_settled, leg_count, leg_settled, legs_settled, needs_of, new_board, new_job, new_leg, new_run, run_settled, runs_from, settled, spot_at}
use Rattle.std.proofs.lemmas.Bool.{true≢false}
use Rattle.std.proofs.lemmas.Option.{slice_get-map}
use Rattle.status_table.proofs.Counts.{zip-left}
use Rattle.status_table.proofs.Lawfulness.{new_lawful}
use Rattle.status_table.proofs.Legal.{new_fits}
use Rattle.status_table.proofs.Lists.{zip-length, all-get, zip-get}
use Rattle.board_decisions.proofs.Lists.{same_some}
use Rattle.board_settled.proofs.Ends.{job_agrees, job_over, leg_agrees, leg_over}
use Rattle.board_settled.proofs.Played.{Stands, fresh_leg, is_judged, LegPlayed, JobPlayedAt, JobOver, jobs_of, RunPlayed, Played, jobs_size, job_item, StateStands, JobPlayed}
use Rattle.board_settled.proofs.Kept.{after_stands}
use Rattle.board_settled.proofs.Lists.{zip-each, zip-more, mapped_from}
use Rattle.board_settled.proofs.Numbers.{before_run, before_job}
use Rattle.std.proofs.lemmas.List.Elements.{same_from_all_zip}

-- ---- the board on which all is new

mapped : {A B : Type 0} (f : A → B) (xs : List A) (i : ℕ) (x : A) (y : B) → slice_get xs i ≡ Some x → slice_get (map f xs) i ≡ Some y → f x ≡ y
mapped f xs i x y is there = same_some (f x) y (sym (slice_get-map f xs i ∙ ap (option_map f) is) ∙ there)

fresh_played : {answers : Answers} {spot : Spot} {call : Option StepCall} (leg : Leg) → fresh_leg ≡ leg → LegPlayed answers spot call leg
fresh_played {answers} {spot} {call} leg same = subst (LegPlayed answers spot call) same (record {
  stop = refl;
  group = refl;
  goes_on = refl;
  calling = tt;
  ended = λ result tolerated e. absurd (cc);
})

new_played : (p : Plan) (answers : Answers) (calls : ℕ → Option StepCall) → Played answers p calls (new_board p).runs
new_played p answers calls r plan run planned is = subst (RunPlayed answers (before_run r p.runs) plan calls) (mapped new_run p.runs r plan run planned is) (record {
  stop = refl;
  group = refl;
  jobs = λ j job_plan job at there. subst (JobPlayedAt answers (before_run r p.runs) plan calls j job_plan) (mapped new_job plan.jobs j job_plan job at there) (record {
    state = tt;
    untouched = λ _ k leg here. sym (mapped_from new_leg job_plan.legs k leg here).2;
    legs = λ k leg here. fresh_played leg (mapped_from new_leg job_plan.legs k leg here).2;
  });
  needs = λ j job_plan job at there was.
      absurd (true≢false (sym was ∙ ap (λ (x : Job). is_judged x.state) (sym (mapped new_job plan.jobs j job_plan job at there))));
  closed = λ result e. absurd (cc);
  over = λ was. absurd (true≢false (sym was));
})

-- ---- how each part agrees

run_agrees : (answers : Answers) (first : ℕ) (plan : RunPlan) (calls : ℕ → Option StepCall) (run : Run) → AllZip JobShape plan.jobs run.jobs
    → RunPlayed answers first plan calls run → RunAgrees (run_settled answers first plan) run
unfolding run_settled
run_agrees answers first plan calls run shape played = record {
  jobs = zip-each JobAgrees (jobs_of answers first plan) run.jobs (jobs_size answers plan first [] plan.jobs ∙ zip-length JobShape plan.jobs run.jobs shape) (λ j given job at there.
      let planned = zip-left JobShape plan.jobs run.jobs j job there shape in
      let item = job_item answers plan first [] plan.jobs j planned.0 planned.1 in
      subst (λ (x : SettledJob). JobAgrees x job)
      (same_some (job_settled answers plan (first + before_job j plan.jobs) (take j (jobs_of answers first plan)) planned.0) given (sym item ∙ at))
      (job_agrees answers plan (take j (jobs_of answers first plan)) (first + before_job j plan.jobs) planned.0 calls job planned.2.legs (played.jobs j planned.0 job planned.1 there)));
  closed = played.closed;
}

-- the runs from one on, each by the number of its first leg
runs_agree : (answers : Answers) (calls : ℕ → Option StepCall) (first : ℕ) (plans : List RunPlan) (runs : List Run) → AllZip RunShape plans runs
    → ((r : ℕ) (plan : RunPlan) (run : Run) → slice_get plans r ≡ Some plan → slice_get runs r ≡ Some run → (n : ℕ) → n ≡ first + before_run r plans → RunPlayed answers n plan calls run)
    → AllZip RunAgrees (runs_from answers first plans) runs
runs_agree answers calls first [] [] shape played = tt
runs_agree answers calls first (plan ∷ plans) (run ∷ runs) shape played = (
  run_agrees answers first plan calls run shape.0 (played 0 plan run refl refl first (omega arith)),
  runs_agree answers calls (first + leg_count plan.jobs) plans runs shape.1 (λ r x y at there n is. played (suc r) x y at there n (omega (arith, is))),
)
runs_agree answers calls first plans runs shape played = absurd shape

stands_agrees : (p : Plan) (answers : Answers) (calls : ℕ → Option StepCall) (b : Board) → Stands p answers calls b → Agrees (settled p answers) b
unfolding settled
stands_agrees p answers calls b stands = runs_agree answers calls 0 p.runs b.runs stands.fits.shape (λ r plan run planned there n is.
    let same : before_run r p.runs ≡ n = omega (arith, is) in
    subst (λ m. RunPlayed answers m plan calls run) same (stands.played r plan run planned there))

-- ---- a board that is finished

pub closed-result : (s : RunState) → is_closed s ≡ true → (result : Outcome) × (s ≡ RunState.Closed result)
closed-result (RunState.Closed result) h = (result, refl)
closed-result s h = absurd (true≢false (sym h))

run_over : (given : SettledRun) (run : Run) → RunAgrees given run → is_closed run.state ≡ true → ((j : ℕ) (job : Job) → slice_get run.jobs j ≡ Some job → JobOver job) → RunIsSettled given run
run_over given run agrees was over =
    let closed = closed-result run.state was in
    record {
      jobs = zip-more JobAgrees (λ g job. JobIsSettled g job.legs job.state) given.jobs run.jobs (λ j g job there so. job_over g job so (over j job there)) agrees.jobs;
      result = closed.0;
      state = closed.1;
      given_result = agrees.closed closed.0 closed.1;
    }

stands_finished : (p : Plan) (answers : Answers) (calls : ℕ → Option StepCall) (b : Board) → Stands p answers calls b → finished b ≡ true → IsSettled (settled p answers) b
stands_finished p answers calls b stands all = zip-more RunAgrees RunIsSettled (settled p answers) b.runs (λ r given run there so.
    let planned = zip-left RunShape p.runs b.runs r run there stands.fits.shape in
    let was = all-get (λ (x : Run). is_closed x.state) b.runs r run there all in
    run_over given run so was ((stands.played r planned.0 run planned.1 there).over was)) (stands_agrees p answers calls b stands)

-- ---- each list of entries

pub ends_so : NeedsPointBack → RulesHold → (p : Plan) → IsPlan p → IsFree p → (answers : Answers) (es : List Entry) (b : Board)
    → LeadsTo p answers es b → (later : ℕ → Option StepCall) × Stands p answers later b
ends_so back sound p rules free answers es b led =
    after_stands p (record { rules = rules; back = back; free = free }) answers es (λ l. None) (new_board p) b
    (record { fits = new_fits p; lawful = new_lawful p ((sound p).0 rules); played = new_played p answers (λ l. None) }) led.leads led.answered

pub plays_as_settled : NeedsPointBack → RulesHold → PlaysAsSettled
plays_as_settled back sound p rules free answers es b led =
    let end = ends_so back sound p rules free answers es b led in
    stands_agrees p answers end.0 b end.1

pub finishes_as_settled : NeedsPointBack → RulesHold → FinishesAsSettled
finishes_as_settled back sound p rules free answers es b led all =
    let end = ends_so back sound p rules free answers es b led in
    stands_finished p answers end.0 b end.1 all

same-lists : {A : Type 0} (xs ys : List A) → length xs ≡ length ys → ((i : ℕ) (x y : A) → slice_get xs i ≡ Some x → slice_get ys i ≡ Some y → x ≡ y) → xs ≡ ys
same-lists xs ys same h = same_from_all_zip (λ y x. x ≡ y) ys xs (zip-each (λ y x. x ≡ y) ys xs (sym same) (λ i y x there at. h i x y at there)) (λ y x e. e)

-- ---- legs

leg_same : (answers : Answers) (spot : Spot) (call other : Option StepCall) (x y : Leg) → LegPlayed answers spot call x → LegPlayed answers spot other y
    → is_ended x.state ≡ true → is_ended y.state ≡ true → x ≡ y
leg_same answers spot call other x y px py ex ey =
    let a = leg_over (leg_settled answers spot) x (leg_agrees answers spot call x px) ex in
    let b = leg_over (leg_settled answers spot) y (leg_agrees answers spot other y py) ey in
    let finish = same_some (record { result = a.result; tolerated = a.tolerated; outputs = x.outputs }) (record { result = b.result; tolerated = b.tolerated; outputs = y.outputs })
    (sym a.finish ∙ b.finish) in
    let state = a.state ∙ ap (λ (f : Finish). LegState.Ended f.result f.tolerated) finish ∙ sym b.state in
    λ i. record { state = state i; stop = (px.stop ∙ sym py.stop) i; group = (px.group ∙ sym py.group) i; steps = (a.steps ∙ sym b.steps) i; outputs = (finish i).outputs }

-- ---- jobs

state_same : (given : SettledJob) (legs : List SettledLeg) (s t : JobState) → StateStands given legs s → StateStands given legs t → is_judged s ≡ true → is_judged t ≡ true → s ≡ t
state_same given legs JobState.Open JobState.Open h k js jt = refl
state_same given legs (JobState.Shut result) (JobState.Shut other) h k js jt = cc
state_same given legs s t h k js jt = cc

job_same : (answers : Answers) (run : RunPlan) (before : List SettledJob) (first : ℕ) (plan : JobPlan) (calls others : ℕ → Option StepCall) (x y : Job)
    → length x.legs ≡ length y.legs → JobPlayed answers run before first plan calls x → JobPlayed answers run before first plan others y → JobOver x → JobOver y → x ≡ y
job_same answers run before first plan calls others x y size px py ox oy = λ i. record { state = state i; legs = same-lists x.legs y.legs size (legs (is_open x.state) refl) i }
  where
    state : x.state ≡ y.state
    state = state_same (job_settled answers run first before plan) (legs_settled answers run plan (needs_of run before plan) first) x.state y.state px.state py.state ox.judged oy.judged

    legs : (c : Bool) → is_open x.state ≡ c → (k : ℕ) (a b : Leg) → slice_get x.legs k ≡ Some a → slice_get y.legs k ≡ Some b → a ≡ b
    legs true was k a b at there =
        leg_same answers (spot_at run plan (needs_of run before plan) first k) (calls (first + k)) (others (first + k)) a b (px.legs k a at) (py.legs k b there)
        (ox.ended was k a at) (oy.ended (sym (ap is_open state) ∙ was) k b there)
    legs false was k a b at there = px.untouched was k a at ∙ sym (py.untouched (sym (ap is_open state) ∙ was) k b there)

-- ---- runs

run_same : (answers : Answers) (first : ℕ) (plan : RunPlan) (calls others : ℕ → Option StepCall) (x y : Run) → AllZip JobShape plan.jobs x.jobs → AllZip JobShape plan.jobs y.jobs
    → RunPlayed answers first plan calls x → RunPlayed answers first plan others y → is_closed x.state ≡ true → is_closed y.state ≡ true → x ≡ y
run_same answers first plan calls others x y sx sy px py cx cy =
    let a = closed-result x.state cx in
    let b = closed-result y.state cy in
    let result : a.0 ≡ b.0 = same_some a.0 b.0 (sym (px.closed a.0 a.1) ∙ py.closed b.0 b.1) in
    let state : x.state ≡ y.state = a.1 ∙ ap (λ r. RunState.Closed r) result ∙ sym b.1 in
    let jobs : x.jobs ≡ y.jobs = same-lists x.jobs y.jobs (sym (zip-length JobShape plan.jobs x.jobs sx) ∙ zip-length JobShape plan.jobs y.jobs sy) (λ j u v at there.
    let planned = zip-left JobShape plan.jobs x.jobs j u at sx in
    let shape = zip-get JobShape plan.jobs y.jobs j planned.0 v planned.1 there sy in
    job_same answers plan (take j (jobs_of answers first plan)) (first + before_job j plan.jobs) planned.0 calls others u v (planned.2.legs ∙ sym shape.legs)
    (px.jobs j planned.0 u planned.1 at) (py.jobs j planned.0 v planned.1 there) (px.over cx j u at) (py.over cy j v there)) in
    λ i. record { state = state i; stop = (px.stop ∙ sym py.stop) i; group = (px.group ∙ sym py.group) i; jobs = jobs i }

-- ---- boards

pub only_ends_differ : NeedsPointBack → RulesHold → OnlyEndsDiffer
only_ends_differ back sound p rules free answers es other b c lb lc fb fc =
    let (calls, sb) = ends_so back sound p rules free answers es b lb in
    let (others, sc) = ends_so back sound p rules free answers other c lc in
    same-lists b.runs c.runs (sym (zip-length RunShape p.runs b.runs sb.fits.shape) ∙ zip-length RunShape p.runs c.runs sc.fits.shape) (λ r x y at there.
    let planned = zip-left RunShape p.runs b.runs r x at sb.fits.shape in
    let shape = zip-get RunShape p.runs c.runs r planned.0 y planned.1 there sc.fits.shape in
    run_same answers (before_run r p.runs) planned.0 calls others x y planned.2 shape (sb.played r planned.0 x planned.1 at) (sc.played r planned.0 y planned.1 there)
    (all-get (λ (z : Run). is_closed z.state) b.runs r x at fb) (all-get (λ (z : Run). is_closed z.state) c.runs r y there fc))
