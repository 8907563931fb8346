-- A plan in play stays so.
use Rattle.std.proofs.Common.{◌≡◌, ℕ, ◌≤◌, Result, length, subst, sym, arith}
use Rattle.status_table.specs.Words.{Answers, Board, Event, InPlay, IsPlan, Plan, Reply, SoundPlan, Stays, board_jobs, board_legs, event_row, new_board, plan_jobs, plan_legs}
use Rattle.status_table.specs.declared.fault.EventFault.{EventFault}
use Rattle.status_table.proofs.Keeps.{event_keeps}
use Rattle.status_table.proofs.Lawfulness.{new_lawful, answer_leads, jobs_of_runs}
use Rattle.status_table.proofs.Legal.{new_fits, answer_fits}
use Rattle.status_table.proofs.Sound.{has_as_many}

pub new_in_play : (p q : Plan) (b : Board) → q ≡ p → IsPlan q → SoundPlan q → b ≡ new_board q → InPlay p b
new_in_play p q b same rules sound is =
    let fits = new_fits q in
    let new : InPlay q (new_board q) = record { rules = rules; shape = fits.shape; ends = fits.ends; laws = new_lawful q sound } in
    subst (λ (x : Plan). InPlay x b) same (subst (InPlay q) (sym is) new)

-- an answer leaves a plan in play, and what had ended as it was
pub answer_in_play : (p q : Plan) (b c : Board) (worker : ℕ) (e : Event) (result : Result Reply EventFault) → q ≡ p → InPlay p b
    → Answers (event_row q b worker e) b result c → InPlay p c × Stays b c
answer_in_play p q b c worker e result same h answers =
    let here = subst (λ (x : Plan). Answers (event_row x b worker e) b result c) same answers in
    let fits = answer_fits p b c (event_row p b worker e) result (event_keeps p b worker e) (record { shape = h.shape; ends = h.ends }) here in
    let led = answer_leads p b c worker e result h.shape h.laws here in
    (record { rules = h.rules; shape = fits.shape; ends = fits.ends; laws = led.0 }, led.1)

-- a board in play has no more legs than a plan may have
pub few_in_play : (p q : Plan) (b : Board) → q ≡ p → SoundPlan q → InPlay p b → length (board_legs b) ≤ 4096
few_in_play p q b same sound h =
    let many = (has_as_many p b h.shape).legs in
    let few = subst (λ (x : Plan). length (plan_legs x) ≤ 4096) same sound.few_legs in
    omega (arith, many, few)

-- nor more jobs
pub few_jobs_in_play : (p q : Plan) (b : Board) → q ≡ p → SoundPlan q → InPlay p b → length (board_jobs b) ≤ 4096
few_jobs_in_play p q b same sound h =
    let many = (has_as_many p b h.shape).jobs in
    let fewer = jobs_of_runs q.runs sound.runs in
    let legs = sound.few_legs in
    let here : length (plan_jobs q) ≤ 4096 = omega (arith, fewer, legs) in
    let few = subst (λ (x : Plan). length (plan_jobs x) ≤ 4096) same here in
    omega (arith, many, few)
