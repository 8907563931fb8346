-- What a board is like on which nothing that a clerk may do is accepted.
use Rattle.std.proofs.Common.{◌≡◌, ◌⊎◌, inl, inr, ℕ, zero, suc, ◌<◌, ◌&&◌, Bool, true, false, not, List, [], ◌∷◌, ◌++◌, None, Some, Ok, Err, is_some, length, slice_get, map, filter, cond, nat_lt, if◌then◌else◌, ap, sym, refl, ◌∙◌, arith}
use Rattle.std.specs.List.{list_all}
use Rattle.std.proofs.lemmas.Bool.{true≢false, cases_eq}
use Rattle.std.proofs.lemmas.Bool.Decides.{nat_tests}
use Rattle.std.proofs.lemmas.List.{map-append}
use Rattle.std.proofs.lemmas.List.Folds.{list_all-append}
use Rattle.std.proofs.lemmas.Option.{slice_get_within}
use Rattle.status_table.specs.Words.{Board, Event, JobAt, JobState, LegAt, LegState, Outcome, Plan, RunAt, RunState, accepts, board_jobs, board_legs, clerk_events, dropped, is_accepted, is_closed, is_fresh, is_full, is_going, is_none_left, is_open, is_stopping, is_untaken, job_at, job_condition, job_status, jobs_have_ended, leaves, leg_at, leg_entrance, leg_standing, moves, needs_have_ended, numbers, run_at, run_entrance, run_result}
use Rattle.status_table.specs.declared.fault.EventFault.{EventFault}
use Rattle.status_table.specs.Row as rows
use Rattle.board_decisions.proofs.Lists.{and-left, and-right, and-both}
use Rattle.status_table.proofs.Accepting.{run_enters_accepted, leg_enters_accepted}
use Rattle.status_table.proofs.Found.{run_stands, job_stands, leg_stands, leg_item}
use Rattle.status_table.proofs.Numbers.{jobs_are_numbered}

-- ---- no event of a clerk is accepted

none-passes : (t : Event → Bool) (es : List Event) → is_none_left (filter t es) ≡ true → list_all (λ e. not (t e)) es ≡ true
none-passes t [] h = refl
none-passes t (e ∷ es) h = by (t e) h (none-passes t es)
  where
    by : (c : Bool) → is_none_left (cond c (e ∷ filter t es) (filter t es)) ≡ true → (is_none_left (filter t es) ≡ true → list_all (λ x. not (t x)) es ≡ true)
        → not c && list_all (λ x. not (t x)) es ≡ true
    by true k later = absurd (true≢false (sym k))
    by false k later = later k

both-pass : (t : Event → Bool) (xs ys : List Event) → list_all t (xs ++ ys) ≡ true → (list_all t xs ≡ true) × (list_all t ys ≡ true)
both-pass t xs ys h =
    let both = sym (list_all-append t xs ys) ∙ h in
    (and-left (list_all t xs) (list_all t ys) both, and-right (list_all t xs) (list_all t ys) both)

each-number : (t : Event → Bool) (f : ℕ → Event) (m n : ℕ) → list_all t (map f (numbers m)) ≡ true → n < m → t (f n) ≡ true
each-number t f zero n h less = absurd (omega (arith, less))
each-number t f (suc m) n h less =
    let both = both-pass t (map f (numbers m)) (f m ∷ []) (sym (ap (list_all t) (map-append f (numbers m) (m ∷ []))) ∙ h) in
    let earlier = each-number t f m n both.0 in
    elim (cases_eq n m) as (λ _. t (f n) ≡ true) [
      | inl e ↦ ap (λ k. t (f k)) e ∙ and-left (t (f m)) true both.1
      | inr apart ↦ earlier (grind (arith, less, apart))
    ]

not-true : (c : Bool) → not c ≡ true → c ≡ false
not-true true h = sym h
not-true false h = refl

-- none of the events of each kind is accepted
pub record Idle (p : Plan) (b : Board) : Type 0 where
  pub close : (r : ℕ) → r < length b.runs → accepts p b (Event.Close r) ≡ false
  pub opening : (r : ℕ) → r < length b.runs → accepts p b (Event.Open r) ≡ false
  pub judge : (j : ℕ) → j < length (board_jobs b) → accepts p b (Event.Judge j) ≡ false
  pub drops : (l : ℕ) → l < length (board_legs b) → accepts p b (Event.Drop l) ≡ false
  pub ask : (l : ℕ) → l < length (board_legs b) → accepts p b (Event.Ask l) ≡ false

pub idle : (p : Plan) (b : Board) → is_none_left (moves p b) ≡ true → Idle p b
idle p b h =
    let t : Event → Bool = λ e. not (accepts p b e) in
    let closing = map Event.Close (numbers (length b.runs)) in
    let opening = map Event.Open (numbers (length b.runs)) in
    let judging = map Event.Judge (numbers (length (board_jobs b))) in
    let dropping = map Event.Drop (numbers (length (board_legs b))) in
    let asking = map Event.Ask (numbers (length (board_legs b))) in
    let first = both-pass t closing (opening ++ (judging ++ (dropping ++ asking))) (none-passes (accepts p b) (clerk_events b) h) in
    let second = both-pass t opening (judging ++ (dropping ++ asking)) first.1 in
    let third = both-pass t judging (dropping ++ asking) second.1 in
    let fourth = both-pass t dropping asking third.1 in
    record {
      close = λ r less. not-true (accepts p b (Event.Close r)) (each-number t Event.Close (length b.runs) r first.0 less);
      opening = λ r less. not-true (accepts p b (Event.Open r)) (each-number t Event.Open (length b.runs) r second.0 less);
      judge = λ j less. not-true (accepts p b (Event.Judge j)) (each-number t Event.Judge (length (board_jobs b)) j third.0 less);
      drops = λ l less. not-true (accepts p b (Event.Drop l)) (each-number t Event.Drop (length (board_legs b)) l fourth.0 less);
      ask = λ l less. not-true (accepts p b (Event.Ask l)) (each-number t Event.Ask (length (board_legs b)) l fourth.1 less);
    }

-- ---- rows by a test

pub first : (c : Bool) (r s : rows.Row) → c ≡ true → is_accepted (if c then r else s) ≡ is_accepted r
first true r s h = refl
first false r s h = absurd (true≢false (sym h))

pub second : (c : Bool) (r s : rows.Row) → c ≡ false → is_accepted (if c then r else s) ≡ is_accepted s
second true r s h = absurd (true≢false h)
second false r s h = refl

-- ---- runs

module _ (p : Plan) (b : Board) (none : Idle p b) (r : ℕ) (at : RunAt) (found : run_at p b r ≡ Some at) where
  run-there : r < length b.runs
  run-there = slice_get_within b.runs r at.run (run_stands p b r at found).run

  no-close : is_accepted (rows.close_run b r at.run at.run.state) ≡ false
  no-close = sym (ap (λ o. is_accepted (rows.close_found b r o)) found) ∙ none.close r run-there

  no-open : is_accepted (rows.open_run b r at at.run.state at.run.stop) ≡ false
  no-open = sym (ap (λ o. is_accepted (rows.open_found b r o)) found) ∙ none.opening r run-there

  -- a run that is not Closed is Going, or waits
  pub going_or_waits : is_closed at.run.state ≡ false → (at.run.state ≡ RunState.Going) ⊎ (at.run.state ≡ RunState.Waiting)
  going_or_waits unclosed = by at.run.state refl at.run.stop refl
    where
      by : (s : RunState) → at.run.state ≡ s → (stop : Bool) → at.run.stop ≡ stop → (at.run.state ≡ RunState.Going) ⊎ (at.run.state ≡ RunState.Waiting)
      by RunState.New is false on =
          let accepted : is_accepted (rows.open_run b r at at.run.state at.run.stop) ≡ true =
          ap (λ s. is_accepted (rows.open_run b r at s at.run.stop)) is
          ∙ ap (λ c. is_accepted (rows.open_run b r at RunState.New c)) on
          ∙ run_enters_accepted b r (run_entrance at) in
          absurd (true≢false (sym accepted ∙ no-open))
      by RunState.New is true on =
          let accepted : is_accepted (rows.close_run b r at.run at.run.state) ≡ true =
          ap (λ s. is_accepted (rows.close_run b r at.run s)) is ∙ ap (λ c. is_accepted (rows.close_waiting b r at.run c)) on in
          absurd (true≢false (sym accepted ∙ no-close))
      by RunState.Waiting is stop on = inr is
      by RunState.Going is stop on = inl is
      by (RunState.Closed result) is stop on = absurd (true≢false (sym (ap is_closed is) ∙ unclosed))

  -- not all jobs of a Going run have ended
  pub some_job_left : at.run.state ≡ RunState.Going → jobs_have_ended at.run ≡ false
  some_job_left going = by (jobs_have_ended at.run) refl
    where
      by : (c : Bool) → jobs_have_ended at.run ≡ c → c ≡ false
      by false is = refl
      by true is =
          let accepted : is_accepted (rows.close_run b r at.run at.run.state) ≡ true =
          ap (λ s. is_accepted (rows.close_run b r at.run s)) going
          ∙ first (jobs_have_ended at.run) (rows.run_closes b r at.run (run_result at.run)) (Err EventFault.NeedsOpen) is in
          absurd (true≢false (sym accepted ∙ no-close))

-- ---- jobs

module _ (p : Plan) (b : Board) (none : Idle p b) (j : ℕ) (at : JobAt) (found : job_at p b j ≡ Some at) where
  job-there : j < length (board_jobs b)
  job-there =
      let lt : nat_lt j (length (board_jobs b)) ≡ true = sym ((jobs_are_numbered b).placed j) ∙ ap is_some (job_stands p b j at found).place in
      grind (arith, nat_tests, lt)

  no-judge : is_accepted (rows.judge_job b at.place (rows.judgement j at)) ≡ false
  no-judge = sym (ap (λ o. is_accepted (rows.judge_found b j o)) found) ∙ none.judge j job-there

  judged : (c : Bool) (s : JobState) → c ≡ true → is_accepted (rows.judge_job b at.place (if c then Ok s else Err EventFault.NeedsOpen)) ≡ true
  judged true s h = refl
  judged false s h = absurd (true≢false (sym h))

  -- a job of a Going run whose needs have ended was judged
  pub was_judged : at.run.state ≡ RunState.Going → needs_have_ended (rows.first_of j at) at.run at.plan ≡ true → at.job.state ≡ JobState.Unjudged → ⊥
  was_judged going ended unjudged =
      let accepted : is_accepted (rows.judge_job b at.place (rows.judgement j at)) ≡ true =
      ap (λ s. is_accepted (rows.judge_job b at.place (rows.judgement_by j at s at.job.state))) going
      ∙ ap (λ s. is_accepted (rows.judge_job b at.place (rows.judgement_by j at RunState.Going s))) unjudged
      ∙ judged (needs_have_ended (rows.first_of j at) at.run at.plan) (rows.judged_state at.run.stop (job_condition at (job_status (rows.first_of j at) at))) ended in
      true≢false (sym accepted ∙ no-judge)

-- ---- legs

module _ (p : Plan) (b : Board) (none : Idle p b) (l : ℕ) (at : LegAt) (found : leg_at p b l ≡ Some at) where
  leg-there : l < length (board_legs b)
  leg-there = slice_get_within (board_legs b) l at.leg (leg_item p b l at (leg_stands p b l at found))

  no-ask : is_accepted (rows.ask_leg b l at) ≡ false
  no-ask = sym (ap (λ o. is_accepted (rows.ask_found b l o)) found) ∙ none.ask l leg-there

  no-drop : is_accepted (rows.drop_leg b l at) ≡ false
  no-drop = sym (ap (λ o. is_accepted (rows.drop_found b l o)) found) ∙ none.drops l leg-there

  -- no leg of an Open job that has a free slot is Fresh
  pub has_asked : at.run.state ≡ RunState.Going → at.job.state ≡ JobState.Open → at.leg.state ≡ LegState.Fresh → is_full at.job_plan at.job ≡ false → ⊥
  has_asked going opened fresh free = by (is_stopping at) refl
    where
      in_play : is_going at.run.state && is_open at.job.state ≡ true
      in_play = and-both (is_going at.run.state) (is_open at.job.state) (ap is_going going) (ap is_open opened)

      may_drop : rows.may_drop at ≡ true
      may_drop = and-both (is_going at.run.state && is_open at.job.state) (is_untaken at.leg.state) in_play (ap is_untaken fresh)

      may_ask : rows.may_ask at ≡ true
      may_ask = and-both (is_going at.run.state && is_open at.job.state) (is_fresh at.leg.state) in_play (ap is_fresh fresh)

      drops : rows.Row
      drops = if is_stopping at then Ok (leaves b (leg_standing at.leg) (dropped b l Outcome.Cancelled)) else Err EventFault.NotStopping

      asks : rows.Row
      asks = if is_stopping at then Err EventFault.Stopping else rows.leg_enters b l at (leg_entrance at)

      by : (c : Bool) → is_stopping at ≡ c → ⊥
      by true stops =
          let accepted : is_accepted (rows.drop_leg b l at) ≡ true =
          second (not (rows.may_drop at)) (Err EventFault.WrongState) drops (ap not may_drop)
          ∙ first (is_stopping at) (Ok (leaves b (leg_standing at.leg) (dropped b l Outcome.Cancelled))) (Err EventFault.NotStopping) stops in
          true≢false (sym accepted ∙ no-drop)
      by false stops =
          let accepted : is_accepted (rows.ask_leg b l at) ≡ true =
          second (not (rows.may_ask at)) (Err EventFault.WrongState) (if is_full at.job_plan at.job then Err EventFault.SlotsFull else asks) (ap not may_ask)
          ∙ second (is_full at.job_plan at.job) (Err EventFault.SlotsFull) asks free
          ∙ second (is_stopping at) (Err EventFault.Stopping) (rows.leg_enters b l at (leg_entrance at)) stops
          ∙ leg_enters_accepted b l at (leg_entrance at) in
          true≢false (sym accepted ∙ no-ask)

pub no_first : (es : List Event) → slice_get es 0 ≡ None → es ≡ []
no_first [] h = refl
no_first (e ∷ es) h = absurd (cc)
