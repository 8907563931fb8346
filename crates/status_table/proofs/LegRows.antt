-- What the events of legs make of a lawful board.
use Rattle.std.proofs.Common.{◌≡◌, ℕ, suc, ◌+◌, ◌*◌, ◌-◌, ◌<◌, ◌≤◌, ◌==◌, ◌++◌, ◌&&◌, Bool, true, false, not, List, [], ◌∷◌, Option, Some, None, Result, Ok, Err, length, slice_get, nat_le, nat_lt, if◌then◌else◌, ap, subst, sym, refl, ◌∙◌, arith}
use Rattle.std.proofs.lemmas.Bool.{true≢false, leb-true}
use Rattle.std.proofs.lemmas.Bool.Decides.{nat_tests}
use Rattle.std.proofs.lemmas.List.{length-append}
use Rattle.std.proofs.lemmas.Option.{slice_get_within}
use Rattle.status_table.specs.Words.{Answer, Beginning, Board, DoneStep, Entrance, HasShape, Job, JobFits, JobPlan, JobShape, Lawful, Leg, LegAt, LegState, Member, MembersFit, OneHolder, Outcome, Plan, Reply, Row, Run, RunFits, RunShape, RunState, Standing, StepPlan, ValueFault, What, admitted, apart, board_legs, calls, changed, dropped, enters, faults, first_place, has_room, holder, holding, is_ended, is_fresh, is_full, is_going, is_named, is_open, is_own, is_stopping, is_under_way, is_untaken, is_waiting, leaves, leg_entrance, leg_outputs, leg_result, leg_standing, leg_stands, leg_stands_right, moved, open_calls, run_standing, run_stands, share_name, skips, waiting, waits, with_leg}
use Rattle.status_table.specs.declared.fault.EventFault.{EventFault}
use Rattle.status_table.specs.Groups.{holds_name, run_or_leg}
use Rattle.status_table.specs.Lawful.{Within, under_way}
use Rattle.status_table.proofs.Rank.{leg_rank, rank_of_leg, rank}
use Rattle.status_table.specs.Row as rows
use Rattle.board_decisions.proofs.Lists.{and-left, and-right, same_some, no_some}
use Rattle.status_table.proofs.Counts.{one, sum-changed, only_first}
use Rattle.status_table.proofs.Entering.{Follows, Leads, leads-if, lawfully, Asker, enters_leads, leaves_leads, ends_apart, stands_still}
use Rattle.status_table.proofs.Found.{LegStands}
use Rattle.status_table.proofs.Lists.{zip-get, all-get}
use Rattle.status_table.proofs.Steps.{Step, Live, leg_step, as_much}
use Rattle.status_table.proofs.Turnover.{under-context, right-there, right-waiting, numbered}

not-not : (c : Bool) → not c ≡ false → c ≡ true
not-not true h = refl
not-not false h = sym h

-- ---- the events of legs

-- the job of a leg fits
pub job-fits : (p : Plan) (b : Board) (l : ℕ) (at : LegAt) → MembersFit p b → LegStands p b l at → JobFits at.run.state at.run.group at.job_plan at.job
job-fits p b l at fits stands =
    zip-get (JobFits at.run.state at.run.group) at.run_plan.jobs at.run.jobs at.place.job at.job_plan at.job stands.job_plan stands.job
    (zip-get RunFits p.runs b.runs at.place.run at.run_plan at.run stands.in_plan stands.in_board fits)

-- a leg that holds is of a Going run and an Open job
pub holding-live : (p : Plan) (b : Board) (l : ℕ) (at : LegAt) → MembersFit p b → LegStands p b l at → is_under_way at.leg.state ≡ true → Live p b l at
holding-live p b l at fits stands under =
    let fit = job-fits p b l at fits stands in
    let right = all-get (leg_stands_right at.run.state at.run.group at.job.state) at.job.legs at.place.leg at.leg stands.leg fit.legs in
    let context = under-context at.run.state at.run.group at.job.state at.leg right under in
    record { stands = stands; going = context.0; opened = context.1 }

-- the run that a leg is in does not hold a name that another member holds
not_own-name : (b : Board) (r : ℕ) (n : List ℕ) (run : Run) (h : Member) → OneHolder b → slice_get b.runs r ≡ Some run → is_going run.state ≡ true → holder b n ≡ Some h
    → is_own (Some r) h ≡ false → share_name run.group (Some n) ≡ false
not_own-name b r n run h one' at going held not_own = by (is_named n run.group) refl
  where
    holds : (s : RunState) → is_going s ≡ true → is_named n run.group ≡ true → holds_name n (run_stands s run.group) ≡ true
    holds RunState.Going g is = is
    holds s g is = absurd (true≢false (sym g))

    by : (c : Bool) → is_named n run.group ≡ c → c ≡ false
    by false is = refl
    by true is =
        let few = one'.holder n in
        let plus : 0 + r ≡ r = omega arith in
        let first = only_first 0 (λ x. holds_name n (run_standing x)) b.runs r run (omega (arith, few)) at (holds run.state going is) in
        let mine : holder b n ≡ Some (Member.Run r) = ap (λ o. run_or_leg o (first_place 0 (λ leg. holds_name n (leg_standing leg)) (board_legs b))) (first ∙ ap (λ k. Some k) plus) in
        let same : Member.Run r ≡ h = same_some (Member.Run r) h (sym mine ∙ held) in
        let self : (r == r) ≡ true = grind arith in
        absurd (true≢false (sym self ∙ ap (is_own (Some r)) same ∙ not_own))

-- a job that is not full has room for one more
room-for : (most : Option ℕ) (legs : List Leg) (k : ℕ) (f : Leg → Leg) (leg : Leg) → slice_get legs k ≡ Some leg → (Within most (suc (under_way legs)))
    → Within most (under_way (changed legs k f))
room-for None legs k f leg at room = tt
room-for (Some most) legs k f leg at room =
    let c = sum-changed (λ x. one (is_under_way x.state)) legs k f leg at in
    let few = at_most (is_under_way (f leg).state) in
    omega (arith, c, room, few)
  where
    at_most : (u : Bool) → one u ≤ 1
    at_most true = omega arith
    at_most false = omega arith

not_full : (plan : JobPlan) (job : Job) → is_full plan job ≡ false → Within plan.max_parallel (suc (under_way job.legs))
not_full plan job free = by plan.max_parallel refl
  where
    by : (most : Option ℕ) → plan.max_parallel ≡ most → Within most (suc (under_way job.legs))
    by None is = tt
    by (Some most) is =
        let e : nat_le most (under_way job.legs) ≡ false = sym (ap (λ m. is_full (record plan { max_parallel = m }) job) is) ∙ free in
        grind (arith, nat_tests, e)

untaken-rank : (s : LegState) (left : ℕ) → is_untaken s ≡ true → 2 ≤ leg_rank s left
untaken-rank (LegState.Running worker in_call) left h = absurd (true≢false (sym h))
untaken-rank (LegState.Ended result tolerated) left h = absurd (true≢false (sym h))
untaken-rank s left h = omega arith

untaken-running : (s : LegState) → is_untaken s ≡ true → is_ended s ≡ false
untaken-running (LegState.Ended result tolerated) h = absurd (true≢false (sym h))
untaken-running s h = refl

is-fresh : (s : LegState) → is_fresh s ≡ true → s ≡ LegState.Fresh
is-fresh LegState.Fresh h = refl
is-fresh s h = absurd (true≢false (sym h))

pub record Holds (s : LegState) : Type 0 where
  pub under : is_under_way s ≡ true
  pub running : is_ended s ≡ false
  pub quiet : is_waiting s ≡ false
  pub stands : (group : Option (List ℕ)) → leg_stands s group ≡ holding group

admitted-holds : Holds LegState.Admitted
admitted-holds = record { under = refl; running = refl; quiet = refl; stands = λ group. refl }

running-holds : (worker : ℕ) (in_call : Bool) → Holds (LegState.Running worker in_call)
running-holds worker in_call = record { under = refl; running = refl; quiet = refl; stands = λ group. refl }

pub idle-holds : (s : LegState) (owner : ℕ) → rows.idle_owner s ≡ Some owner → Holds s
idle-holds (LegState.Running worker false) owner h = running-holds worker false
idle-holds s owner h = absurd (no_some owner h)

pub idle-rank : (s : LegState) (owner left : ℕ) → rows.idle_owner s ≡ Some owner → leg_rank s left ≡ 1 + 2 * left
idle-rank (LegState.Running worker false) owner left h = refl
idle-rank s owner left h = absurd (no_some owner h)

calling-holds : (s : LegState) (owner left : ℕ) → rows.calling_owner s ≡ Some owner → Holds s × (open_calls s ≡ 1) × (leg_rank s left ≡ 2 * left)
calling-holds (LegState.Running worker true) owner left h = (running-holds worker true, refl, refl)
calling-holds s owner left h = absurd (no_some owner h)

module _ (p : Plan) (b : Board) (l : ℕ) (at : LegAt) (stands : LegStands p b l at) where
  -- a leg that no worker took has ended
  pub leg_drops : (s : Standing) (result : Outcome) → MembersFit p b → Live p b l at → is_untaken at.leg.state ≡ true → leg_standing at.leg ≡ s
      → Step p b (Member.Leg l) s apart 1 (dropped b l result)
  leg_drops s result fits live untaken stood =
      let f : Leg → Leg = λ x. record x { state = LegState.Ended result false } in
      let some = untaken-rank at.leg.state (256 - length at.leg.steps) untaken in
      leg_step p b l at f live (dropped b l result) (numbered b l at.place f stands.place) s apart 1 fits (untaken-running at.leg.state untaken)
      (right-there at.run.state at.run.group at.job.state (f at.leg) live.going live.opened refl)
      (as_much p b l at f live (dropped b l result) (numbered b l at.place f stands.place) (omega arith)) stood refl (omega (arith, some))

  -- ---- Ask

  fresh_drops : Live p b l at → at.leg.state ≡ LegState.Fresh → (result : Outcome) → Leads p b (Ok (dropped b l result, moved))
  fresh_drops live is result = ends_apart p b (dropped b l result) (Member.Leg l) (λ lawful.
      leg_drops apart result lawful.fits live (ap is_untaken is) (ap (λ s. leg_stands s at.leg.group) is))

  pub ask_asker : Lawful p b → Live p b l at → at.leg.state ≡ LegState.Fresh → is_full at.job_plan at.job ≡ false → Asker p b (Member.Leg l) (Some at.place.run)
  ask_asker lawful live is free =
      let stood : leg_standing at.leg ≡ apart = ap (λ s. leg_stands s at.leg.group) is in
      let rank = ap (λ s. leg_rank s (256 - length at.leg.steps)) is in
      let room : (f : Leg → Leg) → Within at.job_plan.max_parallel (under_way (changed at.job.legs at.place.leg f)) =
      λ f. room-for at.job_plan.max_parallel at.job.legs at.place.leg f at.leg stands.leg (not_full at.job_plan at.job free) in
      record {
        admit = λ name. let f : Leg → Leg = λ x. record x { state = LegState.Admitted; group = name } in
            leg_step p b l at f live (admitted b name (Member.Leg l)) (numbered b l at.place f stands.place) apart (holding name) 1 lawful.fits (ap is_ended is)
            (right-there at.run.state at.run.group at.job.state (f at.leg) live.going live.opened refl) (λ _. room f) stood refl (omega (arith, rank));
        wait = λ n h held not_own. let f : Leg → Leg = λ x. record x { state = LegState.Waiting; group = Some n } in
            leg_step p b l at f live (waits b n (Member.Leg l)) (numbered b l at.place f stands.place) apart (waiting (Some n)) 1 lawful.fits (ap is_ended is)
            (right-waiting at.run.state at.run.group at.job.state (f at.leg) live.going live.opened refl
            (not_own-name b at.place.run n at.run h lawful.one stands.in_board live.going held not_own)) (λ _. room f) stood refl (omega (arith, rank));
        refuse = fresh_drops live is Outcome.Cancelled;
      }

  pub ask_leads : Leads p b (rows.ask_leg b l at)
  ask_leads = leads-if p b (not (rows.may_ask at)) (Err EventFault.WrongState) unstarted (λ _. tt)
      (λ ready. leads-if p b (is_full at.job_plan at.job) (Err EventFault.SlotsFull) unstopped (λ _. tt)
      (λ free. leads-if p b (is_stopping at) (Err EventFault.Stopping) (rows.leg_enters b l at (leg_entrance at)) (λ _. tt)
      (λ _.
      let all = not-not (rows.may_ask at) ready in
      let two = and-left (is_going at.run.state && is_open at.job.state) (is_fresh at.leg.state) all in
      let live : Live p b l at = record { stands = stands; going = and-left (is_going at.run.state) (is_open at.job.state) two; opened = and-right (is_going at.run.state) (is_open at.job.state) two } in
      entered (leg_entrance at) live (is-fresh at.leg.state (and-right (is_going at.run.state && is_open at.job.state) (is_fresh at.leg.state) all)) free)))
    where
      unstopped : Row
      unstopped = if is_stopping at then Err EventFault.Stopping else rows.leg_enters b l at (leg_entrance at)

      unstarted : Row
      unstarted = if is_full at.job_plan at.job then Err EventFault.SlotsFull else unstopped

      entered : (x : Result (Option Entrance) ValueFault) → Live p b l at → at.leg.state ≡ LegState.Fresh → is_full at.job_plan at.job ≡ false → Leads p b (rows.leg_enters b l at x)
      entered (Ok group) live is free =
          lawfully p b (Ok (enters b (Member.Leg l) (Some at.place.run) group)) (λ lawful. enters_leads p b (Member.Leg l) (Some at.place.run) (ask_asker lawful live is free) group)
      entered (Err f) live is free = fresh_drops live is Outcome.Failure

  -- ---- Drop

  pub drop_leads : Leads p b (rows.drop_leg b l at)
  drop_leads = leads-if p b (not (rows.may_drop at)) (Err EventFault.WrongState)
      (if is_stopping at then Ok (leaves b (leg_standing at.leg) (dropped b l Outcome.Cancelled)) else Err EventFault.NotStopping) (λ _. tt)
      (λ ready. leads-if p b (is_stopping at) (Ok (leaves b (leg_standing at.leg) (dropped b l Outcome.Cancelled))) (Err EventFault.NotStopping)
      (λ _.
      let all = not-not (rows.may_drop at) ready in
      let two = and-left (is_going at.run.state && is_open at.job.state) (is_untaken at.leg.state) all in
      let live : Live p b l at = record { stands = stands; going = and-left (is_going at.run.state) (is_open at.job.state) two; opened = and-right (is_going at.run.state) (is_open at.job.state) two } in
      leaves_leads p b (dropped b l Outcome.Cancelled) (Member.Leg l) (leg_standing at.leg) (λ lawful.
      leg_drops (leg_standing at.leg) Outcome.Cancelled lawful.fits live (and-right (is_going at.run.state && is_open at.job.state) (is_untaken at.leg.state) all) refl))
      (λ _. tt))

  -- ---- Take, Begin, End: a leg that holds and goes on holding

  goes_on : (f : Leg → Leg) → Holds at.leg.state → (f at.leg).group ≡ at.leg.group → Holds (f at.leg).state → rank_of_leg (f at.leg) + 1 ≤ rank_of_leg at.leg
      → Lawful p b → Follows p b (with_leg b at.place f)
  goes_on f was same now less lawful =
      let live = holding-live p b l at lawful.fits stands was.under in
      let before = ap one was.under in
      let after = ap one now.under in
      stands_still p b (with_leg b at.place f) (Member.Leg l) (holding at.leg.group)
      (leg_step p b l at f live (with_leg b at.place f) refl (holding at.leg.group) (holding at.leg.group) 1 lawful.fits was.running
      (right-there at.run.state at.run.group at.job.state (f at.leg) live.going live.opened now.quiet)
      (as_much p b l at f live (with_leg b at.place f) refl (omega (arith, before, after)))
      (was.stands at.leg.group) (ap (leg_stands (f at.leg).state) same ∙ now.stands at.leg.group) less) lawful

  pub take_leads : (worker : ℕ) → Leads p b (rows.take_leg b worker at at.leg.state)
  take_leads worker = by at.leg.state refl
    where
      by : (s : LegState) → at.leg.state ≡ s → Leads p b (rows.take_leg b worker at s)
      by LegState.Admitted is = leads-if p b (is_stopping at) (Err EventFault.Stopping) (Ok (rows.leg_state_set b at.place (LegState.Running worker false), moved)) (λ _. tt)
          (λ _. let rank = ap (λ s. leg_rank s (256 - length at.leg.steps)) is in
          goes_on (λ x. record x { state = LegState.Running worker false }) (subst Holds (sym is) admitted-holds) refl (running-holds worker false) (omega (arith, rank)))
      by s is = tt

  -- the leg has one more step done
  step_leads : (worker : ℕ) (done : DoneStep) (told : Reply) → Holds at.leg.state → length at.leg.steps < 256 → 2 * (256 - length at.leg.steps) ≤ rank_of_leg at.leg
      → Leads p b (Ok (rows.step_done b at.place worker done, told))
  step_leads worker done told was few rank =
      let more = length-append at.leg.steps (done ∷ []) in
      goes_on (λ x. record x { state = LegState.Running worker false; steps = x.steps ++ done ∷ [] }) was refl (running-holds worker false) (omega (arith, few, rank, more))

  pub begin_leads : (worker : ℕ) → Leads p b (rows.begin_leg b worker at (rows.beginning worker l at))
  begin_leads worker = by_owner (rows.idle_owner at.leg.state) refl (rows.next_step at) refl
    where
      begun : (owner : ℕ) → rows.idle_owner at.leg.state ≡ Some owner → length at.leg.steps < length at.job_plan.steps → (x : Beginning) → Leads p b (rows.begin_leg b worker at (Ok x))
      begun owner was left x = lawfully p b (rows.begin_leg b worker at (Ok x)) (λ lawful.
          let most = (job-fits p b l at lawful.fits stands).steps in
          how (idle-holds at.leg.state owner was) (omega (arith, most, left)) (idle-rank at.leg.state owner (256 - length at.leg.steps) was) x)
        where
          how : Holds at.leg.state → length at.leg.steps < 256 → rank_of_leg at.leg ≡ 1 + 2 * (256 - length at.leg.steps) → (x : Beginning) → Leads p b (rows.begin_leg b worker at (Ok x))
          how holds few rank (calls call) = goes_on (λ y. record y { state = LegState.Running worker true }) holds refl (running-holds worker true) (omega (arith, rank))
          how holds few rank skips = step_leads worker rows.skipped_step (rows.reply What.Skipped) holds few (omega (arith, rank))
          how holds few rank (faults f) = step_leads worker (rows.failed_step at) (rows.reply (What.Faulted f)) holds few (omega (arith, rank))

      by_beginning : (owner : ℕ) → rows.idle_owner at.leg.state ≡ Some owner → length at.leg.steps < length at.job_plan.steps → (x : Result Beginning EventFault) → Leads p b (rows.begin_leg b worker at x)
      by_beginning owner was left (Ok x) = begun owner was left x
      by_beginning owner was left (Err f) = tt

      by_owner : (owner : Option ℕ) → rows.idle_owner at.leg.state ≡ owner → (step : Option StepPlan) → rows.next_step at ≡ step
          → Leads p b (rows.begin_leg b worker at (rows.beginning_by worker l at owner step))
      by_owner None was step next = tt
      by_owner (Some owner) was None next = tt
      by_owner (Some owner) was (Some step) next =
          by_beginning owner was (slice_get_within at.job_plan.steps (length at.leg.steps) step next) (rows.beginning_by worker l at (Some owner) (Some step))

  pub end_leads : HasShape p b → (worker : ℕ) (a : Answer) → Leads p b (rows.end_leg b worker at (rows.ending worker at a))
  end_leads shape worker a = by_owner (rows.calling_owner at.leg.state) refl
    where
      here : JobShape at.job_plan at.job
      here = zip-get JobShape at.run_plan.jobs at.run.jobs at.place.job at.job_plan at.job stands.job_plan stands.job
          (zip-get RunShape p.runs b.runs at.place.run at.run_plan at.run stands.in_plan stands.in_board shape)

      left : (steps called most : ℕ) → called ≡ 1 → nat_le (steps + called) most ≡ true → steps < most
      left steps called most one had = let within = leb-true (steps + called) most had in omega (arith, one, within)

      by_ending : (owner : ℕ) → rows.calling_owner at.leg.state ≡ Some owner → (x : Result DoneStep EventFault) → Leads p b (rows.end_leg b worker at x)
      by_ending owner was (Ok done) = lawfully p b (rows.end_leg b worker at (Ok done)) (λ lawful.
          let most = (job-fits p b l at lawful.fits stands).steps in
          let had = all-get (has_room at.job_plan) at.job.legs at.place.leg at.leg stands.leg here.steps in
          let calls = calling-holds at.leg.state owner (256 - length at.leg.steps) was in
          let few = left (length at.leg.steps) (open_calls at.leg.state) (length at.job_plan.steps) calls.1 had in
          let rank = calls.2 in
          step_leads worker done moved calls.0 (omega (arith, few, most)) (omega (arith, rank)))
      by_ending owner was (Err f) = tt

      by_owner : (owner : Option ℕ) → rows.calling_owner at.leg.state ≡ owner → Leads p b (rows.end_leg b worker at (rows.ending_by worker at a owner))
      by_owner None was = tt
      by_owner (Some owner) was = by_ending owner was (rows.ending_by worker at a (Some owner))

  -- ---- Finish

  pub finish_leads : (worker : ℕ) → Leads p b (rows.finish_leg b l at (rows.finishing worker at))
  finish_leads worker = by_owner (rows.idle_owner at.leg.state) refl
    where
      ended : (owner : ℕ) → rows.idle_owner at.leg.state ≡ Some owner → Leads p b (rows.finish_leg b l at (Ok (rows.ended_state at (leg_result at))))
      ended owner was =
          let state = rows.ended_state at (leg_result at) in
          let f : Leg → Leg = λ x. record x { state = state; outputs = leg_outputs at } in
          let new = rows.leg_ended b at.place l state (leg_outputs at) in
          let holds = idle-holds at.leg.state owner was in
          let rank = idle-rank at.leg.state owner (256 - length at.leg.steps) was in
          leaves_leads p b new (Member.Leg l) (leg_standing at.leg) (λ lawful.
          let live = holding-live p b l at lawful.fits stands holds.under in
          leg_step p b l at f live new refl (leg_standing at.leg) apart 1 lawful.fits holds.running
          (right-there at.run.state at.run.group at.job.state (f at.leg) live.going live.opened refl)
          (as_much p b l at f live new refl (omega arith)) refl refl (omega (arith, rank)))

      by_owner : (owner : Option ℕ) → rows.idle_owner at.leg.state ≡ owner → Leads p b (rows.finish_leg b l at (rows.finishing_by worker at owner))
      by_owner None was = tt
      by_owner (Some owner) was = by_test (not (worker == owner)) (nat_lt (length at.leg.steps) (length at.job_plan.steps))
        where
          by_test : (other more : Bool)
              → Leads p b (rows.finish_leg b l at (if other then Err EventFault.OtherWorker else (if more then Err EventFault.StepsLeft else Ok (rows.ended_state at (leg_result at)))))
          by_test true more = tt
          by_test false true = tt
          by_test false false = ended owner was
