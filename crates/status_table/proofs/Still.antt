-- Events that take part in no group: who holds a name and who waits for it is found as before.
use Rattle.std.proofs.Common.{◌≡◌, ℕ, zero, suc, ◌||◌, Bool, true, false, List, [], ◌∷◌, ◌++◌, Option, Some, None, Result, Ok, Err, slice_get, nat_le, if◌then◌else◌, ap, subst, sym, refl, ◌∙◌}
use Rattle.std.specs.List.{flat_map}
use Rattle.status_table.specs.Words.{Answer, Beginning, Board, Content, DoneStep, Event, Job, JobAt, JobPlace, JobState, Leg, LegAt, LegState, Member, Plan, Run, RunAt, Standing, begin_found, begin_leg, beginning_by, board_legs, calling_owner, calls, cancel_found, changed, end_found, end_leg, ending_by, first_place, holding, idle_owner, is_closed, is_stopping, job_at, job_state_set, judge_found, judge_job, judgement, leg_at, leg_standing, leg_stands, leg_state_set, moved, next_step, run_at, run_standing, step_done, stopped, take_found, take_leg, waits_name, with_leg}
use Rattle.status_table.specs.declared.fault.EventFault.{EventFault}
use Rattle.status_table.specs.Admissions.{Shows, ShowsThen, StaysShown}
use Rattle.status_table.specs.Groups.{holds_name, run_or_leg, first_member}
use Rattle.status_table.proofs.Decided.{by_test}
use Rattle.status_table.proofs.Found.{LegStands, leg_stands as leg_found, leg_item}
use Rattle.status_table.proofs.LegRows.{idle-holds}
use Rattle.status_table.proofs.Lists.{changed-cons, flat_map-kept, flat_map-twice}
use Rattle.board_decisions.proofs.Lists.{same_some, no_some}
use Rattle.status_table.proofs.Numbers.{board_legs-changed}
use Rattle.status_table.proofs.Shown.{first-kept, stop_keeps}

shows_same : (groups : Content) (b new : Board) → ((t : Standing → Bool) → first_member t new ≡ first_member t b) → Shows groups b → Shows groups new
shows_same groups b new same shows = record {
  holder = λ k some. shows.holder k some ∙ sym (same (holds_name k));
  waiter = λ k some. shows.waiter k some ∙ sym (same (waits_name k));
}

-- ---- a job is changed, but not its legs

job_still : (b : Board) (place : JobPlace) (state : JobState) (t : Standing → Bool) → first_member t (job_state_set b place state) ≡ first_member t b
job_still b place state t =
    let in_job : Job → Job = λ job. record job { state = state } in
    let in_run : Run → Run = λ run. record run { jobs = changed run.jobs place.job in_job } in
    let legs : board_legs (job_state_set b place state) ≡ board_legs b =
    flat_map-twice (λ (run : Run). run.jobs) (λ (job : Job). job.legs) (changed b.runs place.run in_run)
    ∙ flat_map-kept (λ (run : Run). flat_map (λ (job : Job). job.legs) run.jobs) b.runs place.run in_run (λ run. flat_map-kept (λ (job : Job). job.legs) run.jobs place.job in_job (λ job. refl))
    ∙ sym (flat_map-twice (λ (run : Run). run.jobs) (λ (job : Job). job.legs) b.runs) in
    ap (λ o. run_or_leg o (first_place 0 (λ leg. t (leg_standing leg)) (board_legs (job_state_set b place state)))) (first-kept 0 (λ run. t (run_standing run)) b.runs place.run in_run (λ x. refl))
    ∙ ap (λ ls. run_or_leg (first_place 0 (λ run. t (run_standing run)) b.runs) (first_place 0 (λ leg. t (leg_standing leg)) ls)) legs

-- ---- a leg stands as it stood

first-same : {A : Type 0} (k : ℕ) (t : A → Bool) (xs : List A) (i : ℕ) (f : A → A) (x : A) → slice_get xs i ≡ Some x → t (f x) ≡ t x → first_place k t (changed xs i f) ≡ first_place k t xs
first-same k t [] i f x at h = absurd (no_some x at)
first-same {A} k t (y ∷ ys) zero f x at h =
    ap (λ c. if c then Some k else first_place (suc k) t ys) (subst (λ (z : A). t (f z) ≡ t z) (sym (same_some y x at)) h)
first-same k t (y ∷ ys) (suc i) f x at h =
    ap (first_place k t) (changed-cons y ys i f) ∙ ap (λ o. if t y then Some k else o) (first-same (suc k) t ys i f x at h)

leg_still : (p : Plan) (b : Board) (l : ℕ) (at : LegAt) → LegStands p b l at → (f : Leg → Leg) → leg_standing (f at.leg) ≡ leg_standing at.leg → (t : Standing → Bool)
    → first_member t (with_leg b at.place f) ≡ first_member t b
leg_still p b l at stands f same t =
    let in_run : Run → Run = λ run. record run { jobs = changed run.jobs at.place.job (λ job. record job { legs = changed job.legs at.place.leg f }) } in
    ap (λ o. run_or_leg o (first_place 0 (λ leg. t (leg_standing leg)) (board_legs (with_leg b at.place f)))) (first-kept 0 (λ run. t (run_standing run)) b.runs at.place.run in_run (λ x. refl))
    ∙ ap (λ o. run_or_leg (first_place 0 (λ run. t (run_standing run)) b.runs) o)
    (ap (first_place 0 (λ leg. t (leg_standing leg))) (board_legs-changed b l at.place f stands.place)
    ∙ first-same 0 (λ leg. t (leg_standing leg)) (board_legs b) l f at.leg (leg_item p b l at stands) (ap t same))

-- ---- the events

pub judge_shows : (j : ℕ) → StaysShown (Event.Judge j)
judge_shows j p b worker groups shows = by_test (ShowsThen groups) (nat_le worker 15) (judge_found b j (job_at p b j)) (Err EventFault.NoSuch) (found (job_at p b j)) tt
  where
    judged : (place : JobPlace) (x : Result JobState EventFault) → ShowsThen groups (judge_job b place x)
    judged place (Ok state) = shows_same groups b (job_state_set b place state) (job_still b place state) shows
    judged place (Err f) = tt

    found : (o : Option JobAt) → ShowsThen groups (judge_found b j o)
    found None = tt
    found (Some at) = judged at.place (judgement j at)

pub take_shows : (l : ℕ) → StaysShown (Event.Take l)
take_shows l p b worker groups shows = by_test (ShowsThen groups) (nat_le worker 15) (take_found b worker (leg_at p b l)) (Err EventFault.NoSuch) (found (leg_at p b l) refl) tt
  where
    taken : (at : LegAt) → leg_at p b l ≡ Some at → (s : LegState) → at.leg.state ≡ s → ShowsThen groups (take_leg b worker at s)
    taken at is LegState.Admitted state =
        by_test (ShowsThen groups) (is_stopping at) (Err EventFault.Stopping) (Ok (leg_state_set b at.place (LegState.Running worker false), moved)) tt
        (shows_same groups b (leg_state_set b at.place (LegState.Running worker false))
        (leg_still p b l at (leg_found p b l at is) (λ leg. record leg { state = LegState.Running worker false }) (sym (ap (λ s. leg_stands s at.leg.group) state))) shows)
    taken at is s state = tt

    found : (o : Option LegAt) → leg_at p b l ≡ o → ShowsThen groups (take_found b worker o)
    found None is = tt
    found (Some at) is = taken at is at.leg.state refl

stepped : (p : Plan) (b : Board) (worker l : ℕ) (at : LegAt) (groups : Content) (done : DoneStep) → leg_at p b l ≡ Some at → leg_standing at.leg ≡ holding at.leg.group → Shows groups b
    → Shows groups (step_done b at.place worker done)
stepped p b worker l at groups done is stood shows =
    shows_same groups b (step_done b at.place worker done)
    (leg_still p b l at (leg_found p b l at is) (λ leg. record leg { state = LegState.Running worker false; steps = leg.steps ++ done ∷ [] }) (sym stood)) shows

pub begin_shows : (l : ℕ) → StaysShown (Event.Begin l)
begin_shows l p b worker groups shows = by_test (ShowsThen groups) (nat_le worker 15) (begin_found b worker l (leg_at p b l)) (Err EventFault.NoSuch) (found (leg_at p b l) refl) tt
  where
    begun : (at : LegAt) → leg_at p b l ≡ Some at → leg_standing at.leg ≡ holding at.leg.group → (x : Result Beginning EventFault) → ShowsThen groups (begin_leg b worker at x)
    begun at is stood (Ok (calls call)) =
        shows_same groups b (leg_state_set b at.place (LegState.Running worker true))
        (leg_still p b l at (leg_found p b l at is) (λ leg. record leg { state = LegState.Running worker true }) (sym stood)) shows
    begun at is stood (Err f) = tt
    begun at is stood x = stepped p b worker l at groups _ is stood shows

    by_owner : (at : LegAt) → leg_at p b l ≡ Some at → (owner : Option ℕ) → idle_owner at.leg.state ≡ owner → ShowsThen groups (begin_leg b worker at (beginning_by worker l at owner (next_step at)))
    by_owner at is None was = tt
    by_owner at is (Some owner) was = begun at is ((idle-holds at.leg.state owner was).stands at.leg.group) (beginning_by worker l at (Some owner) (next_step at))

    found : (o : Option LegAt) → leg_at p b l ≡ o → ShowsThen groups (begin_found b worker l o)
    found None is = tt
    found (Some at) is = by_owner at is (idle_owner at.leg.state) refl

calling-stands : (s : LegState) (owner : ℕ) (group : Option (List ℕ)) → calling_owner s ≡ Some owner → leg_stands s group ≡ holding group
calling-stands (LegState.Running worker in_call) owner group h = refl
calling-stands s owner group h = absurd (no_some owner h)

pub end_shows : (l : ℕ) (a : Answer) → StaysShown (Event.End l a)
end_shows l a p b worker groups shows = by_test (ShowsThen groups) (nat_le worker 15) (end_found b worker a (leg_at p b l)) (Err EventFault.NoSuch) (found (leg_at p b l) refl) tt
  where
    ended : (at : LegAt) → leg_at p b l ≡ Some at → leg_standing at.leg ≡ holding at.leg.group → (x : Result DoneStep EventFault) → ShowsThen groups (end_leg b worker at x)
    ended at is stood (Ok done) = stepped p b worker l at groups done is stood shows
    ended at is stood (Err f) = tt

    by_owner : (at : LegAt) → leg_at p b l ≡ Some at → (owner : Option ℕ) → calling_owner at.leg.state ≡ owner → ShowsThen groups (end_leg b worker at (ending_by worker at a owner))
    by_owner at is None was = tt
    by_owner at is (Some owner) was = ended at is (calling-stands at.leg.state owner at.leg.group was) (ending_by worker at a (Some owner))

    found : (o : Option LegAt) → leg_at p b l ≡ o → ShowsThen groups (end_found b worker a o)
    found None is = tt
    found (Some at) is = by_owner at is (calling_owner at.leg.state) refl

pub cancel_shows : (r : ℕ) → StaysShown (Event.Cancel r)
cancel_shows r p b worker groups shows = by_test (ShowsThen groups) (nat_le worker 15) (cancel_found b r (run_at p b r)) (Err EventFault.NoSuch) (found (run_at p b r)) tt
  where
    found : (o : Option RunAt) → ShowsThen groups (cancel_found b r o)
    found None = tt
    found (Some at) =
        by_test (ShowsThen groups) (is_closed at.run.state || at.run.stop) (Err EventFault.WrongState) (Ok (stopped b true (Member.Run r), moved)) tt
        (shows_same groups b (stopped b true (Member.Run r)) (λ t. stop_keeps t b true (Member.Run r)) shows)
