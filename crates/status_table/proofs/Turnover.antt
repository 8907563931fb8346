-- What becomes of those who hold or wait for a name: they are found, displaced, let on, or told to stop.
use Rattle.std.proofs.Common.{◌≡◌, ℕ, ◌+◌, ◌-◌, ◌≤◌, ◌&&◌, ◌||◌, Bool, true, false, not, List, [], ◌∷◌, Option, Some, None, length, slice_get, option_map, ap, subst, sym, refl, ◌∙◌, arith}
use Rattle.std.specs.List.{list_all, AllZip}
use Rattle.std.proofs.lemmas.Bool.{true≢false}
use Rattle.std.proofs.lemmas.Slice.Eq.{bytes_eq-Decides}
use Rattle.status_table.specs.Words.{Board, Job, JobFits, JobPlan, JobState, Leg, LegAt, LegPlace, LegState, Member, MembersFit, Outcome, Plan, Run, RunFits, RunState, Standing, apart, board_legs, cancelled, first_place, holder, holding, is_closed, is_ended, is_fresh, is_going, is_named, is_open, is_shut, is_under_way, is_waiting, job_has_ended, leg_changed, leg_has_ended, leg_place, leg_standing, leg_stands, leg_stands_right, leg_there, passed_on, run_standing, run_stands, share_name, stopped, waiter, waiters, waiting, waits_name, with_leg, ◌>>=◌}
use Rattle.status_table.specs.Groups.{holds_name, run_or_leg, first_member}
use Rattle.status_table.specs.Members.{count_members, holders}
use Rattle.status_table.proofs.Rank.{run_rank, leg_rank}
use Rattle.board_decisions.proofs.Lists.{and-left, and-right, and-both}
use Rattle.status_table.proofs.Counts.{one, counted, first-none, first-some, map-some, zip-left, zip-weaker, all-weaker}
use Rattle.status_table.proofs.Ended.{stays-same}
use Rattle.status_table.proofs.Lists.{all-get, bind-some}
use Rattle.status_table.proofs.Numbers.{legs_are_numbered}
use Rattle.status_table.proofs.Steps.{standing, Step, run_step, Live, leg_step, as_much}

-- ---- legs that stand rightly

-- a leg under way is of a Going run and an Open job
pub under-context : (s : RunState) (g : Option (List ℕ)) (j : JobState) (leg : Leg) → leg_stands_right s g j leg ≡ true → is_under_way leg.state ≡ true
    → (is_going s ≡ true) × (is_open j ≡ true)
under-context s g j leg right under = by leg.state right under
  where
    both : (w : Bool) → is_open j && (is_going s && w) ≡ true → (is_going s ≡ true) × (is_open j ≡ true)
    both w h = (and-left (is_going s) w (and-right (is_open j) (is_going s && w) h), and-left (is_open j) (is_going s && w) h)

    by : (t : LegState) → is_fresh t || (is_open j && (not (is_under_way t) || (is_going s && not (is_waiting t && share_name g leg.group)))) ≡ true → is_under_way t ≡ true
        → (is_going s ≡ true) × (is_open j ≡ true)
    by LegState.Waiting h u = both (not (share_name g leg.group)) h
    by LegState.Admitted h u = both true h
    by (LegState.Running worker in_call) h u = both true h
    by t h u = absurd (true≢false (sym u))

-- there a leg that does not wait stands rightly
pub right-there : (s : RunState) (g : Option (List ℕ)) (j : JobState) (leg : Leg) → is_going s ≡ true → is_open j ≡ true → is_waiting leg.state ≡ false
    → leg_stands_right s g j leg ≡ true
right-there s g j leg going opened quiet = by leg.state quiet
  where
    by : (t : LegState) → is_waiting t ≡ false → is_fresh t || (is_open j && (not (is_under_way t) || (is_going s && not (is_waiting t && share_name g leg.group)))) ≡ true
    by LegState.Fresh h = refl
    by LegState.Waiting h = absurd (true≢false h)
    by (LegState.Ended result tolerated) h = and-both (is_open j) true opened refl
    by t h = and-both (is_open j) (is_going s && true) opened (and-both (is_going s) true going refl)

-- and so does one that waits, if not for its own run
pub right-waiting : (s : RunState) (g : Option (List ℕ)) (j : JobState) (leg : Leg) → is_going s ≡ true → is_open j ≡ true → leg.state ≡ LegState.Waiting
    → share_name g leg.group ≡ false → leg_stands_right s g j leg ≡ true
right-waiting s g j leg going opened is other = rw (is, going, opened, other) refl

-- what stands rightly in a run that is not Going does so whatever becomes of the run
idle-right : (s t : RunState) (g h : Option (List ℕ)) (j : JobState) (leg : Leg) → is_going s ≡ false → leg_stands_right s g j leg ≡ true → leg_stands_right t h j leg ≡ true
idle-right s t g h j leg idle right = by leg.state right
  where
    never : (w : Bool) (c : Bool) → is_open j && (is_going s && w) ≡ true → c ≡ true
    never w c k = absurd (true≢false (sym (and-left (is_going s) w (and-right (is_open j) (is_going s && w) k)) ∙ idle))

    by : (u : LegState) → is_fresh u || (is_open j && (not (is_under_way u) || (is_going s && not (is_waiting u && share_name g leg.group)))) ≡ true
        → is_fresh u || (is_open j && (not (is_under_way u) || (is_going t && not (is_waiting u && share_name h leg.group)))) ≡ true
    by LegState.Fresh k = refl
    by LegState.Waiting k = never (not (share_name g leg.group)) (is_open j && (is_going t && not (share_name h leg.group))) k
    by (LegState.Ended result tolerated) k = k
    by u k = never true (is_open j && (is_going t && true)) k

pub idle-run : (s t : RunState) (g h : Option (List ℕ)) (plans : List JobPlan) (jobs : List Job) → is_going s ≡ false → AllZip (JobFits s g) plans jobs → AllZip (JobFits t h) plans jobs
idle-run s t g h plans jobs idle all = zip-weaker (JobFits s g) (JobFits t h) (λ q job fits. record {
  legs = all-weaker (leg_stands_right s g job.state) (leg_stands_right t h job.state) (λ leg. idle-right s t g h job.state leg idle) job.legs fits.legs;
  slots = fits.slots;
  some = fits.some;
  steps = fits.steps;
}) plans jobs all

-- what stands rightly in a run whose jobs have ended does so when the run is Closed
ended-right : (s t : RunState) (g : Option (List ℕ)) (j : JobState) (leg : Leg) → is_closed s ≡ false → leg_stands_right s g j leg ≡ true
    → is_closed s || is_shut j || is_ended leg.state ≡ true → leg_stands_right t g j leg ≡ true
ended-right s t g j leg unclosed right ended = by leg.state right (sym (ap (λ c. c || is_shut j || is_ended leg.state) unclosed) ∙ ended)
  where
    open-or-shut : (state : JobState) → is_open state ≡ true → is_shut state || false ≡ true → ⊥
    open-or-shut JobState.Open h k = true≢false (sym k)
    open-or-shut state h k = true≢false (sym h)

    never : (w : Bool) (c : Bool) → is_open j && w ≡ true → is_shut j || false ≡ true → c ≡ true
    never w c k e = absurd (open-or-shut j (and-left (is_open j) w k) e)

    by : (u : LegState) → is_fresh u || (is_open j && (not (is_under_way u) || (is_going s && not (is_waiting u && share_name g leg.group)))) ≡ true
        → is_shut j || is_ended u ≡ true → is_fresh u || (is_open j && (not (is_under_way u) || (is_going t && not (is_waiting u && share_name g leg.group)))) ≡ true
    by LegState.Fresh k e = refl
    by LegState.Waiting k e = never (is_going s && not (share_name g leg.group)) (is_open j && (is_going t && not (share_name g leg.group))) k e
    by (LegState.Ended result tolerated) k e = k
    by u k e = never (is_going s && true) (is_open j && (is_going t && true)) k e

both-weaker : {A : Type 0} (s u t : A → Bool) → ((x : A) → s x ≡ true → u x ≡ true → t x ≡ true) → (xs : List A) → list_all s xs ≡ true → list_all u xs ≡ true → list_all t xs ≡ true
both-weaker s u t f [] h k = refl
both-weaker s u t f (y ∷ ys) h k =
    and-both (t y) (list_all t ys) (f y (and-left (s y) (list_all s ys) h) (and-left (u y) (list_all u ys) k))
    (both-weaker s u t f ys (and-right (s y) (list_all s ys) h) (and-right (u y) (list_all u ys) k))

pub ended-run : (run : Run) (t : RunState) (plans : List JobPlan) (jobs : List Job) → is_closed run.state ≡ false → list_all (job_has_ended run) jobs ≡ true
    → AllZip (JobFits run.state run.group) plans jobs → AllZip (JobFits t run.group) plans jobs
ended-run run t [] [] unclosed ended h = tt
ended-run run t [] (x ∷ xs) unclosed ended h = absurd h
ended-run run t (q ∷ qs) [] unclosed ended h = absurd h
ended-run run t (q ∷ qs) (x ∷ xs) unclosed ended h = (
  record {
    legs = both-weaker (leg_stands_right run.state run.group x.state) (leg_has_ended run x) (leg_stands_right t run.group x.state)
        (λ leg. ended-right run.state t run.group x.state leg unclosed) x.legs h.0.legs (and-left (job_has_ended run x) (list_all (job_has_ended run) xs) ended);
    slots = h.0.slots;
    some = h.0.some;
    steps = h.0.steps;
  },
  ended-run run t qs xs unclosed (and-right (job_has_ended run x) (list_all (job_has_ended run) xs) ended) h.1,
)

-- ---- who stands how

pub run-waits : (s : RunState) (g name : Option (List ℕ)) → run_stands s g ≡ waiting name → (s ≡ RunState.Waiting) × (g ≡ name)
run-waits RunState.New g name h = absurd (no h)
  where
    no : apart ≡ waiting name → ⊥
    no e = cc
run-waits RunState.Waiting g name h = (refl, same h)
  where
    same : waiting g ≡ waiting name → g ≡ name
    same e = cc
run-waits RunState.Going g name h = absurd (no h)
  where
    no : holding g ≡ waiting name → ⊥
    no e = cc
run-waits (RunState.Closed result) g name h = absurd (no h)
  where
    no : apart ≡ waiting name → ⊥
    no e = cc

pub leg-waits : (s : LegState) (g name : Option (List ℕ)) → leg_stands s g ≡ waiting name → (s ≡ LegState.Waiting) × (g ≡ name)
leg-waits LegState.Fresh g name h = absurd (no h)
  where
    no : apart ≡ waiting name → ⊥
    no e = cc
leg-waits LegState.Waiting g name h = (refl, same h)
  where
    same : waiting g ≡ waiting name → g ≡ name
    same e = cc
leg-waits LegState.Admitted g name h = absurd (no h)
  where
    no : holding g ≡ waiting name → ⊥
    no e = cc
leg-waits (LegState.Running worker in_call) g name h = absurd (no h)
  where
    no : holding g ≡ waiting name → ⊥
    no e = cc
leg-waits (LegState.Ended result tolerated) g name h = absurd (no h)
  where
    no : apart ≡ waiting name → ⊥
    no e = cc

run-holds : (s : RunState) (g name : Option (List ℕ)) → run_stands s g ≡ holding name → is_closed s ≡ false
run-holds (RunState.Closed result) g name h = absurd (no h)
  where
    no : apart ≡ holding name → ⊥
    no e = cc
run-holds s g name h = refl

record Holds (s : LegState) : Type 0 where
  under : is_under_way s ≡ true
  running : is_ended s ≡ false
  quiet : is_waiting s ≡ false

leg-holds : (s : LegState) (g name : Option (List ℕ)) → leg_stands s g ≡ holding name → Holds s
leg-holds LegState.Fresh g name h = absurd (no h)
  where
    no : apart ≡ holding name → ⊥
    no e = cc
leg-holds LegState.Waiting g name h = absurd (no h)
  where
    no : waiting g ≡ holding name → ⊥
    no e = cc
leg-holds (LegState.Ended result tolerated) g name h = absurd (no h)
  where
    no : apart ≡ holding name → ⊥
    no e = cc
leg-holds s g name h = record { under = refl; running = refl; quiet = refl }

-- ---- where a leg under way is

-- where a leg stands
pub record Lives (p : Plan) (b : Board) (l : ℕ) (leg : Leg) : Type 0 where
  pub at : LegAt
  pub leg_is : at.leg ≡ leg
  pub live : Live p b l at

pub lives : (p : Plan) (b : Board) (l : ℕ) (leg : Leg) → MembersFit p b → slice_get (board_legs b) l ≡ Some leg → is_under_way leg.state ≡ true → Lives p b l leg
lives p b l leg fits there under =
    let place = bind-some (leg_place b l) (λ at. leg_there b at) leg ((legs_are_numbered b).there l ∙ there) in
    let run = bind-some (slice_get b.runs place.0.run) (λ run. slice_get run.jobs place.0.job >>= λ job. slice_get job.legs place.0.leg) leg place.2 in
    let job = bind-some (slice_get run.0.jobs place.0.job) (λ job. slice_get job.legs place.0.leg) leg run.2 in
    let run_fits = zip-left RunFits p.runs b.runs place.0.run run.0 run.1 fits in
    let job_fits = zip-left (JobFits run.0.state run.0.group) run_fits.0.jobs run.0.jobs place.0.job job.0 job.1 run_fits.2 in
    let right = all-get (leg_stands_right run.0.state run.0.group job.0.state) job.0.legs place.0.leg leg job.2 job_fits.2.legs in
    let context = under-context run.0.state run.0.group job.0.state leg right under in
    record {
      at = record { board = b; place = place.0; run_plan = run_fits.0; job_plan = job_fits.0; run = run.0; job = job.0; leg = leg };
      leg_is = refl;
      live = record {
        stands = record { place = place.1; in_plan = run_fits.1; in_board = run.1; job_plan = job_fits.1; job = job.1; leg = job.2 };
        going = context.0;
        opened = context.1;
      };
    }

-- to change a leg by its number is to change it at its place
pub numbered : (b : Board) (l : ℕ) (at : LegPlace) (f : Leg → Leg) → leg_place b l ≡ Some at → leg_changed b.runs (leg_place b l) f ≡ (with_leg b at f).runs
numbered b l at f is = ap (λ o. leg_changed b.runs o f) is

-- ---- a waiter is displaced

pub displaced_step : (p : Plan) (b : Board) (w : Member) (name : Option (List ℕ)) → MembersFit p b → standing b w ≡ Some (waiting name)
    → Step p b w (waiting name) apart 0 (cancelled b w)
displaced_step p b (Member.Run r) name fits h =
    let run = map-some run_standing (slice_get b.runs r) (waiting name) h in
    let is = run-waits run.0.state run.0.group name run.2 in
    let f : Run → Run = λ x. record x { state = RunState.Closed Outcome.Cancelled } in
    run_step p b r f run.0 run.1 (λ x. refl) (cancelled b (Member.Run r)) refl (waiting name) apart 0 fits (ap is_closed is.0)
    (λ plan all. idle-run run.0.state (RunState.Closed Outcome.Cancelled) run.0.group run.0.group plan.jobs run.0.jobs (ap is_going is.0) all) run.2 refl (omega arith)
displaced_step p b (Member.Leg l) name fits h =
    let leg = map-some leg_standing (slice_get (board_legs b) l) (waiting name) h in
    let is = leg-waits leg.0.state leg.0.group name leg.2 in
    let there = lives p b l leg.0 fits leg.1 (ap is_under_way is.0) in
    let at = there.at in
    let f : Leg → Leg = λ x. record x { state = LegState.Ended Outcome.Cancelled false } in
    leg_step p b l at f there.live (cancelled b (Member.Leg l)) (numbered b l at.place f there.live.stands.place) (waiting name) apart 0 fits
    (ap (λ (x : Leg). is_ended x.state) there.leg_is ∙ ap is_ended is.0) (right-there at.run.state at.run.group at.job.state (f at.leg) there.live.going there.live.opened refl)
    (as_much p b l at f there.live (cancelled b (Member.Leg l)) (numbered b l at.place f there.live.stands.place) (omega arith))
    (ap leg_standing there.leg_is ∙ leg.2) refl (omega arith)

-- ---- a waiter goes on

pub passed_step : (p : Plan) (b : Board) (w : Member) (name : Option (List ℕ)) → MembersFit p b → standing b w ≡ Some (waiting name)
    → Step p b w (waiting name) (holding name) 0 (passed_on b (Some w))
passed_step p b (Member.Run r) name fits h =
    let run = map-some run_standing (slice_get b.runs r) (waiting name) h in
    let is = run-waits run.0.state run.0.group name run.2 in
    let f : Run → Run = λ x. record x { state = RunState.Going } in
    let rank = ap (λ s. run_rank s run.0.stop) is.0 in
    run_step p b r f run.0 run.1 (λ x. refl) (passed_on b (Some (Member.Run r))) refl (waiting name) (holding name) 0 fits (ap is_closed is.0)
    (λ plan all. idle-run run.0.state RunState.Going run.0.group run.0.group plan.jobs run.0.jobs (ap is_going is.0) all) run.2 (ap holding is.1) (omega (arith, rank))
passed_step p b (Member.Leg l) name fits h =
    let leg = map-some leg_standing (slice_get (board_legs b) l) (waiting name) h in
    let is = leg-waits leg.0.state leg.0.group name leg.2 in
    let there = lives p b l leg.0 fits leg.1 (ap is_under_way is.0) in
    let at = there.at in
    let f : Leg → Leg = λ x. record x { state = LegState.Admitted } in
    let was : at.leg.state ≡ LegState.Waiting = ap (λ (x : Leg). x.state) there.leg_is ∙ is.0 in
    let under = ap (λ s. one (is_under_way s)) was in
    let rank = ap (λ s. leg_rank s (256 - length at.leg.steps)) was in
    leg_step p b l at f there.live (passed_on b (Some (Member.Leg l))) (numbered b l at.place f there.live.stands.place) (waiting name) (holding name) 0 fits
    (ap is_ended was) (right-there at.run.state at.run.group at.job.state (f at.leg) there.live.going there.live.opened refl)
    (as_much p b l at f there.live (passed_on b (Some (Member.Leg l))) (numbered b l at.place f there.live.stands.place) (omega (arith, under)))
    (ap leg_standing there.leg_is ∙ leg.2) (ap (λ (x : Leg). holding x.group) there.leg_is ∙ ap holding is.1) (omega (arith, rank))

-- ---- a holder is told to stop

kept_step : (p : Plan) (b : Board) (m : Member) (s : Standing) → MembersFit p b → standing b m ≡ Some s → Step p b m s s 0 b
kept_step p b m s fits h = record {
  was = h;
  holds = λ k. refl;
  waits = λ k. refl;
  others = λ o _. refl;
  fits = fits;
  needs = λ needs. needs;
  stays = stays-same b;
  lower = omega arith;
}

stop-rank : (s : RunState) (stop : Bool) → run_rank s true + 0 ≤ run_rank s stop
stop-rank RunState.New true = omega arith
stop-rank RunState.New false = omega arith
stop-rank RunState.Waiting true = omega arith
stop-rank RunState.Waiting false = omega arith
stop-rank RunState.Going true = omega arith
stop-rank RunState.Going false = omega arith
stop-rank (RunState.Closed result) stop = omega arith

pub stopped_step : (p : Plan) (b : Board) (cancel : Bool) (h : Member) (name : Option (List ℕ)) → MembersFit p b → standing b h ≡ Some (holding name)
    → Step p b h (holding name) (holding name) 0 (stopped b cancel h)
stopped_step p b false h name fits is = kept_step p b h (holding name) fits is
stopped_step p b true (Member.Run r) name fits is =
    let run = map-some run_standing (slice_get b.runs r) (holding name) is in
    run_step p b r (λ x. record x { stop = true }) run.0 run.1 (λ x. refl) (stopped b true (Member.Run r)) refl (holding name) (holding name) 0 fits
    (run-holds run.0.state run.0.group name run.2) (λ plan all. all) run.2 run.2 (stop-rank run.0.state run.0.stop)
stopped_step p b true (Member.Leg l) name fits is =
    let leg = map-some leg_standing (slice_get (board_legs b) l) (holding name) is in
    let how = leg-holds leg.0.state leg.0.group name leg.2 in
    let there = lives p b l leg.0 fits leg.1 how.under in
    let at = there.at in
    let f : Leg → Leg = λ x. record x { stop = true } in
    let stood : leg_standing at.leg ≡ holding name = ap leg_standing there.leg_is ∙ leg.2 in
    leg_step p b l at f there.live (stopped b true (Member.Leg l)) (numbered b l at.place f there.live.stands.place) (holding name) (holding name) 0 fits
    (ap (λ (x : Leg). is_ended x.state) there.leg_is ∙ how.running)
    (right-there at.run.state at.run.group at.job.state (f at.leg) there.live.going there.live.opened (ap (λ (x : Leg). is_waiting x.state) there.leg_is ∙ how.quiet))
    (as_much p b l at f there.live (stopped b true (Member.Leg l)) (numbered b l at.place f there.live.stands.place) (omega arith)) stood stood (omega arith)

-- ---- who is found

unfoldable pub FoundBy : (Standing → Bool) → Board → Option Member → Type 0
FoundBy t b None = count_members t b ≡ 0
FoundBy t b (Some m) = (s : Standing) × (standing b m ≡ Some s) × (t s ≡ true) × (1 ≤ count_members t b)

pub found-by : (t : Standing → Bool) (b : Board) → FoundBy t b (first_member t b)
unfolding FoundBy
found-by t b =
    by (first_place 0 (λ run. t (run_standing run)) b.runs) refl (first_place 0 (λ leg. t (leg_standing leg)) (board_legs b)) refl
  where
    by : (o : Option ℕ) → first_place 0 (λ run. t (run_standing run)) b.runs ≡ o → (q : Option ℕ) → first_place 0 (λ leg. t (leg_standing leg)) (board_legs b) ≡ q
        → FoundBy t b (run_or_leg o q)
    by (Some r) is q is' =
        let x = first-some (λ run. t (run_standing run)) b.runs r is in
        let c = counted (λ run. t (run_standing run)) b.runs r x.0 x.1 x.2 in
        (run_standing x.0, ap (option_map run_standing) x.1, x.2, omega (arith, c))
    by None is (Some l) is' =
        let x = first-some (λ leg. t (leg_standing leg)) (board_legs b) l is' in
        let c = counted (λ leg. t (leg_standing leg)) (board_legs b) l x.0 x.1 x.2 in
        (leg_standing x.0, ap (option_map leg_standing) x.1, x.2, omega (arith, c))
    by None is None is' =
        let c = first-none (λ run. t (run_standing run)) b.runs is in
        let d = first-none (λ leg. t (leg_standing leg)) (board_legs b) is' in
        omega (arith, c, d)

pub named : (n : List ℕ) (name : Option (List ℕ)) → is_named n name ≡ true → name ≡ Some n
named n None h = absurd (true≢false (sym h))
named n (Some m) h = let e : n ≡ m = (bytes_eq-Decides n m).0 h in ap (λ x. Some x) (sym e)

holds-is : (n : List ℕ) (s : Standing) → holds_name n s ≡ true → s ≡ holding (Some n)
holds-is n (holding name) h = ap holding (named n name h)
holds-is n s h = absurd (true≢false (sym h))

waits-is : (n : List ℕ) (s : Standing) → waits_name n s ≡ true → s ≡ waiting (Some n)
waits-is n (waiting name) h = ap waiting (named n name h)
waits-is n s h = absurd (true≢false (sym h))

pub no_holder : (b : Board) (n : List ℕ) → holder b n ≡ None → holders b n ≡ 0
unfolding FoundBy
no_holder b n h = subst (FoundBy (holds_name n) b) h (found-by (holds_name n) b)

pub no_waiter : (b : Board) (n : List ℕ) → waiter b n ≡ None → waiters b n ≡ 0
unfolding FoundBy
no_waiter b n h = subst (FoundBy (waits_name n) b) h (found-by (waits_name n) b)

pub a_holder : (b : Board) (n : List ℕ) (m : Member) → holder b n ≡ Some m → (standing b m ≡ Some (holding (Some n))) × (1 ≤ holders b n)
unfolding FoundBy
a_holder b n m h = let x = subst (FoundBy (holds_name n) b) h (found-by (holds_name n) b) in (x.1 ∙ ap (λ s. Some s) (holds-is n x.0 x.2), x.3)

pub a_waiter : (b : Board) (n : List ℕ) (m : Member) → waiter b n ≡ Some m → (standing b m ≡ Some (waiting (Some n))) × (1 ≤ waiters b n)
unfolding FoundBy
a_waiter b n m h = let x = subst (FoundBy (waits_name n) b) h (found-by (waits_name n) b) in (x.1 ∙ ap (λ s. Some s) (waits-is n x.0 x.2), x.3)
