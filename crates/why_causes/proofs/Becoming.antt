-- What an accepted entry makes so was not so before it, and is so after it.
use Rattle.std.proofs.Common.{◌≡◌, ◌||◌, ◌&&◌, ◌==◌, ℕ, pos, negsuc, zero, suc, ◌-◌, Bool, true, false, not, List, [], ◌∷◌, ◌++◌, Option, Some, None, Result, Ok, Err, length, nat_lt, slice_get, if◌then◌else◌, ap, subst, sym, refl, ◌∙◌}
use Rattle.std.proofs.lemmas.Bool.{true≢false}
use Rattle.std.specs.List.{list_any}
use Rattle.std.specs.Option.{option_map}
use Rattle.status_table.specs.Words.{Answer, Board, DoneStep, Event, Job, JobAt, JobPlace, JobState, Leg, LegAt, LegState, Member, Outcome, Plan, Reply, Row, Run, RunAt, RunState, StepCall, StepPlan, ValueFault, beginning_by, board_jobs, board_legs, changed, closed, decided, event_row, is_closed, is_failure, is_stopping, is_well_formed, job_at, job_place_from, job_status, job_there, job_tolerates, jobs_have_ended, leg_at, leg_outputs, leg_result, leg_standing, leg_status, moved, next_after, next_step, run_at, run_result, run_standing, step_decision, stopped, with_job, with_leg, with_numbered_leg, ◌>>=◌}
use Rattle.why_facts.specs.Notes.{noted}
use Rattle.why_facts.specs.declared.fact.Change.{Change}
use Rattle.why_facts.specs.declared.fact.JobFact.{JobFact}
use Rattle.why_facts.specs.declared.fact.MemberFact.{MemberFact}
use Rattle.why_facts.specs.declared.fact.StepFact.{StepFact}
use Rattle.why_facts.specs.declared.fact.Teller.{Teller}
use Rattle.why_notes.proofs.Lawful.{jobs_are_judged_as_told}
use Rattle.why_notes.specs.Changes as causes
use Rattle.why_notes.specs.Changes.{changes}
use Rattle.why_notes.specs.Conditions.{waits_in_vain, faulted_text}
use Rattle.why_notes.specs.Laws.{judged_to}
use Rattle.why_causes.specs.Agrees.{FailureIs, LegStill, ResultIs, steps_result}
use Rattle.why_causes.specs.Becomes.{Becomes, ChangesBecomeSo}
use Rattle.why_causes.specs.Stands.{IsCalled, LegIs, MemberStands, outcome_told}
use Rattle.status_table.specs.declared.fault.EventFault.{EventFault}
use Rattle.status_table.specs.Groups as groups
use Rattle.status_table.specs.Row as table
use Rattle.why_causes.proofs.Agreeing.{called_agrees, closed_agrees, ends_agree, judged_agrees, member_agrees, step_agrees, told_agrees}
use Rattle.why_causes.proofs.Members.{Exists, Quiet, any_leg, any_run, closed_quiet, closed_there, job_quiet, kept, leg_clash, leg_in, quiet_change, quiet_runs, run_clash, run_in, same_runs, stopped_others, stopped_there, untold_run}
use Rattle.status_table.proofs.Found.{JobStands as JobIsThere, LegStands, job_stands, leg_item, leg_stands, run_stands}
use Rattle.status_table.proofs.Lists.{changed-cons, changed-there, length-changed}
use Rattle.board_decisions.proofs.Lists.{no_some, same_some}
use Rattle.status_table.proofs.Numbers.{board_legs-changed, jobs_are_numbered}
use Rattle.status_table.proofs.Turnover.{numbered}
use Rattle.why_causes.proofs.Going.{Goes, Noting, board_of, led, only, quietly}
use Rattle.why_causes.proofs.Grouping.{asked, closed_exists, dropped_so, left_so, opened}

-- ---- Take

-- the leg at its place, changed
leg_put : (p : Plan) (b : Board) (l : ℕ) (at : LegAt) (g : Leg → Leg) → LegStands p b l at → slice_get (board_legs (with_leg b at.place g)) l ≡ Some (g at.leg)
leg_put p b l at g stands =
    ap (λ (all : List Leg). slice_get all l) (board_legs-changed b l at.place g stands.place) ∙ changed-there (board_legs b) l g at.leg (leg_item p b l at stands)

-- nobody is told where a leg that keeps its flag is changed at its place
put_quiet : (p : Plan) (b : Board) (l : ℕ) (at : LegAt) (g : Leg → Leg) → LegStands p b l at → ((leg : Leg) → (g leg).stop ≡ leg.stop) → Quiet b (with_leg b at.place g)
put_quiet p b l at g stands flag =
    quiet_runs b (with_numbered_leg b l g) (with_leg b at.place g) (sym (numbered b l at.place g stands.place))
    (quiet_change b (Member.Leg l) (λ run. run) g (λ run. refl) (λ run. refl) flag)

abbrev take_if : Board → ℕ → LegAt → Bool → Row
take_if b worker at stopping = if stopping then Err EventFault.Stopping else Ok (table.leg_state_set b at.place (LegState.Running worker false), moved)

taken : (p : Plan) (b new : Board) (worker l : ℕ) (found : Option LegAt) (reply : Reply) → leg_at p b l ≡ found → table.take_found b worker found ≡ Ok (new, reply)
    → Goes b new (Change.Member (Member.Leg l) MemberFact.Taken ∷ [])
unfolding board_of
taken p b new worker l None reply is h = cc
taken p b new worker l (Some at) reply is h = by_state at.leg.state refl h
  where
    stands : LegStands p b l at
    stands = leg_stands p b l at is

    running : Leg → Leg
    running leg = record leg { state = LegState.Running worker false }

    guarded : (stopping : Bool) → at.leg.state ≡ LegState.Admitted
        → take_if b worker at stopping ≡ Ok (new, reply)
        → Goes b new (Change.Member (Member.Leg l) MemberFact.Taken ∷ [])
    guarded true was k = cc
    guarded false was k =
        led b _ _ new reply k
        (quietly b (with_leg b at.place (λ leg. record leg { state = LegState.Running worker false })) (Change.Member (Member.Leg l) MemberFact.Taken ∷ [])
        (only (Becomes b (with_leg b at.place (λ leg. record leg { state = LegState.Running worker false }))) (Change.Member (Member.Leg l) MemberFact.Taken) (
          leg_clash (leg_in LegState.Admitted) (λ s told. LegIs MemberFact.Taken s) b l (λ s told x y. no s x y) (at.leg, leg_item p b l at stands, was),
          (record at.leg { state = LegState.Running worker false }, leg_put p b l at (λ leg. record leg { state = LegState.Running worker false }) stands, (worker, refl)),
        ))
        (put_quiet p b l at (λ leg. record leg { state = LegState.Running worker false }) stands (λ leg. refl))
        (λ line notes a.
        member_agrees p b notes l at (λ leg. record leg { state = LegState.Running worker false }) MemberFact.Taken line stands (λ leg. (worker, (false, refl))) (λ leg. refl) (λ leg. refl) tt a))
      where
        no : (s : LegState) → s ≡ LegState.Admitted → LegIs MemberFact.Taken s → ⊥
        no s x y = differs y.0 (sym x ∙ y.1)
          where
            differs : (w : ℕ) → LegState.Admitted ≡ LegState.Running w false → ⊥
            differs w e = cc

    by_state : (state : LegState) → at.leg.state ≡ state → table.take_leg b worker at state ≡ Ok (new, reply) → Goes b new (Change.Member (Member.Leg l) MemberFact.Taken ∷ [])
    by_state LegState.Fresh was k = cc
    by_state LegState.Waiting was k = cc
    by_state LegState.Admitted was k = guarded (is_stopping at) was k
    by_state (LegState.Running w in_call) was k = cc
    by_state (LegState.Ended result tolerated) was k = cc

-- ---- Begin and End

idle_is : (s : LegState) (owner : ℕ) → table.idle_owner s ≡ Some owner → s ≡ LegState.Running owner false
idle_is LegState.Fresh owner h = absurd (no_some owner h)
idle_is LegState.Waiting owner h = absurd (no_some owner h)
idle_is LegState.Admitted owner h = absurd (no_some owner h)
idle_is (LegState.Running w true) owner h = absurd (no_some owner h)
idle_is (LegState.Running w false) owner h = ap (λ n. LegState.Running n false) (same_some w owner h)
idle_is (LegState.Ended result tolerated) owner h = absurd (no_some owner h)

calling_is : (s : LegState) (owner : ℕ) → table.calling_owner s ≡ Some owner → s ≡ LegState.Running owner true
calling_is LegState.Fresh owner h = absurd (no_some owner h)
calling_is LegState.Waiting owner h = absurd (no_some owner h)
calling_is LegState.Admitted owner h = absurd (no_some owner h)
calling_is (LegState.Running w true) owner h = ap (λ n. LegState.Running n true) (same_some w owner h)
calling_is (LegState.Running w false) owner h = absurd (no_some owner h)
calling_is (LegState.Ended result tolerated) owner h = absurd (no_some owner h)

-- a leg has one step more that is done
step_becomes : (p : Plan) (b : Board) (worker l : ℕ) (at : LegAt) (done : DoneStep) (fact : StepFact) → LegStands p b l at → done.outcome ≡ outcome_told fact
    → Becomes b (table.step_done b at.place worker done) (Change.Step l fact)
step_becomes p b worker l at done fact stands is = record {
  was = at.leg;
  is = record at.leg { state = LegState.Running worker false; steps = at.leg.steps ++ done ∷ [] };
  done = done;
  before = leg_item p b l at stands;
  after = leg_put p b l at (λ leg. record leg { state = LegState.Running worker false; steps = leg.steps ++ done ∷ [] }) stands;
  more = refl;
  outcome = is;
}

step_so : (p : Plan) (b : Board) (owner worker l : ℕ) (in_call : Bool) (at : LegAt) (done : DoneStep) (fact : StepFact) → LegStands p b l at
    → at.leg.state ≡ LegState.Running owner in_call → done.outcome ≡ outcome_told fact → FailureIs at.leg.steps fact
    → Goes b (table.step_done b at.place worker done) (Change.Step l fact ∷ [])
step_so p b owner worker l in_call at done fact stands busy is failure =
    quietly b (table.step_done b at.place worker done) (Change.Step l fact ∷ [])
    (only (Becomes b (table.step_done b at.place worker done)) (Change.Step l fact) (step_becomes p b worker l at done fact stands is))
    (put_quiet p b l at (λ leg. record leg { state = LegState.Running worker false; steps = leg.steps ++ done ∷ [] }) stands (λ leg. refl))
    (λ line notes a. step_agrees p b notes l at owner worker in_call done fact line stands (leg_item p b l at stands) busy is failure a)

-- a step that is skipped is told to be
skipped_told : (l : ℕ) (at : LegAt) (step : StepPlan) → Outcome.Skipped ≡ outcome_told (causes.skipped l at step)
skipped_told l at step = by (waits_in_vain step.condition (leg_status at))
  where
    after : (first : Option ℕ) → Outcome.Skipped ≡ outcome_told (causes.after_failure first)
    after None = refl
    after (Some k) = refl

    vain : (stopping : Bool) → Outcome.Skipped ≡ outcome_told (causes.skipped_in_vain stopping l at)
    vain true = refl
    vain false = after (groups.first_place 0 (λ (step : DoneStep). is_failure step.conclusion) at.leg.steps)

    by : (c : Bool) → Outcome.Skipped ≡ outcome_told (causes.skipped_by c l at)
    by true = vain (is_stopping at)
    by false = refl

-- and the failure after which it is
skipped_after : (l : ℕ) (at : LegAt) (step : StepPlan) → FailureIs at.leg.steps (causes.skipped l at step)
skipped_after l at step = by (waits_in_vain step.condition (leg_status at))
  where
    after : (first : Option ℕ) → groups.first_place 0 (λ (step : DoneStep). is_failure step.conclusion) at.leg.steps ≡ first
        → FailureIs at.leg.steps (causes.after_failure first)
    after None is = tt
    after (Some k) is = is

    vain : (stopping : Bool) → FailureIs at.leg.steps (causes.skipped_in_vain stopping l at)
    vain true = tt
    vain false = after (groups.first_place 0 (λ (step : DoneStep). is_failure step.conclusion) at.leg.steps) refl

    by : (c : Bool) → FailureIs at.leg.steps (causes.skipped_by c l at)
    by true = vain (is_stopping at)
    by false = tt

begun : (p : Plan) (b new : Board) (worker l : ℕ) (found : Option LegAt) (reply : Reply) → leg_at p b l ≡ found → table.begin_found b worker l found ≡ Ok (new, reply)
    → Goes b new (causes.begins l found)
unfolding board_of
begun p b new worker l None reply is h = cc
begun p b new worker l (Some at) reply is h = by_owner (table.idle_owner at.leg.state) refl (next_step at) h
  where
    stands : LegStands p b l at
    stands = leg_stands p b l at is

    called : (owner : ℕ) → at.leg.state ≡ LegState.Running owner false → IsCalled b l → ⊥
    called owner idle x = differs x.2.0 (sym idle ∙ ap (λ (leg : Leg). leg.state) (same_some at.leg x.0 (sym (leg_item p b l at stands) ∙ x.1)) ∙ x.2.1)
      where
        differs : (w : ℕ) → LegState.Running owner false ≡ LegState.Running w true → ⊥
        differs w e = cc

    by_decision : (owner : ℕ) → at.leg.state ≡ LegState.Running owner false → (step : StepPlan) (d : Result (Option StepCall) ValueFault)
        → table.begin_leg b worker at (Ok (decided d)) ≡ Ok (new, reply) → Goes b new (causes.begun l at step d ∷ [])
    by_decision owner idle step (Ok (Some call)) k =
        led b _ _ new reply k
        (quietly b (with_leg b at.place (λ leg. record leg { state = LegState.Running worker true })) (Change.Called l ∷ [])
        (only (Becomes b (with_leg b at.place (λ leg. record leg { state = LegState.Running worker true }))) (Change.Called l) (
          called owner idle,
          (record at.leg { state = LegState.Running worker true }, leg_put p b l at (λ leg. record leg { state = LegState.Running worker true }) stands, (worker, refl)),
        ))
        (put_quiet p b l at (λ leg. record leg { state = LegState.Running worker true }) stands (λ leg. refl))
        (λ line notes a. called_agrees p b notes l at owner worker line stands (leg_item p b l at stands) idle a))
    by_decision owner idle step (Ok None) k =
        led b _ _ new reply k
        (step_so p b owner worker l false at table.skipped_step (causes.skipped l at step) stands idle (skipped_told l at step) (skipped_after l at step))
    by_decision owner idle step (Err f) k =
        led b _ _ new reply k
        (step_so p b owner worker l false at (table.failed_step at) (StepFact.Faulted (faulted_text at step) f) stands idle refl tt)

    by_worker : (mine : Bool) (owner : ℕ) → at.leg.state ≡ LegState.Running owner false → (step : StepPlan)
        → table.begin_leg b worker at (if mine then Ok (decided (step_decision l at step)) else Err EventFault.OtherWorker) ≡ Ok (new, reply)
        → Goes b new (causes.begins_step l at (Some step))
    by_worker true owner idle step k = by_decision owner idle step (step_decision l at step) k
    by_worker false owner idle step k = cc

    by_owner : (owner : Option ℕ) → table.idle_owner at.leg.state ≡ owner → (step : Option StepPlan)
        → table.begin_leg b worker at (beginning_by worker l at owner step) ≡ Ok (new, reply) → Goes b new (causes.begins_step l at step)
    by_owner None idle step k = cc
    by_owner (Some owner) idle None k = cc
    by_owner (Some owner) idle (Some step) k = by_worker (worker == owner) owner (idle_is at.leg.state owner idle) step k

answer_told : (a : Answer) → table.outcome_of a ≡ outcome_told (causes.answered a)
answer_told (Answer.Exit (pos zero) outputs env) = refl
answer_told (Answer.Exit (pos (suc n)) outputs env) = refl
answer_told (Answer.Exit (negsuc n) outputs env) = refl
answer_told Answer.NotStarted = refl
answer_told Answer.BadOutput = refl

answer_after : (steps : List DoneStep) (a : Answer) → FailureIs steps (causes.answered a)
answer_after steps (Answer.Exit code outputs env) = tt
answer_after steps Answer.NotStarted = tt
answer_after steps Answer.BadOutput = tt

ended : (p : Plan) (b new : Board) (worker l : ℕ) (a : Answer) (found : Option LegAt) (reply : Reply) → leg_at p b l ≡ found → table.end_found b worker a found ≡ Ok (new, reply)
    → Goes b new (Change.Step l (causes.answered a) ∷ [])
unfolding board_of
ended p b new worker l a None reply is h = cc
ended p b new worker l a (Some at) reply is h = by_owner (table.calling_owner at.leg.state) refl h
  where
    tested : (owner : ℕ) (mine good : Bool) → at.leg.state ≡ LegState.Running owner true
        → table.end_leg b worker at (if not mine then Err EventFault.OtherWorker else (if not good then Err EventFault.BadAnswer else Ok (table.answered_step at a))) ≡ Ok (new, reply)
        → Goes b new (Change.Step l (causes.answered a) ∷ [])
    tested owner false good busy k = cc
    tested owner true false busy k = cc
    tested owner true true busy k =
        led b _ _ new reply k
        (step_so p b owner worker l true at (table.answered_step at a) (causes.answered a) (leg_stands p b l at is) busy (answer_told a) (answer_after at.leg.steps a))

    by_owner : (owner : Option ℕ) → table.calling_owner at.leg.state ≡ owner → table.end_leg b worker at (table.ending_by worker at a owner) ≡ Ok (new, reply) → Goes b new (Change.Step l (causes.answered a) ∷ [])
    by_owner None calling k = cc
    by_owner (Some owner) calling k = tested owner (worker == owner) (is_well_formed a) (calling_is at.leg.state owner calling) k

-- ---- Finish

finished : (p : Plan) (b new : Board) (worker l : ℕ) (found : Option LegAt) (reply : Reply) → leg_at p b l ≡ found → table.finish_found b worker l found ≡ Ok (new, reply)
    → Goes b new (causes.finishes b l found)
unfolding board_of
finished p b new worker l None reply is h = cc
finished p b new worker l (Some at) reply is h = by_owner (table.idle_owner at.leg.state) refl h
  where
    stands : LegStands p b l at
    stands = leg_stands p b l at is

    item : slice_get (board_legs b) l ≡ Some at.leg
    item = leg_item p b l at stands

    state : LegState
    state = table.ended_state at (leg_result at)

    put : Leg → Leg
    put leg = record leg { state = table.ended_state at (leg_result at); outputs = leg_outputs at }

    after : Board
    after = table.leg_ended b at.place l (table.ended_state at (leg_result at)) (leg_outputs at)

    same : after.runs ≡ (with_numbered_leg b l put).runs
    same = sym (numbered b l at.place put stands.place)

    stay : (w : Member) → Exists b w → Exists after w
    stay w x = same_runs any_run any_leg (with_numbered_leg b l put) after w same (kept any_run any_leg b (Member.Leg l) w (λ run. run) put (λ run. refl) (λ run _. tt) (λ leg _. tt) x)

    calm : Quiet b after
    calm = quiet_runs b (with_numbered_leg b l put) after same (quiet_change b (Member.Leg l) (λ run. run) put (λ run. refl) (λ run. refl) (λ leg. refl))

    -- how it has ended is what is told
    told : (stopping : Bool) → is_stopping at ≡ stopping → LegIs (causes.finished stopping l at) (table.ended_state at (leg_result at))
    told true stops = ap (λ (c : Bool). table.ended_state at (if c then Outcome.Cancelled else (if list_any (λ (step : DoneStep). is_failure step.conclusion) at.leg.steps then Outcome.Failure else Outcome.Success))) stops
    told false stops = (is_failure (leg_result at) && job_tolerates at, refl)

    still : (stopping : Bool) → is_stopping at ≡ stopping → LegStill (causes.finished stopping l at) (table.ended_state at (leg_result at))
    still true stops = told true stops
    still false stops = told false stops

    -- and so is its result, where it is not to stop
    result : (stopping : Bool) → is_stopping at ≡ stopping → ResultIs (causes.finished stopping l at) at.leg.steps
    result true stops = tt
    result false stops = ap (λ (c : Bool). if c then Outcome.Cancelled else steps_result at.leg.steps) stops

    note : Noting b after (Change.Member (Member.Leg l) (causes.finished (is_stopping at) l at) ∷ [])
    note line notes a =
        ends_agree (with_leg b at.place put) (noted line notes (Change.Member (Member.Leg l) (causes.finished (is_stopping at) l at))) (b.ends ++ l ∷ [])
        (member_agrees p b notes l at put (causes.finished (is_stopping at) l at) line stands (λ leg. still (is_stopping at) refl) (λ leg. refl) (λ leg. refl) (result (is_stopping at) refl) a)

    not_ended : (owner : ℕ) (stopping : Bool) → at.leg.state ≡ LegState.Running owner false → MemberStands b (Member.Leg l) (causes.finished stopping l at) → ⊥
    not_ended owner true idle = leg_clash (leg_in (LegState.Running owner false)) (leg_in (LegState.Ended Outcome.Cancelled false)) b l (λ s told x y. cc) (at.leg, item, idle)
    not_ended owner false idle =
        leg_clash (leg_in (LegState.Running owner false)) (λ s told. LegIs (MemberFact.Finished (leg_result at)) s) b l (λ s told x y. differs y.0 (sym x ∙ y.1)) (at.leg, item, idle)
      where
        differs : (t : Bool) → LegState.Running owner false ≡ LegState.Ended (leg_result at) t → ⊥
        differs t e = cc

    now : (stopping : Bool) → is_stopping at ≡ stopping → MemberStands after (Member.Leg l) (causes.finished stopping l at)
    now stopping stops = (put at.leg, leg_put p b l at put stands, told stopping stops)

    tested : (owner : ℕ) (mine left : Bool) → at.leg.state ≡ LegState.Running owner false
        → table.finish_leg b l at (if not mine then Err EventFault.OtherWorker else (if left then Err EventFault.StepsLeft else Ok (table.ended_state at (leg_result at)))) ≡ Ok (new, reply)
        → Goes b new (causes.finishes b l (Some at))
    tested owner false left idle k = cc
    tested owner true true idle k = cc
    tested owner true false idle k =
        led b _ _ new reply k
        (left_so b after (Member.Leg l) (leg_standing at.leg) (causes.finished (is_stopping at) l at) (ap (option_map leg_standing) item)
        (not_ended owner (is_stopping at) idle) (now (is_stopping at) refl) stay calm note)

    by_owner : (owner : Option ℕ) → table.idle_owner at.leg.state ≡ owner → table.finish_leg b l at (table.finishing_by worker at owner) ≡ Ok (new, reply)
        → Goes b new (causes.finishes b l (Some at))
    by_owner None idle k = cc
    by_owner (Some owner) idle k = tested owner (worker == owner) (nat_lt (length at.leg.steps) (length at.job_plan.steps)) (idle_is at.leg.state owner idle) k

-- ---- Close and Cancel

closed_so : (p : Plan) (b new : Board) (r : ℕ) (found : Option RunAt) (reply : Reply) → run_at p b r ≡ found → table.close_found b r found ≡ Ok (new, reply)
    → Goes b new (causes.closes b r found)
unfolding board_of
closed_so p b new r None reply is h = cc
closed_so p b new r (Some at) reply is h = by_state at.run.state refl h
  where
    item : slice_get b.runs r ≡ Some at.run
    item = (run_stands p b r at is).run

    -- what is told of it
    told : RunState → List Change
    told state = Change.Member (Member.Run r) (MemberFact.Closed (causes.closing state at.run)) ∷ causes.passes (Member.Run r) (next_after b (run_standing at.run))

    closes : (result : Outcome) → ((x : Outcome) → at.run.state ≡ RunState.Closed x → ⊥) → table.run_closes b r at.run result ≡ Ok (new, reply)
        → Goes b new (Change.Member (Member.Run r) (MemberFact.Closed result) ∷ causes.passes (Member.Run r) (next_after b (run_standing at.run)))
    closes result unclosed k =
        led b _ _ new reply k
        (left_so b (closed b r result) (Member.Run r) (run_standing at.run) (MemberFact.Closed result) (ap (option_map run_standing) item)
        (run_clash (run_in at.run.state) (run_in (RunState.Closed result)) b r (λ s told x y. unclosed result (sym x ∙ y)) (at.run, item, refl))
        (closed_there any_leg any_leg b r result (at.run, item, tt))
        (λ w x. closed_exists b r result w x) (closed_quiet b r result) (λ line notes a. closed_agrees b notes r result (MemberFact.Closed result) line refl a))

    unstarted : (state : RunState) (stop : Bool) → ((x : Outcome) → at.run.state ≡ RunState.Closed x → ⊥) → causes.closing state at.run ≡ Outcome.Cancelled
        → table.close_waiting b r at.run stop ≡ Ok (new, reply) → Goes b new (told state)
    unstarted state true unclosed result k =
        subst (λ x. Goes b new (Change.Member (Member.Run r) (MemberFact.Closed x) ∷ causes.passes (Member.Run r) (next_after b (run_standing at.run)))) (sym result)
        (closes Outcome.Cancelled unclosed k)
    unstarted state false unclosed result k = cc

    going : (over : Bool) → at.run.state ≡ RunState.Going → (if over then table.run_closes b r at.run (run_result at.run) else Err EventFault.NeedsOpen) ≡ Ok (new, reply)
        → Goes b new (told RunState.Going)
    going true was k = closes (run_result at.run) (λ x e. no x (sym was ∙ e)) k
      where
        no : (x : Outcome) → RunState.Going ≡ RunState.Closed x → ⊥
        no x e = cc
    going false was k = cc

    by_state : (state : RunState) → at.run.state ≡ state → table.close_run b r at.run state ≡ Ok (new, reply) → Goes b new (told state)
    by_state RunState.New was k = unstarted RunState.New at.run.stop (λ x e. no x (sym was ∙ e)) refl k
      where
        no : (x : Outcome) → RunState.New ≡ RunState.Closed x → ⊥
        no x e = cc
    by_state RunState.Waiting was k = unstarted RunState.Waiting at.run.stop (λ x e. no x (sym was ∙ e)) refl k
      where
        no : (x : Outcome) → RunState.Waiting ≡ RunState.Closed x → ⊥
        no x e = cc
    by_state RunState.Going was k = going (jobs_have_ended at.run) was k
    by_state (RunState.Closed result) was k = cc

abbrev cancel_if : Board → ℕ → Bool → Row
cancel_if b r over = if over then Err EventFault.WrongState else Ok (stopped b true (Member.Run r), moved)

cancelled_so : (p : Plan) (b new : Board) (r : ℕ) (found : Option RunAt) (reply : Reply) → run_at p b r ≡ found → table.cancel_found b r found ≡ Ok (new, reply)
    → Goes b new (Change.Stop (Member.Run r) Teller.Cancel ∷ [])
unfolding board_of
cancelled_so p b new r None reply is h = cc
cancelled_so p b new r (Some at) reply is h = guarded (is_closed at.run.state) at.run.stop refl h
  where
    item : slice_get b.runs r ≡ Some at.run
    item = (run_stands p b r at is).run

    guarded : (over stop : Bool) → at.run.stop ≡ stop → cancel_if b r (over || stop) ≡ Ok (new, reply)
        → Goes b new (Change.Stop (Member.Run r) Teller.Cancel ∷ [])
    guarded true stop flag k = cc
    guarded false true flag k = cc
    guarded false false flag k =
        led b _ _ new reply k
        (record {
          so = only (Becomes b (stopped b true (Member.Run r))) (Change.Stop (Member.Run r) Teller.Cancel) (
            run_clash untold_run (λ s told. told ≡ true) b r (λ s told x y. true≢false (sym y ∙ x)) (at.run, item, flag),
            stopped_there b (Member.Run r) (at.run, item, tt),
          );
          tells = λ w x others. stopped_others b (Member.Run r) w (λ e. others 0 Teller.Cancel (ap (λ v. Some (Change.Stop v Teller.Cancel)) (sym e))) x;
          noting = λ line notes a. told_agrees b notes (Member.Run r) Teller.Cancel line a;
        })

-- ---- Judge

-- the jobs are at the places at which they were, where each run has as many
place_kept : (k : ℕ) (runs : List Run) (i n : ℕ) (g : Run → Run) → ((run : Run) → length (g run).jobs ≡ length run.jobs) → job_place_from k (changed runs i g) n ≡ job_place_from k runs n
place_kept k [] i n g many = refl
place_kept k (run ∷ runs) zero n g many =
    ap (λ m. if nat_lt n m then Some (record { run = k; job = n }) else job_place_from (suc k) runs (n - m)) (many run)
place_kept k (run ∷ runs) (suc i) n g many =
    ap (λ (rs : List Run). job_place_from k rs n) (changed-cons run runs i g)
    ∙ ap (λ (later : Option JobPlace). if nat_lt n (length run.jobs) then Some (record { run = k; job = n }) else later) (place_kept (suc k) runs i (n - length run.jobs) g many)

module _ (p : Plan) (b : Board) (j : ℕ) (at : JobAt) (is : job_at p b j ≡ Some at) where
  abbrev here : JobIsThere p b j at
  here = job_stands p b j at is

  pub job_item : slice_get (board_jobs b) j ≡ Some at.job
  job_item =
      sym ((jobs_are_numbered b).there j)
      ∙ ap (λ (o : Option JobPlace). o >>= job_there b) here.place
      ∙ ap (λ (o : Option Run). o >>= λ run. slice_get run.jobs at.place.job) here.in_board
      ∙ here.job

  -- the job is changed
  job_put : (f : Job → Job) → slice_get (board_jobs (with_job b at.place f)) j ≡ Some (f at.job)
  job_put f =
      sym ((jobs_are_numbered (with_job b at.place f)).there j)
      ∙ ap (λ (o : Option JobPlace). o >>= job_there (with_job b at.place f))
      (place_kept 0 b.runs at.place.run j (λ run. record run { jobs = changed run.jobs at.place.job f }) (λ run. length-changed run.jobs at.place.job f) ∙ here.place)
      ∙ ap (λ (o : Option Run). o >>= λ run. slice_get run.jobs at.place.job)
      (changed-there b.runs at.place.run (λ run. record run { jobs = changed run.jobs at.place.job f }) at.run here.in_board)
      ∙ changed-there at.run.jobs at.place.job f at.job here.job

judged_differs : (fact : JobFact) → judged_to fact ≡ JobState.Unjudged → ⊥
judged_differs JobFact.Opened h = cc
judged_differs JobFact.RunStopped h = cc
judged_differs JobFact.Unsuccessful h = cc
judged_differs JobFact.Untrue h = cc
judged_differs (JobFact.Faulted f) h = cc

judged : (p : Plan) (b new : Board) (j : ℕ) (found : Option JobAt) (reply : Reply) → job_at p b j ≡ found → table.judge_found b j found ≡ Ok (new, reply)
    → Goes b new (causes.judges j found)
unfolding board_of
judged p b new j None reply is h = cc
judged p b new j (Some at) reply is h = by_judgement (table.judgement j at) refl h
  where
    fact : JobFact
    fact = causes.judged_under at (job_status (table.first_of j at) at)

    by_judgement : (state : Result JobState EventFault) → table.judgement j at ≡ state → table.judge_job b at.place state ≡ Ok (new, reply) → Goes b new (causes.judges j (Some at))
    by_judgement (Ok state) judged-is k =
        let both = jobs_are_judged_as_told j at state judged-is in
        led b _ _ new reply k
        (quietly b (with_job b at.place (λ job. record job { state = state })) (Change.Job j fact ∷ [])
        (only (Becomes b (with_job b at.place (λ job. record job { state = state }))) (Change.Job j fact) (
          λ x. judged_differs fact (sym x.2 ∙ ap (λ (job : Job). job.state) (same_some x.0 at.job (sym x.1 ∙ job_item p b j at is)) ∙ both.0),
          (record at.job { state = state }, job_put p b j at is (λ job. record job { state = state }), both.1),
        ))
        (job_quiet b at.place (λ job. record job { state = state }) (λ job. refl)) (λ line notes a. judged_agrees p b notes j at state fact line is both.1 a))
    by_judgement (Err f) judged-is k = cc

-- ---- the table

-- what an accepted event makes so, and that nobody else is told to stop
pub goes : (p : Plan) (b new : Board) (worker : ℕ) (e : Event) (reply : Reply) → event_row p b worker e ≡ Ok (new, reply) → Goes b new (changes p b e)
goes p b new worker (Event.Open r) reply h = opened p b new r (run_at p b r) reply refl h
goes p b new worker (Event.Judge j) reply h = judged p b new j (job_at p b j) reply refl h
goes p b new worker (Event.Ask l) reply h = asked p b new l (leg_at p b l) reply refl h
goes p b new worker (Event.Drop l) reply h = dropped_so p b new l (leg_at p b l) reply refl h
goes p b new worker (Event.Take l) reply h = taken p b new worker l (leg_at p b l) reply refl h
goes p b new worker (Event.Begin l) reply h = begun p b new worker l (leg_at p b l) reply refl h
goes p b new worker (Event.End l a) reply h = ended p b new worker l a (leg_at p b l) reply refl h
goes p b new worker (Event.Finish l) reply h = finished p b new worker l (leg_at p b l) reply refl h
goes p b new worker (Event.Close r) reply h = closed_so p b new r (run_at p b r) reply refl h
goes p b new worker (Event.Cancel r) reply h = cancelled_so p b new r (run_at p b r) reply refl h

pub changes_become_so : ChangesBecomeSo
changes_become_so p b new worker e reply h = (goes p b new worker e reply h).so
