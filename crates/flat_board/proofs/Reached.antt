-- What is known of a run or a leg that is found.
use Rattle.std.proofs.Common.{◌≡◌, ℕ, Bool, true, false, not, Some, Ok, Err, if◌then◌else◌, ap, subst, sym, refl, ◌∙◌}
use Rattle.flat_board.specs.Words.{Board, Content, Event, EventFault, IsGroup, JobAt, JobState, KeptAsShown, Known, LegAt, Member, NamesKnown, Plan, RunAt, RunState, SeenNamed, accepts, ask_found, first_of, is_accepted, is_fresh, is_full, is_in_group, is_new, is_stopping, job_at, job_condition, job_status, judge_found, judge_job, judged_state, judgement, judgement_by, leg_at, leg_enters, leg_entrance, may_ask, needs_have_ended, open_found, open_run, run_at, run_entrance}
use Rattle.flat_board.proofs.GroupLaws.{group_laws}
use Rattle.flat_board.proofs.Known.{seen_group}
use Rattle.flat_board.proofs.Names.{seen_leg, seen_run}
use Rattle.status_table.proofs.Accepting.{run_enters_accepted, leg_enters_accepted}
use Rattle.status_table.proofs.Grouped.{enters_from_outside}

-- the name of the group of a leg that is found
pub leg_found_named : (p : Plan) (b : Board) (known : Known) (n : ℕ) (at : LegAt) → NamesKnown known b → leg_at p b n ≡ Some at → IsGroup at.leg.group
leg_found_named p b known n at names is = seen_group known (is_fresh at.leg.state) at.leg.group (subst (SeenNamed known) (seen_leg p b n at is) (names (Member.Leg n)))

-- and that of a run
pub run_found_named : (p : Plan) (b : Board) (known : Known) (n : ℕ) (at : RunAt) → NamesKnown known b → run_at p b n ≡ Some at → IsGroup at.run.group
run_found_named p b known n at names is = seen_group known (is_new at.run.state) at.run.group (subst (SeenNamed known) (seen_run p b n at is) (names (Member.Run n)))

-- a run that may be opened is in no group
pub opens_outside : (p : Plan) (b : Board) (groups : Content) (r : ℕ) (at : RunAt) → KeptAsShown groups b → run_at p b r ≡ Some at
    → at.run.state ≡ RunState.New → at.run.stop ≡ false → is_in_group (Member.Run r) groups ≡ false
opens_outside p b groups r at kept is state stop =
    (enters_from_outside group_laws p b groups kept).opener 0 r (ap (λ o. is_accepted (open_found b r o)) is ∙ (λ i. is_accepted (open_run b r at (state i) (stop i))) ∙ run_enters_accepted b r (run_entrance at))

-- and neither is a leg that may ask
pub asks_outside : (p : Plan) (b : Board) (groups : Content) (l : ℕ) (at : LegAt) → KeptAsShown groups b → leg_at p b l ≡ Some at
    → may_ask at ≡ true → is_full at.job_plan at.job ≡ false → is_stopping at ≡ false → is_in_group (Member.Leg l) groups ≡ false
asks_outside p b groups l at kept is may full stop =
    (enters_from_outside group_laws p b groups kept).asker 0 l (ap (λ o. is_accepted (ask_found b l o)) is
    ∙ (λ i. is_accepted (if not (may i) then Err EventFault.WrongState else (if full i then Err EventFault.SlotsFull else (if stop i then Err EventFault.Stopping else leg_enters b l at (leg_entrance at)))))
    ∙ leg_enters_accepted b l at (leg_entrance at))

-- what a job comes to that is judged, by whether its needs have ended
pub judged_by : (n : ℕ) (at : JobAt) (ended : Bool) → at.run.state ≡ RunState.Going → at.job.state ≡ JobState.Unjudged
    → needs_have_ended (first_of n at) at.run at.plan ≡ ended
    → judgement n at ≡ (if ended then Ok (judged_state at.run.stop (job_condition at (job_status (first_of n at) at))) else Err EventFault.NeedsOpen)
judged_by n at ended going unjudged is =
    (λ i. judgement_by n at (going i) (unjudged i))
    ∙ ap (λ c. if c then Ok (judged_state at.run.stop (job_condition at (job_status (first_of n at) at))) else Err EventFault.NeedsOpen) is

-- whether a job may be judged
pub judge_accepted : (p : Plan) (b : Board) (n : ℕ) (at : JobAt) (ended : Bool) → job_at p b n ≡ Some at → at.run.state ≡ RunState.Going
    → at.job.state ≡ JobState.Unjudged → needs_have_ended (first_of n at) at.run at.plan ≡ ended → ended ≡ accepts p b (Event.Judge n)
judge_accepted p b n at ended is going unjudged needs =
    either ended
    ∙ sym (ap (λ o. is_accepted (judge_found b n o)) is ∙ ap (λ r. is_accepted (judge_job b at.place r)) (judged_by n at ended going unjudged needs))
  where
    either : (c : Bool)
        → c ≡ is_accepted (judge_job b at.place (if c then Ok (judged_state at.run.stop (job_condition at (job_status (first_of n at) at))) else Err EventFault.NeedsOpen))
    either true = refl
    either false = refl
