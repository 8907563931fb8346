-- What an accepted entry makes so names whom the reply of its row names.
use Rattle.std.proofs.Common.{◌≡◌, ◌||◌, ◌∙◌, ℕ, Bool, true, false, not, List, [], ◌∷◌, ◌++◌, Option, Some, None, Result, Ok, Err, refl, sym, ap, subst, if◌then◌else◌}
use Rattle.status_table.specs.Words.{Answer, Beginning, Board, DoneStep, Entrance, Event, JobAt, JobState, LegAt, LegState, Member, Outcome, Reply, Row, RunAt, RunState, StepCall, StepPlan, ValueFault, beginning, calls, faults, finishing, holder, is_closed, is_full, is_own, is_stopping, job_at, jobs_have_ended, judgement, leg_at, leg_entrance, leg_standing, may_ask, may_drop, moved, next_after, next_step, run_at, run_entrance, run_result, run_standing, skips, step_decision, stop_told, told, waiter}
use Rattle.why_facts.specs.Queues as queueing
use Rattle.why_facts.specs.Stops.{cause_of_stop}
use Rattle.why_facts.specs.declared.fact.Change.{Change}
use Rattle.why_facts.specs.declared.fact.MemberFact.{MemberFact}
use Rattle.why_facts.specs.declared.fact.Teller.{Teller}
use Rattle.why_notes.specs.Changes as causes
use Rattle.why_notes.specs.Laws.{ChangesNameWhomTheRowNames, NameTheSame, admits, loses, or_else, when}
use Rattle.status_table.specs.Groups as groups
use Rattle.status_table.specs.Row as table
use Rattle.status_table.specs.declared.fault.EventFault.{EventFault}

-- the reply of a row, if it is accepted
reply_of : Row → Reply
reply_of (Ok x) = x.1
reply_of (Err f) = moved

-- what is named of the reply of a row is named of the reply that it is
of_reply : (cs : List Change) (r : Row) (new : Board) (reply : Reply) → r ≡ Ok (new, reply) → NameTheSame cs (reply_of r) → NameTheSame cs reply
unfolding reply_of
of_reply cs r new reply h named = subst (λ (x : Reply). NameTheSame cs x) (ap reply_of h) named

-- ---- entering

queued : (m holds : Member) (cancel : Bool) (waited : Option Member)
    → NameTheSame (Change.Member m (MemberFact.Waits holds) ∷ (queueing.displaces m waited ++ queueing.tells m cancel holds)) (told None waited (stop_told cancel holds))
queued m holds false None = record { admitted = refl; displaced = refl; stopped = refl }
queued m holds true None = record { admitted = refl; displaced = refl; stopped = refl }
queued m holds false (Some w) = record { admitted = refl; displaced = refl; stopped = refl }
queued m holds true (Some w) = record { admitted = refl; displaced = refl; stopped = refl }

held : (b : Board) (m : Member) (own : Option ℕ) (group : Entrance) (holds waited : Option Member)
    → NameTheSame (causes.enters_held m own group holds waited) ((groups.enters_held b m own group holds waited).1)
held b m own group None waited = record { admitted = refl; displaced = refl; stopped = refl }
held b m own group (Some h) waited = step (is_own own h)
  where
    step : (c : Bool) → NameTheSame (if c then Change.Member m MemberFact.OwnRun ∷ [] else queueing.queues m group h waited)
        ((if c then (groups.cancelled b m, moved) else groups.queued b m group h waited).1)
    step true = record { admitted = refl; displaced = refl; stopped = refl }
    step false = queued m h group.cancel waited

entered : (b : Board) (m : Member) (own : Option ℕ) (group : Option Entrance) → NameTheSame (causes.enters b m own group) ((groups.enters b m own group).1)
entered b m own None = record { admitted = refl; displaced = refl; stopped = refl }
entered b m own (Some group) = held b m own group (holder b group.name) (waiter b group.name)

run_entered : (b new : Board) (r : ℕ) (group : Result (Option Entrance) ValueFault) (reply : Reply) → table.run_enters b r group ≡ Ok (new, reply)
    → NameTheSame (causes.enters_by b (Member.Run r) None group) reply
unfolding reply_of
run_entered b new r (Ok group) reply h = of_reply _ _ new reply h (entered b (Member.Run r) None group)
run_entered b new r (Err f) reply h = of_reply _ _ new reply h (record { admitted = refl; displaced = refl; stopped = refl })

leg_entered : (b new : Board) (l : ℕ) (at : LegAt) (group : Result (Option Entrance) ValueFault) (reply : Reply) → table.leg_enters b l at group ≡ Ok (new, reply)
    → NameTheSame (causes.enters_by b (Member.Leg l) (Some at.place.run) group) reply
unfolding reply_of
leg_entered b new l at (Ok group) reply h = of_reply _ _ new reply h (entered b (Member.Leg l) (Some at.place.run) group)
leg_entered b new l at (Err f) reply h = of_reply _ _ new reply h (record { admitted = refl; displaced = refl; stopped = refl })

opened : (b new : Board) (r : ℕ) (found : Option RunAt) (reply : Reply) → table.open_found b r found ≡ Ok (new, reply) → NameTheSame (causes.opens b r found) reply
opened b new r None reply h = cc
opened b new r (Some at) reply h = by_state at.run.state at.run.stop h
  where
    by_state : (state : RunState) (stop : Bool) → table.open_run b r at state stop ≡ Ok (new, reply) → NameTheSame (causes.opens b r (Some at)) reply
    by_state RunState.New false k = run_entered b new r (run_entrance at) reply k
    by_state RunState.New true k = cc
    by_state RunState.Waiting stop k = cc
    by_state RunState.Going stop k = cc
    by_state (RunState.Closed result) stop k = cc

asked : (b new : Board) (l : ℕ) (found : Option LegAt) (reply : Reply) → table.ask_found b l found ≡ Ok (new, reply) → NameTheSame (causes.asks b l found) reply
asked b new l None reply h = cc
asked b new l (Some at) reply h = guarded (may_ask at) (is_full at.job_plan at.job) (is_stopping at) h
  where
    guarded : (may full stopping : Bool)
        → (if not may then Err EventFault.WrongState else (if full then Err EventFault.SlotsFull else (if stopping then Err EventFault.Stopping else table.leg_enters b l at (leg_entrance at)))) ≡ Ok (new, reply)
        → NameTheSame (causes.asks b l (Some at)) reply
    guarded false full stopping k = cc
    guarded true true stopping k = cc
    guarded true false true k = cc
    guarded true false false k = leg_entered b new l at (leg_entrance at) reply k

-- ---- leaving

-- a member leaves with a fact that names nobody
left : (m : Member) (fact : MemberFact) (next : Option Member) → admits fact ≡ false → loses fact ≡ false
    → NameTheSame (Change.Member m fact ∷ causes.passes m next) (told next None None)
left m fact None quiet kept = record {
  admitted = ap (λ c. or_else (when c m) None) quiet;
  displaced = ap (λ c. or_else (when c m) None) kept;
  stopped = refl;
}
left m fact (Some n) quiet kept = record {
  admitted = ap (λ c. or_else (when c m) (Some n)) quiet;
  displaced = ap (λ c. or_else (when c m) None) kept;
  stopped = refl;
}

dropped : (b new : Board) (l : ℕ) (found : Option LegAt) (reply : Reply) → table.drop_found b l found ≡ Ok (new, reply) → NameTheSame (causes.drops b l found) reply
unfolding reply_of
dropped b new l None reply h = cc
dropped b new l (Some at) reply h = guarded (may_drop at) (is_stopping at) h
  where
    guarded : (may stopping : Bool)
        → (if not may then Err EventFault.WrongState else (if stopping then Ok (groups.leaves b (leg_standing at.leg) (groups.dropped b l Outcome.Cancelled)) else Err EventFault.NotStopping)) ≡ Ok (new, reply)
        → NameTheSame (causes.drops b l (Some at)) reply
    guarded false stopping k = cc
    guarded true true k =
        of_reply _ _ new reply k
        (left (Member.Leg l) (MemberFact.Stopped (cause_of_stop l at)) (next_after b (leg_standing at.leg)) refl refl)
    guarded true false k = cc

-- how a leg ends whose steps are done names nobody
quiet_end : (stopping : Bool) (l : ℕ) (at : LegAt) → (admits (causes.finished stopping l at) ≡ false) × (loses (causes.finished stopping l at) ≡ false)
quiet_end true l at = (refl, refl)
quiet_end false l at = (refl, refl)

finished : (b new : Board) (worker l : ℕ) (found : Option LegAt) (reply : Reply) → table.finish_found b worker l found ≡ Ok (new, reply)
    → NameTheSame (causes.finishes b l found) reply
unfolding reply_of
finished b new worker l None reply h = cc
finished b new worker l (Some at) reply h = by_end (finishing worker at) h
  where
    quiet : (admits (causes.finished (is_stopping at) l at) ≡ false) × (loses (causes.finished (is_stopping at) l at) ≡ false)
    quiet = quiet_end (is_stopping at) l at

    by_end : (end : Result LegState EventFault) → table.finish_leg b l at end ≡ Ok (new, reply) → NameTheSame (causes.finishes b l (Some at)) reply
    by_end (Ok state) k =
        of_reply _ _ new reply k (left (Member.Leg l) (causes.finished (is_stopping at) l at) (next_after b (leg_standing at.leg)) quiet.0 quiet.1)
    by_end (Err f) k = cc

closed : (b new : Board) (r : ℕ) (found : Option RunAt) (reply : Reply) → table.close_found b r found ≡ Ok (new, reply)
    → NameTheSame (causes.closes b r found) reply
unfolding reply_of
closed b new r None reply h = cc
closed b new r (Some at) reply h = by_state at.run.state h
  where
    closes : (result : Outcome) → table.run_closes b r at.run result ≡ Ok (new, reply) → NameTheSame (causes.closes b r (Some at)) reply
    closes result k =
        of_reply _ _ new reply k
        (left (Member.Run r) (MemberFact.Closed (causes.closing at.run.state at.run)) (next_after b (run_standing at.run)) refl refl)

    waiting : (stop : Bool) → table.close_waiting b r at.run stop ≡ Ok (new, reply) → NameTheSame (causes.closes b r (Some at)) reply
    waiting true k = closes Outcome.Cancelled k
    waiting false k = cc

    going : (ended : Bool)
        → (if ended then table.run_closes b r at.run (run_result at.run) else Err EventFault.NeedsOpen) ≡ Ok (new, reply)
        → NameTheSame (causes.closes b r (Some at)) reply
    going true k = closes (run_result at.run) k
    going false k = cc

    by_state : (state : RunState) → table.close_run b r at.run state ≡ Ok (new, reply) → NameTheSame (causes.closes b r (Some at)) reply
    by_state RunState.New k = waiting at.run.stop k
    by_state RunState.Waiting k = waiting at.run.stop k
    by_state RunState.Going k = going (jobs_have_ended at.run) k
    by_state (RunState.Closed result) k = cc

-- ---- events of which nobody is named

judged : (b new : Board) (j : ℕ) (found : Option JobAt) (reply : Reply) → table.judge_found b j found ≡ Ok (new, reply)
    → NameTheSame (causes.judges j found) reply
unfolding reply_of
judged b new j None reply h = cc
judged b new j (Some at) reply h = by_judgement (judgement j at) h
  where
    by_judgement : (state : Result JobState EventFault) → table.judge_job b at.place state ≡ Ok (new, reply) → NameTheSame (causes.judges j (Some at)) reply
    by_judgement (Ok state) k = of_reply _ _ new reply k (record { admitted = refl; displaced = refl; stopped = refl })
    by_judgement (Err f) k = cc

take_if : Board → ℕ → LegAt → Bool → Row
take_if b worker at stopping = if stopping then Err EventFault.Stopping else Ok (table.leg_state_set b at.place (LegState.Running worker false), moved)

cancel_if : Board → ℕ → Bool → Row
cancel_if b r over = if over then Err EventFault.WrongState else Ok (groups.stopped b true (Member.Run r), moved)

taken : (b new : Board) (worker l : ℕ) (found : Option LegAt) (reply : Reply) → table.take_found b worker found ≡ Ok (new, reply)
    → NameTheSame (Change.Member (Member.Leg l) MemberFact.Taken ∷ []) reply
unfolding reply_of take_if
taken b new worker l None reply h = cc
taken b new worker l (Some at) reply h = by_state at.leg.state h
  where
    guarded : (stopping : Bool)
        → take_if b worker at stopping ≡ Ok (new, reply)
        → NameTheSame (Change.Member (Member.Leg l) MemberFact.Taken ∷ []) reply
    guarded true k = cc
    guarded false k = of_reply _ _ new reply k (record { admitted = refl; displaced = refl; stopped = refl })

    by_state : (state : LegState) → table.take_leg b worker at state ≡ Ok (new, reply) → NameTheSame (Change.Member (Member.Leg l) MemberFact.Taken ∷ []) reply
    by_state LegState.Fresh k = cc
    by_state LegState.Waiting k = cc
    by_state LegState.Admitted k = guarded (is_stopping at) k
    by_state (LegState.Running w in_call) k = cc
    by_state (LegState.Ended result tolerated) k = cc

-- what comes of a step names nobody
begun : (l : ℕ) (at : LegAt) (step : StepPlan) (decision : Result (Option StepCall) ValueFault) → NameTheSame (causes.begun l at step decision ∷ []) moved
begun l at step (Ok (Some call)) = record { admitted = refl; displaced = refl; stopped = refl }
begun l at step (Ok None) = record { admitted = refl; displaced = refl; stopped = refl }
begun l at step (Err f) = record { admitted = refl; displaced = refl; stopped = refl }

begun_step : (l : ℕ) (at : LegAt) (step : Option StepPlan) → NameTheSame (causes.begins_step l at step) moved
begun_step l at None = record { admitted = refl; displaced = refl; stopped = refl }
begun_step l at (Some step) = begun l at step (step_decision l at step)

begins : (b new : Board) (worker l : ℕ) (found : Option LegAt) (reply : Reply) → table.begin_found b worker l found ≡ Ok (new, reply)
    → NameTheSame (causes.begins l found) reply
unfolding reply_of
begins b new worker l None reply h = cc
begins b new worker l (Some at) reply h = by_beginning (beginning worker l at) h
  where
    none : NameTheSame (causes.begins_step l at (next_step at)) moved
    none = begun_step l at (next_step at)

    same : (x : Reply) → x.admitted ≡ None → x.displaced ≡ None → x.stopped ≡ None → NameTheSame (causes.begins_step l at (next_step at)) x
    same x a d s = record { admitted = none.admitted ∙ sym a; displaced = none.displaced ∙ sym d; stopped = none.stopped ∙ sym s }

    by_beginning : (beginning : Result Beginning EventFault) → table.begin_leg b worker at beginning ≡ Ok (new, reply) → NameTheSame (causes.begins l (Some at)) reply
    by_beginning (Ok (calls call)) k = of_reply _ _ new reply k (same _ refl refl refl)
    by_beginning (Ok skips) k = of_reply _ _ new reply k (same _ refl refl refl)
    by_beginning (Ok (faults f)) k = of_reply _ _ new reply k (same _ refl refl refl)
    by_beginning (Err f) k = cc

ended : (b new : Board) (worker l : ℕ) (a : Answer) (found : Option LegAt) (reply : Reply) → table.end_found b worker a found ≡ Ok (new, reply)
    → NameTheSame (Change.Step l (causes.answered a) ∷ []) reply
unfolding reply_of
ended b new worker l a None reply h = cc
ended b new worker l a (Some at) reply h = by_ending (table.ending worker at a) h
  where
    by_ending : (done : Result DoneStep EventFault) → table.end_leg b worker at done ≡ Ok (new, reply) → NameTheSame (Change.Step l (causes.answered a) ∷ []) reply
    by_ending (Ok done) k = of_reply _ _ new reply k (record { admitted = refl; displaced = refl; stopped = refl })
    by_ending (Err f) k = cc

cancelled : (b new : Board) (r : ℕ) (found : Option RunAt) (reply : Reply) → table.cancel_found b r found ≡ Ok (new, reply)
    → NameTheSame (Change.Stop (Member.Run r) Teller.Cancel ∷ []) reply
unfolding reply_of cancel_if
cancelled b new r None reply h = cc
cancelled b new r (Some at) reply h = guarded (is_closed at.run.state || at.run.stop) h
  where
    guarded : (over : Bool) → cancel_if b r over ≡ Ok (new, reply)
        → NameTheSame (Change.Stop (Member.Run r) Teller.Cancel ∷ []) reply
    guarded true k = cc
    guarded false k = of_reply _ _ new reply k (record { admitted = refl; displaced = refl; stopped = refl })

-- ---- the table

pub changes_name_whom_the_row_names : ChangesNameWhomTheRowNames
changes_name_whom_the_row_names p b new worker (Event.Open r) reply h = opened b new r (run_at p b r) reply h
changes_name_whom_the_row_names p b new worker (Event.Judge j) reply h = judged b new j (job_at p b j) reply h
changes_name_whom_the_row_names p b new worker (Event.Ask l) reply h = asked b new l (leg_at p b l) reply h
changes_name_whom_the_row_names p b new worker (Event.Drop l) reply h = dropped b new l (leg_at p b l) reply h
changes_name_whom_the_row_names p b new worker (Event.Take l) reply h = taken b new worker l (leg_at p b l) reply h
changes_name_whom_the_row_names p b new worker (Event.Begin l) reply h = begins b new worker l (leg_at p b l) reply h
changes_name_whom_the_row_names p b new worker (Event.End l a) reply h = ended b new worker l a (leg_at p b l) reply h
changes_name_whom_the_row_names p b new worker (Event.Finish l) reply h = finished b new worker l (leg_at p b l) reply h
changes_name_whom_the_row_names p b new worker (Event.Close r) reply h = closed b new r (run_at p b r) reply h
changes_name_whom_the_row_names p b new worker (Event.Cancel r) reply h = cancelled b new r (run_at p b r) reply h
