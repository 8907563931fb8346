-- What one thread or several workers played is what a run tells of.
use Rattle.std.proofs.Common.{◌≡◌, ℕ, ◌⊎◌, inl, inr, true, List, take, Option, Some, None, Result, Ok, Err, IfOk, IfErr, [], append-nil, refl, subst, sym, arith}
use Rattle.status_table.specs.Words.{Answer, Board, Each, Entry, Event, Plan, StepCall, after, finished, is_well_formed, open_call, stalled}
use Rattle.step_host.specs.Lawful.{EndsAdmitted, IsAdmitted, Lawful}
use Rattle.step_host.specs.Masked.{IsMasked}
use Rattle.step_host.specs.declared.fault.HostFault.{HostFault}
use Rattle.worker_pool.specs.Alone.{EndsAlone, EndsSo, PlayedAlone}
use Rattle.worker_pool.specs.Fault.{IsUnanswered, StopsAlone}
use Rattle.worker_pool.specs.History.{AreOf}
use Rattle.worker_pool.specs.Many.{AreBelow, AreNoWorkers, EndsByMany, PlayedByMany, StopsByMany}
use Rattle.worker_pool.specs.Told.{Begins, WasTold, WasToldAll}
use Rattle.worker_pool.specs.declared.fault.PoolFault.{PoolFault}
use Rattle.worker_pool.specs.declared.played.Ending.{Ending}
use Rattle.worker_pool.specs.declared.played.Played.{Played}
use Rattle.command_run.specs.PlanMasks.{plan_masks}
use Rattle.command_run.specs.Playing.{EndsPlayed, GivesMasked, HasEnded, IsLeftInCall, IsPlayed, MasksAnswers, StopsPlayed}

below_one : (es : List Entry) → AreOf 0 es → AreBelow 1 es
below_one es of_zero i e there = let zero = of_zero i e there in omega (arith, zero)

-- ---- masks, and how many workers there may be

one_is_some : AreNoWorkers 1 → ⊥
one_is_some (inl none) = cc
one_is_some (inr many) = omega (arith, many)

masked_call : (masks : List (List ℕ)) (admits : StepCall → Answer → Type 0) → MasksAnswers masks admits → (open' : Option StepCall) (a : Answer)
    → IsAdmitted admits open' a → IsMasked masks (λ plain. is_well_formed plain ≡ true) a
masked_call masks admits hides None a h = absurd h
masked_call masks admits hides (Some call) a h = hides call a h

masked_event : (masks : List (List ℕ)) (admits : StepCall → Answer → Type 0) → MasksAnswers masks admits → (calls : ℕ → Option StepCall) (e : Event)
    → EndsAdmitted admits calls e → GivesMasked masks e
masked_event masks admits hides calls (Event.Open r) h = tt
masked_event masks admits hides calls (Event.Judge j) h = tt
masked_event masks admits hides calls (Event.Ask l) h = tt
masked_event masks admits hides calls (Event.Drop l) h = tt
masked_event masks admits hides calls (Event.Take l) h = tt
masked_event masks admits hides calls (Event.Begin l) h = tt
masked_event masks admits hides calls (Event.End l a) h = masked_call masks admits hides (calls l) a h
masked_event masks admits hides calls (Event.Finish l) h = tt
masked_event masks admits hides calls (Event.Close r) h = tt
masked_event masks admits hides calls (Event.Cancel r) h = tt

masked_all : (p : Plan) (admits : StepCall → Answer → Type 0) → MasksAnswers (plan_masks p) admits → (es : List Entry) → Lawful admits p es
    → Each (λ e. GivesMasked (plan_masks p) e.event) es
masked_all p admits hides es lawful k e there = masked_event (plan_masks p) admits hides (open_call p (take k es)) e.event (lawful.admitted k e there)

-- ---- what one worker plays

alone_is_played : (admits : StepCall → Answer → Type 0) (p : Plan) (es : List Entry) → MasksAnswers (plan_masks p) admits → PlayedAlone admits p es → IsPlayed p 1 es
alone_is_played admits p es hides h =
    record {
      number = one_is_some;
      board = h.lawful.legal.0;
      leads = h.lawful.legal.1;
      of_them = below_one es h.worker;
      uncancelled = h.uncancelled;
      masked = masked_all p admits hides es h.lawful;
    }

-- how a play ended, by its board
ends : (p : Plan) (b : Board) (how : Ending) → EndsSo p b how → (finished b ≡ true) ⊎ (stalled p b ≡ true)
ends p b Ending.Done h = inl h
ends p b Ending.Stalled h = inr h

ended_at : (p : Plan) (es : List Entry) (b : Board) (how : Ending) → after p es ≡ Some b → EndsSo p b how → HasEnded p es
ended_at p es b how leads h = record { board = b; leads = leads; ends = ends p b how h }

ended_is_played : (admits : StepCall → Answer → Type 0) (p : Plan) (workers : ℕ) (played : Played) → MasksAnswers (plan_masks p) admits → workers ≡ 1
    → EndsAlone admits p played → EndsPlayed p workers played
ended_is_played admits p workers played hides one h =
    record {
      played = subst (λ n. IsPlayed p n played.history) (sym one) (alone_is_played admits p played.history hides h.history);
      ended = ended_at p played.history played.left.board played.ending h.leads h.ends;
      left = h.leads;
    }

left_in_call : (declines : StepCall → Type 0) (p : Plan) (es : List Entry) (l step : ℕ) → IsUnanswered declines p es l step → IsLeftInCall p es
left_in_call declines p es l step h = record { leg = l; step = step; call = h.0; in_call = h.1 }

stopped_alone : (admits : StepCall → Answer → Type 0) (declines : StepCall → Type 0) (p : Plan) (fault : PoolFault) → MasksAnswers (plan_masks p) admits
    → StopsAlone admits declines p fault → StopsPlayed p 1 fault
stopped_alone admits declines p PoolFault.Workers hides h = absurd h
stopped_alone admits declines p (PoolFault.Host l step HostFault.NoAnswer es) hides h = (alone_is_played admits p es hides h.0, left_in_call declines p es l step h.1)
stopped_alone admits declines p (PoolFault.Host l step HostFault.Memory es) hides h = absurd h
stopped_alone admits declines p (PoolFault.Mismatch es) hides h = absurd h
stopped_alone admits declines p (PoolFault.Memory es) hides h = alone_is_played admits p es hides h

stopped_is_played : (admits : StepCall → Answer → Type 0) (declines : StepCall → Type 0) (p : Plan) (workers : ℕ) (fault : PoolFault)
    → MasksAnswers (plan_masks p) admits → workers ≡ 1 → StopsAlone admits declines p fault → StopsPlayed p workers fault
stopped_is_played admits declines p workers fault hides one h =
    subst (λ n. StopsPlayed p n fault) (sym one) (stopped_alone admits declines p fault hides h)

-- ---- what several play

by_many : (admits : StepCall → Answer → Type 0) (p : Plan) (workers : ℕ) (es : List Entry) → MasksAnswers (plan_masks p) admits → (AreNoWorkers workers → ⊥)
    → PlayedByMany admits p workers es → IsPlayed p workers es
by_many admits p workers es hides some h =
    record {
      number = some;
      board = h.lawful.legal.0;
      leads = h.lawful.legal.1;
      of_them = h.of_them;
      uncancelled = h.uncancelled;
      masked = masked_all p admits hides es h.lawful;
    }

many_are_played : (admits : StepCall → Answer → Type 0) (p : Plan) (workers : ℕ) (played : Played) → MasksAnswers (plan_masks p) admits → (AreNoWorkers workers → ⊥)
    → EndsByMany admits p workers played → EndsPlayed p workers played
many_are_played admits p workers played hides some h =
    record {
      played = by_many admits p workers played.history hides some h.history;
      ended = ended_at p played.history played.left.board played.ending h.leads h.ends;
      left = h.leads;
    }

many_stopped : (admits : StepCall → Answer → Type 0) (declines : StepCall → Type 0) (p : Plan) (workers : ℕ) (r : Result Played PoolFault) (fault : PoolFault)
    → MasksAnswers (plan_masks p) admits → r ≡ Err fault → (AreNoWorkers workers → r ≡ Err PoolFault.Workers) → StopsByMany admits declines p workers fault
    → StopsPlayed p workers fault
many_stopped admits declines p workers r PoolFault.Workers hides is only h = h
many_stopped admits declines p workers r (PoolFault.Host l step HostFault.NoAnswer es) hides is only h =
    (by_many admits p workers es hides (λ none. let no = only none in absurd (cc (is, no))) h.0, left_in_call declines p es l step h.1)
many_stopped admits declines p workers r (PoolFault.Host l step HostFault.Memory es) hides is only h = absurd h
many_stopped admits declines p workers r (PoolFault.Mismatch es) hides is only h =
    by_many admits p workers es hides (λ none. let no = only none in absurd (cc (is, no))) h
many_stopped admits declines p workers r (PoolFault.Memory es) hides is only h =
    by_many admits p workers es hides (λ none. let no = only none in absurd (cc (is, no))) h

-- ---- the same of what is given where there may be a fault

pub alone_ends_played : (admits : StepCall → Answer → Type 0) (p : Plan) (workers : ℕ) (r : Result Played PoolFault) → MasksAnswers (plan_masks p) admits → workers ≡ 1
    → IfOk r (EndsAlone admits p) → IfOk r (EndsPlayed p workers)
alone_ends_played admits p workers (Ok played) hides one h = ended_is_played admits p workers played hides one h
alone_ends_played admits p workers (Err fault) hides one h = tt

pub alone_stops_played : (admits : StepCall → Answer → Type 0) (declines : StepCall → Type 0) (p : Plan) (workers : ℕ) (r : Result Played PoolFault)
    → MasksAnswers (plan_masks p) admits → workers ≡ 1 → IfErr r (StopsAlone admits declines p) → IfErr r (StopsPlayed p workers)
alone_stops_played admits declines p workers (Ok played) hides one h = tt
alone_stops_played admits declines p workers (Err fault) hides one h = stopped_is_played admits declines p workers fault hides one h

pub many_end_played : (admits : StepCall → Answer → Type 0) (p : Plan) (workers : ℕ) (r : Result Played PoolFault) → MasksAnswers (plan_masks p) admits
    → (AreNoWorkers workers → r ≡ Err PoolFault.Workers) → IfOk r (EndsByMany admits p workers) → IfOk r (EndsPlayed p workers)
many_end_played admits p workers (Ok played) hides only h = many_are_played admits p workers played hides (λ none. let no = only none in cc no) h
many_end_played admits p workers (Err fault) hides only h = tt

pub many_stop_played : (admits : StepCall → Answer → Type 0) (declines : StepCall → Type 0) (p : Plan) (workers : ℕ) (r : Result Played PoolFault)
    → MasksAnswers (plan_masks p) admits → (AreNoWorkers workers → r ≡ Err PoolFault.Workers) → IfErr r (StopsByMany admits declines p workers)
    → IfErr r (StopsPlayed p workers)
many_stop_played admits declines p workers (Ok played) hides only h = tt
many_stop_played admits declines p workers (Err fault) hides only h = many_stopped admits declines p workers (Err fault) fault hides refl only h

-- ---- what a recorder was told

begins_itself : (es : List Entry) → Begins es es
begins_itself es = ([], sym (append-nil es))

pub told_of_all : (told : List Entry → Type 0) (r : Result Played PoolFault) → WasToldAll told r → WasTold told r
told_of_all told (Ok played) h = (played.history, h, refl)
told_of_all told (Err PoolFault.Workers) h = absurd h
told_of_all told (Err (PoolFault.Host l step f es)) h = (es, h, begins_itself es)
told_of_all told (Err (PoolFault.Mismatch es)) h = (es, h, begins_itself es)
told_of_all told (Err (PoolFault.Memory es)) h = (es, h, begins_itself es)
