-- What is noted in the account of a record was made so at its line.
use Rattle.std.proofs.Common.{◌≡◌, ℕ, zero, suc, ◌+◌, arith, Bool, true, false, List, [], ◌∷◌, ◌++◌, Option, Some, None, Ok, Err, length, map, nat_le, slice_get, IfSome, if◌then◌else◌, ap, subst, sym, refl, ◌∙◌}
use Rattle.std.specs.List.{flat_map, AllZip}
use Rattle.std.proofs.lemmas.Bool.{true≢false}
use Rattle.std.proofs.lemmas.List.{append_assoc, append-nil, length-append, map-append}
use Rattle.std.proofs.lemmas.List.Concat.{flat_map-append}
use Rattle.status_table.specs.Words.{Board, Each, Entry, Job, JobPlan, Member, Plain, Plan, Reply, Row, Run, RunPlan, after, board_legs, changed, event_row, new_board, new_job, new_leg, new_run, row}
use Rattle.why_facts.specs.Notes as spec
use Rattle.why_facts.specs.Notes.{all_noted, new_leg_notes, new_notes, new_run_notes, noted}
use Rattle.why_facts.specs.declared.fact.Change.{Change}
use Rattle.why_facts.specs.declared.fact.Teller.{Teller}
use Rattle.why_facts.specs.declared.notes.LegNotes.{LegNotes}
use Rattle.why_facts.specs.declared.notes.Notes.{Notes}
use Rattle.why_facts.specs.declared.notes.RunNotes.{RunNotes}
use Rattle.why_facts.specs.declared.notes.StepNote.{StepNote}
use Rattle.why_facts.specs.declared.notes.StopNote.{StopNote}
use Rattle.why_notes.specs.Account.{Account, account_from, entry_noted, then_account}
use Rattle.why_notes.specs.Changes.{changes}
use Rattle.why_causes.specs.Agrees.{Agrees, JobAgrees, LegAgrees, RunAgrees}
use Rattle.why_causes.specs.Made.{IsMade, IsNews, JobHolds, LegHolds, MadeAt, NotesAreMade, RunHolds}
use Rattle.why_causes.specs.Stands.{Has, IsTold}
use Rattle.status_table.specs.declared.fault.EventFault.{EventFault}
use Rattle.why_causes.proofs.Becoming.{changes_become_so, goes}
use Rattle.why_causes.proofs.Going.{Tells}
use Rattle.why_causes.proofs.MetFirst.{contains_at}
use Rattle.why_causes.proofs.Members.{leg_clash, leg_told, run_clash, run_told, untold_leg, untold_run}
use Rattle.status_table.proofs.Lists.{changed-cons, zip-append}
use Rattle.board_decisions.proofs.Lists.{no_some, same_some}
use Rattle.status_table.proofs.RunsLemmas.{after_from-last}

-- ---- lists

abbrev At : {T : Type 0} → (ℕ → T → Type 0) → List T → Type 0
At {T} P xs = (i : ℕ) (x : T) → slice_get xs i ≡ Some x → P i x

-- what holds of each item holds after a change that keeps it
at_changed : {T : Type 0} (P : ℕ → T → Type 0) (xs : List T) (i : ℕ) (f : T → T) → ((x : T) → P i x → P i (f x)) → At P xs → At P (changed xs i f)
at_changed P [] i f keeps all k x is = absurd (no_some x is)
at_changed {T} P (y ∷ ys) zero f keeps all zero x is = subst (P 0) (same_some (f y) x is) (keeps y (all 0 y refl))
at_changed P (y ∷ ys) zero f keeps all (suc k) x is = all (suc k) x is
at_changed P (y ∷ ys) (suc i) f keeps all zero x is = all 0 x (sym (ap (λ zs. slice_get zs 0) (changed-cons y ys i f)) ∙ is)
at_changed {T} P (y ∷ ys) (suc i) f keeps all (suc k) x is =
    at_changed (λ n z. P (suc n) z) ys i f keeps (λ n z at. all (suc n) z at) k x (sym (ap (λ zs. slice_get zs (suc k)) (changed-cons y ys i f)) ∙ is)

-- and with more items of which it holds whatever their place
at_more : {T : Type 0} (P : ℕ → T → Type 0) (xs ys : List T) → At P xs → ((i : ℕ) → At (λ k y. P i y) ys) → At P (xs ++ ys)
at_more P [] ys all new k x is = new k k x is
at_more P (z ∷ zs) ys all new zero x is = all 0 x is
at_more {T} P (z ∷ zs) ys all new (suc k) x is = at_more (λ n w. P (suc n) w) zs ys (λ n w at. all (suc n) w at) (λ i. new (suc i)) k x is

at_one : {T : Type 0} (P : ℕ → T → Type 0) (x : T) → ((i : ℕ) → P i x) → (i : ℕ) → At (λ k y. P i y) (x ∷ [])
at_one P x holds i zero y is = subst (P i) (same_some x y is) (holds i)
at_one P x holds i (suc k) y is = absurd (no_some y is)

-- what holds of each item follows of each
at_weaker : {T : Type 0} (P Q : ℕ → T → Type 0) (xs : List T) → ((i : ℕ) (x : T) → P i x → Q i x) → At P xs → At Q xs
at_weaker P Q xs follows all i x is = follows i x (all i x is)

-- the item of another list that was made of the same
at_both : {S T U : Type 0} (x : T) (f : S → U) (ss : List S) (i : ℕ) (y : T) → slice_get (map (λ s. x) ss) i ≡ Some y → (s : S) × (slice_get (map f ss) i ≡ Some (f s)) × (y ≡ x)
at_both x f [] i y is = absurd (no_some y is)
at_both x f (s ∷ ss) zero y is = (s, refl, sym (same_some x y is))
at_both x f (s ∷ ss) (suc i) y is = at_both x f ss i y is

-- what holds of the others still holds, and of the changed item what then holds of it
at_put : {T : Type 0} (P Q : ℕ → T → Type 0) (xs : List T) (i : ℕ) (f : T → T) → ((x : T) → P i x → Q i (f x)) → ((k : ℕ) (x : T) → (k ≡ i → ⊥) → P k x → Q k x)
    → At P xs → At Q (changed xs i f)
at_put P Q [] i f here others all k x is = absurd (no_some x is)
at_put {T} P Q (y ∷ ys) zero f here others all zero x is = subst (Q 0) (same_some (f y) x is) (here y (all 0 y refl))
at_put P Q (y ∷ ys) zero f here others all (suc k) x is = others (suc k) x (λ e. suc_zero e) (all (suc k) x is)
  where
    suc_zero : suc k ≡ zero → ⊥
    suc_zero e = omega (arith, e)
at_put {T} P Q (y ∷ ys) (suc i) f here others all zero x is =
    subst (Q 0) (same_some y x (sym (ap (λ zs. slice_get zs 0) (changed-cons y ys i f)) ∙ is)) (others 0 y (λ e. zero_suc e) (all 0 y refl))
  where
    zero_suc : zero ≡ suc i → ⊥
    zero_suc e = omega (arith, e)
at_put {T} P Q (y ∷ ys) (suc i) f here others all (suc k) x is =
    at_put (λ n z. P (suc n) z) (λ n z. Q (suc n) z) ys i f here (λ n z apart holds. others (suc n) z (λ e. apart (less e)) holds) (λ n z at. all (suc n) z at) k x
    (sym (ap (λ zs. slice_get zs (suc k)) (changed-cons y ys i f)) ∙ is)
  where
    less : {n : ℕ} → suc n ≡ suc i → n ≡ i
    less e = omega (arith, e)

some_none : {T : Type 0} {x : T} → Some x ≡ None → ⊥
some_none e = cc

run_is : {r k : ℕ} {s t : Teller} → Change.Stop (Member.Run r) s ≡ Change.Stop (Member.Run k) t → k ≡ r
run_is e = cc

leg_is : {l k : ℕ} {s t : Teller} → Change.Stop (Member.Leg l) s ≡ Change.Stop (Member.Leg k) t → k ≡ l
leg_is e = cc

-- ---- what is known of notes beside a board

-- What holds of a run's notes; where no teller is noted it was not told to stop, and it is free of something.
record RunKnown (P : ℕ → Change → Type 0) (b : Board) (Free : Member → Type 0) (r : ℕ) (n : RunNotes) : Type 0 where
  holds : RunHolds P r n
  untold : n.stop ≡ None → Has b (Member.Run r) untold_run untold_leg × Free (Member.Run r)

record LegKnown (P : ℕ → Change → Type 0) (b : Board) (Free : Member → Type 0) (l : ℕ) (n : LegNotes) : Type 0 where
  holds : LegHolds P l n
  untold : n.stop ≡ None → Has b (Member.Leg l) untold_run untold_leg × Free (Member.Leg l)

record Known (P : ℕ → Change → Type 0) (b : Board) (Free : Member → Type 0) (notes : Notes) : Type 0 where
  runs : At (RunKnown P b Free) notes.runs
  jobs : At (JobHolds P) notes.jobs
  legs : At (LegKnown P b Free) notes.legs

known_weaker : (P : ℕ → Change → Type 0) (b : Board) (F G : Member → Type 0) (notes : Notes) → ((w : Member) → F w → G w) → Known P b F notes → Known P b G notes
known_weaker P b F G notes follows k = record {
  runs = λ r n is. let x = k.runs r n is in record { holds = x.holds; untold = λ none. let u = x.untold none in (u.0, follows (Member.Run r) u.1) };
  jobs = k.jobs;
  legs = λ l n is. let x = k.legs l n is in record { holds = x.holds; untold = λ none. let u = x.untold none in (u.0, follows (Member.Leg l) u.1) };
}

-- nobody is free of anything in particular
abbrev anybody : Member → Type 0
anybody w = Unit {0}

-- ---- at the start nothing is noted

run_notes : (notes : Notes) (runs : List RunPlan) → (spec.runs_added notes runs).runs ≡ notes.runs ++ map (λ run. new_run_notes) runs
run_notes notes [] = sym (append-nil notes.runs)
run_notes notes (run ∷ runs) =
    run_notes (spec.run_added notes run) runs
    ∙ ap (λ ns. ns ++ map (λ (run : RunPlan). new_run_notes) runs) (in_jobs (record notes { runs = notes.runs ++ new_run_notes ∷ [] }) run.jobs)
    ∙ append_assoc notes.runs (new_run_notes ∷ []) (map (λ (run : RunPlan). new_run_notes) runs)
  where
    in_jobs : (notes : Notes) (jobs : List JobPlan) → (spec.jobs_added notes jobs).runs ≡ notes.runs
    in_jobs notes [] = refl
    in_jobs notes (job ∷ jobs) = in_jobs (spec.job_added notes job) jobs

-- the combinations of the legs of jobs
abbrev combos_of : List JobPlan → List (List (List ℕ × Plain))
combos_of jobs = flat_map (λ job. job.legs) jobs

job_leg_notes : (notes : Notes) (jobs : List JobPlan) → (spec.jobs_added notes jobs).legs ≡ notes.legs ++ map (λ leg. new_leg_notes) (combos_of jobs)
job_leg_notes notes [] = sym (append-nil notes.legs)
job_leg_notes notes (job ∷ jobs) =
    job_leg_notes (spec.job_added notes job) jobs
    ∙ append_assoc notes.legs (map (λ leg. new_leg_notes) job.legs) (map (λ leg. new_leg_notes) (combos_of jobs))
    ∙ ap (λ ns. notes.legs ++ ns) (sym (map-append (λ leg. new_leg_notes) job.legs (combos_of jobs)))

leg_notes : (notes : Notes) (runs : List RunPlan) → (spec.runs_added notes runs).legs ≡ notes.legs ++ map (λ leg. new_leg_notes) (combos_of (flat_map (λ run. run.jobs) runs))
leg_notes notes [] = sym (append-nil notes.legs)
leg_notes notes (run ∷ runs) =
    leg_notes (spec.run_added notes run) runs
    ∙ ap (λ ns. ns ++ map (λ leg. new_leg_notes) (combos_of (flat_map (λ run. run.jobs) runs))) (job_leg_notes (record notes { runs = notes.runs ++ new_run_notes ∷ [] }) run.jobs)
    ∙ append_assoc notes.legs (map (λ leg. new_leg_notes) (combos_of run.jobs)) (map (λ leg. new_leg_notes) (combos_of (flat_map (λ run. run.jobs) runs)))
    ∙ ap (λ ns. notes.legs ++ ns)
    (sym (map-append (λ leg. new_leg_notes) (combos_of run.jobs) (combos_of (flat_map (λ run. run.jobs) runs)))
    ∙ ap (map (λ leg. new_leg_notes)) (sym (flat_map-append (λ (job : JobPlan). job.legs) run.jobs (flat_map (λ run. run.jobs) runs))))

-- no job is noted
job_notes : (P : ℕ → Change → Type 0) (notes : Notes) (runs : List RunPlan) → At (JobHolds P) notes.jobs → At (JobHolds P) (spec.runs_added notes runs).jobs
job_notes P notes [] h = h
job_notes P notes (run ∷ runs) h = job_notes P (spec.run_added notes run) runs (in_jobs (record notes { runs = notes.runs ++ new_run_notes ∷ [] }) run.jobs h)
  where
    in_jobs : (notes : Notes) (jobs : List JobPlan) → At (JobHolds P) notes.jobs → At (JobHolds P) (spec.jobs_added notes jobs).jobs
    in_jobs notes [] h = h
    in_jobs notes (job ∷ jobs) h =
        in_jobs (spec.job_added notes job) jobs
        (at_more (JobHolds P) notes.jobs ((record { last = None; first_leg = length notes.legs }) ∷ []) h (at_one (JobHolds P) (record { last = None; first_leg = length notes.legs }) (λ i. tt)))

-- all legs of a new board
new_legs : (p : Plan) → board_legs (new_board p) ≡ map new_leg (combos_of (flat_map (λ run. run.jobs) p.runs))
new_legs p = in_runs p.runs
  where
    in_jobs : (jobs : List JobPlan) → flat_map (λ (job : Job). job.legs) (map new_job jobs) ≡ map new_leg (combos_of jobs)
    in_jobs [] = refl
    in_jobs (job ∷ jobs) = ap (λ ls. map new_leg job.legs ++ ls) (in_jobs jobs) ∙ sym (map-append new_leg job.legs (combos_of jobs))

    in_runs : (runs : List RunPlan) → flat_map (λ (job : Job). job.legs) (flat_map (λ (run : Run). run.jobs) (map new_run runs)) ≡ map new_leg (combos_of (flat_map (λ run. run.jobs) runs))
    in_runs [] = refl
    in_runs (run ∷ runs) =
        flat_map-append (λ (job : Job). job.legs) (map new_job run.jobs) (flat_map (λ (run : Run). run.jobs) (map new_run runs))
        ∙ ap (λ ls. ls ++ flat_map (λ (job : Job). job.legs) (flat_map (λ (run : Run). run.jobs) (map new_run runs))) (in_jobs run.jobs)
        ∙ ap (λ ls. map new_leg (combos_of run.jobs) ++ ls) (in_runs runs)
        ∙ sym (map-append new_leg (combos_of run.jobs) (combos_of (flat_map (λ run. run.jobs) runs)))
        ∙ ap (map new_leg) (sym (flat_map-append (λ (job : JobPlan). job.legs) run.jobs (flat_map (λ run. run.jobs) runs)))

new_known : (P : ℕ → Change → Type 0) (p : Plan) → Known P (new_board p) anybody (new_notes p)
new_known P p = record {
  runs = λ r n is.
      let same = at_both new_run_notes new_run p.runs r n (ap (λ ns. slice_get ns r) (sym (run_notes empty p.runs)) ∙ is) in
      record {
        holds = subst (RunHolds P r) (sym same.2) (record { last = tt; stop = tt });
        untold = λ none. ((new_run same.0, same.1, refl), tt);
      };
  jobs = job_notes P empty p.runs (λ j x is. absurd (no_some x is));
  legs = λ l n is.
      let same = at_both new_leg_notes new_leg (combos_of (flat_map (λ run. run.jobs) p.runs)) l n (ap (λ ns. slice_get ns l) (sym (leg_notes empty p.runs)) ∙ is) in
      record {
        holds = subst (LegHolds P l) (sym same.2) (record { last = tt; stop = tt; call = tt; steps = λ k x at. absurd (no_some x at) });
        untold = λ none. ((new_leg same.0, ap (λ ls. slice_get ls l) (new_legs p) ∙ same.1, refl), tt);
      };
}
  where
    empty : Notes
    empty = record { runs = []; jobs = []; legs = [] }

-- ---- one change is noted

-- nobody is told by a change to stop
abbrev NotBy : Change → Member → Type 0
NotBy c w = (t : Teller) → c ≡ Change.Stop w t → ⊥

module _ (P : ℕ → Change → Type 0) (b : Board) (Free : Member → Type 0) (line : ℕ) where
  -- it is free of one change more
  abbrev FreeOf : Change → Member → Type 0
  FreeOf c w = Free w × NotBy c w

  run_by : (c : Change) → ((r : ℕ) → NotBy c (Member.Run r)) → (r : ℕ) (n : RunNotes) → RunKnown P b Free r n → RunKnown P b (FreeOf c) r n
  run_by c not r n k = record { holds = k.holds; untold = λ none. let u = k.untold none in (u.0, (u.1, not r)) }

  leg_by : (c : Change) → ((l : ℕ) → NotBy c (Member.Leg l)) → (l : ℕ) (n : LegNotes) → LegKnown P b Free l n → LegKnown P b (FreeOf c) l n
  leg_by c not l n k = record { holds = k.holds; untold = λ none. let u = k.untold none in (u.0, (u.1, not l)) }

  step_more : (l : ℕ) (steps : List StepNote) (note : StepNote) → Each (λ (x : StepNote). P x.line (Change.Step l x.fact)) steps → P note.line (Change.Step l note.fact)
      → Each (λ (x : StepNote). P x.line (Change.Step l x.fact)) (steps ++ note ∷ [])
  step_more l steps note h one =
      at_more (λ i (x : StepNote). P x.line (Change.Step l x.fact)) steps (note ∷ []) h (at_one (λ i (x : StepNote). P x.line (Change.Step l x.fact)) note (λ i. one))

  -- the first teller is noted, or was
  run_stop : (r : ℕ) (tells : Teller) (n : RunNotes) → ((IsTold b (Member.Run r) → ⊥) → P line (Change.Stop (Member.Run r) tells)) → RunKnown P b Free r n
      → RunKnown P b (FreeOf (Change.Stop (Member.Run r) tells)) r (record n { stop = spec.first_of n.stop (record { line = line; teller = tells }) })
  run_stop r tells n one k = by n.stop refl
    where
      by : (told : Option StopNote) → n.stop ≡ told
          → RunKnown P b (FreeOf (Change.Stop (Member.Run r) tells)) r (record n { stop = spec.first_of told (record { line = line; teller = tells }) })
      by None is = record {
        holds = record {
          last = k.holds.last;
          stop = one (run_clash untold_run run_told b r (λ s told x y. true≢false (sym y ∙ x)) (k.untold is).0);
        };
        untold = λ none. absurd (some_none none);
      }
      by (Some first) is = record {
        holds = record { last = k.holds.last; stop = subst (λ (o : Option StopNote). IfSome o (λ note. P note.line (Change.Stop (Member.Run r) note.teller))) is k.holds.stop };
        untold = λ none. absurd (some_none none);
      }

  leg_stop : (l : ℕ) (tells : Teller) (n : LegNotes) → ((IsTold b (Member.Leg l) → ⊥) → P line (Change.Stop (Member.Leg l) tells)) → LegKnown P b Free l n
      → LegKnown P b (FreeOf (Change.Stop (Member.Leg l) tells)) l (record n { stop = spec.first_of n.stop (record { line = line; teller = tells }) })
  leg_stop l tells n one k = by n.stop refl
    where
      by : (told : Option StopNote) → n.stop ≡ told
          → LegKnown P b (FreeOf (Change.Stop (Member.Leg l) tells)) l (record n { stop = spec.first_of told (record { line = line; teller = tells }) })
      by None is = record {
        holds = record {
          last = k.holds.last;
          stop = one (leg_clash untold_leg leg_told b l (λ s told x y. true≢false (sym y ∙ x)) (k.untold is).0);
          call = k.holds.call;
          steps = k.holds.steps;
        };
        untold = λ none. absurd (some_none none);
      }
      by (Some first) is = record {
        holds = record {
          last = k.holds.last;
          stop = subst (λ (o : Option StopNote). IfSome o (λ note. P note.line (Change.Stop (Member.Leg l) note.teller))) is k.holds.stop;
          call = k.holds.call;
          steps = k.holds.steps;
        };
        untold = λ none. absurd (some_none none);
      }

  one_noted : (notes : Notes) (c : Change) → (IsNews b c → P line c) → Known P b Free notes → Known P b (FreeOf c) (noted line notes c)
  one_noted notes (Change.Member (Member.Run r) fact) one k =
      let c = Change.Member (Member.Run r) fact in
      record {
        runs = at_changed (RunKnown P b (FreeOf c)) notes.runs r (λ run. record run { last = Some (record { line = line; fact = fact }) })
            (λ n x. record { holds = record { last = one tt; stop = x.holds.stop }; untold = x.untold })
            (at_weaker (RunKnown P b Free) (RunKnown P b (FreeOf c)) notes.runs (run_by c (λ r t e. cc)) k.runs);
        jobs = k.jobs;
        legs = at_weaker (LegKnown P b Free) (LegKnown P b (FreeOf c)) notes.legs (leg_by c (λ l t e. cc)) k.legs;
      }
  one_noted notes (Change.Member (Member.Leg l) fact) one k =
      let c = Change.Member (Member.Leg l) fact in
      record {
        runs = at_weaker (RunKnown P b Free) (RunKnown P b (FreeOf c)) notes.runs (run_by c (λ r t e. cc)) k.runs;
        jobs = k.jobs;
        legs = at_changed (LegKnown P b (FreeOf c)) notes.legs l (λ leg. record leg { last = Some (record { line = line; fact = fact }) })
            (λ n x. record { holds = record { last = one tt; stop = x.holds.stop; call = x.holds.call; steps = x.holds.steps }; untold = x.untold })
            (at_weaker (LegKnown P b Free) (LegKnown P b (FreeOf c)) notes.legs (leg_by c (λ l t e. cc)) k.legs);
      }
  one_noted notes (Change.Job j fact) one k =
      let c = Change.Job j fact in
      record {
        runs = at_weaker (RunKnown P b Free) (RunKnown P b (FreeOf c)) notes.runs (run_by c (λ r t e. cc)) k.runs;
        jobs = at_changed (JobHolds P) notes.jobs j (λ job. record job { last = Some (record { line = line; fact = fact }) }) (λ n x. one tt) k.jobs;
        legs = at_weaker (LegKnown P b Free) (LegKnown P b (FreeOf c)) notes.legs (leg_by c (λ l t e. cc)) k.legs;
      }
  one_noted notes (Change.Called l) one k =
      let c = Change.Called l in
      record {
        runs = at_weaker (RunKnown P b Free) (RunKnown P b (FreeOf c)) notes.runs (run_by c (λ r t e. cc)) k.runs;
        jobs = k.jobs;
        legs = at_changed (LegKnown P b (FreeOf c)) notes.legs l (λ leg. record leg { call = Some line })
            (λ n x. record { holds = record { last = x.holds.last; stop = x.holds.stop; call = one tt; steps = x.holds.steps }; untold = x.untold })
            (at_weaker (LegKnown P b Free) (LegKnown P b (FreeOf c)) notes.legs (leg_by c (λ l t e. cc)) k.legs);
      }
  one_noted notes (Change.Step l fact) one k =
      let c = Change.Step l fact in
      record {
        runs = at_weaker (RunKnown P b Free) (RunKnown P b (FreeOf c)) notes.runs (run_by c (λ r t e. cc)) k.runs;
        jobs = k.jobs;
        legs = at_changed (LegKnown P b (FreeOf c)) notes.legs l (λ leg. record leg { steps = leg.steps ++ (record { line = line; fact = fact }) ∷ [] })
            (λ n x. record {
              holds = record {
                last = x.holds.last;
                stop = x.holds.stop;
                call = x.holds.call;
                steps = step_more l n.steps (record { line = line; fact = fact }) x.holds.steps (one tt);
              };
              untold = x.untold;
            })
            (at_weaker (LegKnown P b Free) (LegKnown P b (FreeOf c)) notes.legs (leg_by c (λ l t e. cc)) k.legs);
      }
  one_noted notes (Change.Stop (Member.Run r) tells) one k = record {
    runs = at_put (RunKnown P b Free) (RunKnown P b (FreeOf (Change.Stop (Member.Run r) tells))) notes.runs r
        (λ run. record run { stop = spec.first_of run.stop (record { line = line; teller = tells }) }) (λ n x. run_stop r tells n one x)
        (λ i n apart x. record { holds = x.holds; untold = λ none. let u = x.untold none in (u.0, (u.1, λ t e. apart (run_is e))) }) k.runs;
    jobs = k.jobs;
    legs = at_weaker (LegKnown P b Free) (LegKnown P b (FreeOf (Change.Stop (Member.Run r) tells))) notes.legs (leg_by (Change.Stop (Member.Run r) tells) (λ l t e. cc)) k.legs;
  }
  one_noted notes (Change.Stop (Member.Leg l) tells) one k = record {
    runs = at_weaker (RunKnown P b Free) (RunKnown P b (FreeOf (Change.Stop (Member.Leg l) tells))) notes.runs (run_by (Change.Stop (Member.Leg l) tells) (λ r t e. cc)) k.runs;
    jobs = k.jobs;
    legs = at_put (LegKnown P b Free) (LegKnown P b (FreeOf (Change.Stop (Member.Leg l) tells))) notes.legs l
        (λ leg. record leg { stop = spec.first_of leg.stop (record { line = line; teller = tells }) }) (λ n x. leg_stop l tells n one x)
        (λ i n apart x. record { holds = x.holds; untold = λ none. let u = x.untold none in (u.0, (u.1, λ t e. apart (leg_is e))) }) k.legs;
  }

-- changes are noted, one after the other
every_noted : (P : ℕ → Change → Type 0) (b : Board) (Free : Member → Type 0) (line : ℕ) (notes : Notes) (cs : List Change)
    → ((i : ℕ) (c : Change) → slice_get cs i ≡ Some c → IsNews b c → P line c) → Known P b Free notes
    → Known P b (λ w. Free w × ((i : ℕ) (t : Teller) → slice_get cs i ≡ Some (Change.Stop w t) → ⊥)) (all_noted line notes cs)
every_noted P b Free line notes [] all k =
    known_weaker P b Free (λ w. Free w × ((i : ℕ) (t : Teller) → slice_get [] i ≡ Some (Change.Stop w t) → ⊥)) notes (λ w free. (free, λ i t is. no_some (Change.Stop w t) is)) k
every_noted P b Free line notes (c ∷ cs) all k =
    known_weaker P b (λ w. (Free w × NotBy c w) × ((i : ℕ) (t : Teller) → slice_get cs i ≡ Some (Change.Stop w t) → ⊥))
    (λ w. Free w × ((i : ℕ) (t : Teller) → slice_get (c ∷ cs) i ≡ Some (Change.Stop w t) → ⊥)) (all_noted line (noted line notes c) cs)
    (λ w free. (free.0.0, none w free.0.1 free.1))
    (every_noted P b (λ w. Free w × NotBy c w) line (noted line notes c) cs (λ i x is. all (suc i) x is) (one_noted P b Free line notes c (all 0 c refl) k))
  where
    none : (w : Member) → NotBy c w → ((i : ℕ) (t : Teller) → slice_get cs i ≡ Some (Change.Stop w t) → ⊥) → (i : ℕ) (t : Teller) → slice_get (c ∷ cs) i ≡ Some (Change.Stop w t) → ⊥
    none w not rest zero t is = not t (same_some c (Change.Stop w t) is)
    none w not rest (suc i) t is = rest i t is

-- ---- a record

pub accepted_event : (p : Plan) (b : Board) (e : Entry) (x : Board × Reply) → row p b e.worker e.event ≡ Ok x → event_row p b e.worker e.event ≡ Ok x
accepted_event p b e x h = by (nat_le e.worker 15) h
  where
    by : (few : Bool) → (if few then event_row p b e.worker e.event else Err EventFault.NoSuch) ≡ Ok x → event_row p b e.worker e.event ≡ Ok x
    by true k = k
    by false k = cc

made : (p : Plan) (es before rest : List Entry) (line : ℕ) (b : Board) (e : Entry) (x : Board × Reply) → es ≡ before ++ e ∷ rest → line ≡ length before + 2 → after p before ≡ Some b
    → row p b e.worker e.event ≡ Ok x → (i : ℕ) (c : Change) → slice_get (changes p b e.event) i ≡ Some c → IsNews b c → MadeAt p es line c
made p es before rest line b e x is counted played accepted i c at news = record {
  before = before;
  entry = e;
  rest = rest;
  old = b;
  new = x.0;
  reply = x.1;
  there = is;
  counted = counted;
  played = played;
  accepted = accepted;
  among = contains_at (changes p b e.event) i c at;
  becomes = changes_become_so p b x.0 e.worker e.event x.1 (accepted_event p b e x accepted) i c at;
  news = news;
}

append_cons : (before : List Entry) (e : Entry) (rest : List Entry) → before ++ e ∷ rest ≡ (before ++ e ∷ []) ++ rest
append_cons [] e rest = refl
append_cons (x ∷ before) e rest = ap (λ xs. x ∷ xs) (append_cons before e rest)

-- what is known after an entry, of the board after it
on_new : (P : ℕ → Change → Type 0) (b new : Board) (cs : List Change) (notes : Notes) → Tells b new cs
    → Known P b (λ w. anybody w × ((i : ℕ) (t : Teller) → slice_get cs i ≡ Some (Change.Stop w t) → ⊥)) notes → Known P new anybody notes
on_new P b new cs notes tells k = record {
  runs = λ r n is. let x = k.runs r n is in record { holds = x.holds; untold = λ none. let u = x.untold none in (tells (Member.Run r) u.0 u.1.1, tt) };
  jobs = k.jobs;
  legs = λ l n is. let x = k.legs l n is in record { holds = x.holds; untold = λ none. let u = x.untold none in (tells (Member.Leg l) u.0 u.1.1, tt) };
}

is_made : (p : Plan) (es : List Entry) (a : Account) → Known (MadeAt p es) a.board anybody a.notes → Agrees a.board a.notes → IsMade p es a
is_made p es a k agrees = record {
  notes = record { runs = λ r n is. (k.runs r n is).holds; jobs = k.jobs; legs = λ l n is. (k.legs l n is).holds };
  agrees = agrees;
}

from_here : (p : Plan) (es before rest : List Entry) (line : ℕ) (b : Board) (notes : Notes) (a : Account) → es ≡ before ++ rest → line ≡ length before + 2 → after p before ≡ Some b
    → Known (MadeAt p es) b anybody notes → Agrees b notes → account_from line p b notes rest ≡ Some a → IsMade p es a
from_here p es before [] line b notes a is counted played k agrees found =
    subst (IsMade p es) (same_some (record { plan = p; board = b; notes = notes }) a found) (is_made p es (record { plan = p; board = b; notes = notes }) k agrees)
from_here p es before (e ∷ rest) line b notes a is counted played k agrees found =
    step (row p b e.worker e.event) refl
    (λ next more counts plays knows goes_on found. from_here p es (before ++ e ∷ []) rest (suc line) next (entry_noted line p b notes e) a more counts plays knows goes_on found)
    found
  where
    step : (r : Row) → row p b e.worker e.event ≡ r
        → ((next : Board) → es ≡ (before ++ e ∷ []) ++ rest → suc line ≡ length (before ++ e ∷ []) + 2 → after p (before ++ e ∷ []) ≡ Some next
        → Known (MadeAt p es) next anybody (entry_noted line p b notes e) → Agrees next (entry_noted line p b notes e)
        → account_from (suc line) p next (entry_noted line p b notes e) rest ≡ Some a → IsMade p es a)
        → then_account r (λ next. account_from (suc line) p next (entry_noted line p b notes e) rest) ≡ Some a → IsMade p es a
    step (Err f) accepted later h = cc
    step (Ok x) accepted later h =
        let size = length-append before (e ∷ []) in
        let gone = goes p b x.0 e.worker e.event x.1 (accepted_event p b e x accepted) in
        later x.0 (is ∙ append_cons before e rest) (omega (arith, counted, size)) (after_from-last p (new_board p) b x.0 before e x.1 played accepted)
        (on_new (MadeAt p es) b x.0 (changes p b e.event) (entry_noted line p b notes e) gone.tells
        (every_noted (MadeAt p es) b anybody line notes (changes p b e.event) (made p es before rest line b e x is counted played accepted) k))
        (gone.noting line notes agrees) h

-- ---- at the start notes agree

-- two lists made of one, side by side
zip_maps : {S T U : Type 0} (R : T → U → Type 0) (x : T) (f : S → U) (ss : List S) → ((s : S) → R x (f s)) → AllZip R (map (λ s. x) ss) (map f ss)
zip_maps R x f [] all = tt
zip_maps R x f (s ∷ ss) all = (all s, zip_maps R x f ss all)

job_agrees : (notes : Notes) (js : List Job) (jobs : List JobPlan) → AllZip JobAgrees notes.jobs js → AllZip JobAgrees (spec.jobs_added notes jobs).jobs (js ++ map new_job jobs)
job_agrees notes js [] h = subst (AllZip JobAgrees notes.jobs) (sym (append-nil js)) h
job_agrees notes js (job ∷ jobs) h =
    subst (AllZip JobAgrees (spec.jobs_added (spec.job_added notes job) jobs).jobs) (append_assoc js (new_job job ∷ []) (map new_job jobs))
    (job_agrees (spec.job_added notes job) (js ++ new_job job ∷ []) jobs
    (zip-append JobAgrees notes.jobs ((record { last = None; first_leg = length notes.legs }) ∷ []) js (new_job job ∷ []) h (refl, tt)))

run_agrees : (notes : Notes) (js : List Job) (runs : List RunPlan) → AllZip JobAgrees notes.jobs js
    → AllZip JobAgrees (spec.runs_added notes runs).jobs (js ++ flat_map (λ (run : Run). run.jobs) (map new_run runs))
run_agrees notes js [] h = subst (AllZip JobAgrees notes.jobs) (sym (append-nil js)) h
run_agrees notes js (run ∷ runs) h =
    subst (AllZip JobAgrees (spec.runs_added (spec.run_added notes run) runs).jobs) (append_assoc js (map new_job run.jobs) (flat_map (λ (run : Run). run.jobs) (map new_run runs)))
    (run_agrees (spec.run_added notes run) (js ++ map new_job run.jobs) runs (job_agrees (record notes { runs = notes.runs ++ new_run_notes ∷ [] }) js run.jobs h))

new_agrees : (p : Plan) → Agrees (new_board p) (new_notes p)
new_agrees p = record {
  runs = subst (λ ns. AllZip RunAgrees ns (map new_run p.runs)) (sym (run_notes empty p.runs)) (zip_maps RunAgrees new_run_notes new_run p.runs (λ run. record { state = refl; told = refl }));
  jobs = run_agrees empty [] p.runs tt;
  legs = subst (λ ns. AllZip LegAgrees ns (board_legs (new_board p))) (sym (leg_notes empty p.runs))
      (subst (AllZip LegAgrees (map (λ leg. new_leg_notes) (combos_of (flat_map (λ run. run.jobs) p.runs)))) (sym (new_legs p))
      (zip_maps LegAgrees new_leg_notes new_leg (combos_of (flat_map (λ run. run.jobs) p.runs)) (λ leg. record { state = refl; told = refl; steps = refl; result = tt; failures = λ i x at. absurd (no_some x at) })));
}
  where
    empty : Notes
    empty = record { runs = []; jobs = []; legs = [] }

pub notes_are_made : NotesAreMade
notes_are_made p es a h = from_here p es [] es 2 (new_board p) (new_notes p) a refl refl refl (new_known (MadeAt p es) p) (new_agrees p) h
