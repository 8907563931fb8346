-- To the text of each record there is an answer: the places of its entries, or why there are none.
use Rattle.std.proofs.Common.{◌≡◌, ◌⊎◌, inl, inr, ◌∙◌, refl, ap, ℕ, zero, suc, ◌+◌, Bool, true, false, List, [], ◌∷◌, ◌++◌, Option, Some, None, Result, Ok, Err, length, take, slice_get, if◌then◌else◌}
use Rattle.std.proofs.lemmas.Bool.{cases_eq}
use Rattle.serde_json.specs.Data.{Data}
use Rattle.flow_model.specs.JsonText.{json_read}
use Rattle.flow_model.specs.Rules.{plan_rules}
use Rattle.plan_documents.specs.Parts.{Reading}
use Rattle.plan_documents.specs.Reading.{plan_of}
use Rattle.status_table.specs.Words.{Board, Entry, Job, JobState, Leg, LegState, Outcome, Plan, Row, Run, RunState, after_from, lines_of, new_board, row, then_after}
use Rattle.status_table.specs.declared.fault.EventFault.{EventFault}
use Rattle.plan_text.specs.BoardText.{job_line, run_line}
use Rattle.plan_text.specs.Changes.{IsSameLeg, IsSameRun, TellsBoth, TellsChanges, TellsEach, TellsJob, TellsJobs, TellsLeg, TellsLegs, TellsRun, ToldUnless, after_job, after_leg, after_run, later_ends, leg_change}
use Rattle.plan_text.specs.Load.{accepted, checked, has_other_version, load, loaded}
use Rattle.plan_text.specs.Record.{before_entries, line_entry, load_entries, load_lines, on_line, with_entries}
use Rattle.plan_text.specs.declared.fault.LoadFault.{LoadFault}
use Rattle.command_io.specs.Records.{IsNotPlayed, IsShownAnswer, load_error}
use Rattle.command_io.specs.Runs.{runs_status}
use Rattle.command_io.specs.Tell.{Answer}
use Rattle.command_io.specs.declared.error.CommandError.{CommandError}
use Rattle.command_print.specs.Changes.{ShowsChanges, TellsNext, TellsPlaces, place_line, place_text}

-- ---- what can be told apart

abbrev Decided : Type 0 → Type 0
Decided A = A ⊎ (A → ⊥)

dec_as : {A B : Type 0} → Decided A → (A → B) → (B → A) → Decided B
dec_as (inl x) f g = inl (f x)
dec_as (inr other) f g = inr (λ y. other (g y))

dec_both : {A B : Type 0} → Decided A → Decided B → Decided (A × B)
dec_both (inl x) (inl y) = inl (x, y)
dec_both (inl x) (inr other) = inr (λ both. other both.1)
dec_both (inr other) second = inr (λ both. other both.0)

same_bool : (a b : Bool) → Decided (a ≡ b)
same_bool true true = inl refl
same_bool false false = inl refl
same_bool a b = inr (λ e. cc)

same_outcome : (a b : Outcome) → Decided (a ≡ b)
same_outcome Outcome.Success Outcome.Success = inl refl
same_outcome Outcome.Failure Outcome.Failure = inl refl
same_outcome Outcome.Cancelled Outcome.Cancelled = inl refl
same_outcome Outcome.Skipped Outcome.Skipped = inl refl
same_outcome a b = inr (λ e. cc)

cons_back : {A : Type 0} (x y : A) (xs ys : List A) → x ∷ xs ≡ y ∷ ys → (x ≡ y) × (xs ≡ ys)
cons_back x y xs ys e = let first : x ≡ y = cc in let others : xs ≡ ys = cc in (first, others)

same_list : {A : Type 0} → ((x y : A) → Decided (x ≡ y)) → (xs ys : List A) → Decided (xs ≡ ys)
same_list same [] [] = inl refl
same_list same [] (y ∷ ys) = inr (λ e. cc)
same_list same (x ∷ xs) [] = inr (λ e. cc)
same_list same (x ∷ xs) (y ∷ ys) =
    dec_as (dec_both (same x y) (same_list same xs ys)) (λ both. λ i. both.0 i ∷ both.1 i) (cons_back x y xs ys)

same_text : (a b : List ℕ) → Decided (a ≡ b)
same_text a b = same_list cases_eq a b

some_back : {A : Type 0} (x y : A) → Some x ≡ Some y → x ≡ y
some_back x y e = cc

same_group : (a b : Option (List ℕ)) → Decided (a ≡ b)
same_group None None = inl refl
same_group None (Some y) = inr (λ e. cc)
same_group (Some x) None = inr (λ e. cc)
same_group (Some x) (Some y) = dec_as (same_text x y) (λ e. ap (λ z. Some z) e) (some_back x y)

same_pair : (a b : List ℕ × List ℕ) → Decided (a ≡ b)
same_pair a b = dec_as (dec_both (same_text a.0 b.0) (same_text a.1 b.1)) (λ both. λ i. (both.0 i, both.1 i)) (λ e. (ap (λ p. p.0) e, ap (λ p. p.1) e))

closed_back : (x y : Outcome) → RunState.Closed x ≡ RunState.Closed y → x ≡ y
closed_back x y e = cc

same_run_state : (a b : RunState) → Decided (a ≡ b)
same_run_state RunState.New RunState.New = inl refl
same_run_state RunState.Waiting RunState.Waiting = inl refl
same_run_state RunState.Going RunState.Going = inl refl
same_run_state (RunState.Closed x) (RunState.Closed y) = dec_as (same_outcome x y) (λ e. ap (λ z. RunState.Closed z) e) (closed_back x y)
same_run_state a b = inr (λ e. cc)

shut_back : (x y : Outcome) → JobState.Shut x ≡ JobState.Shut y → x ≡ y
shut_back x y e = cc

same_job_state : (a b : JobState) → Decided (a ≡ b)
same_job_state JobState.Unjudged JobState.Unjudged = inl refl
same_job_state JobState.Open JobState.Open = inl refl
same_job_state (JobState.Shut x) (JobState.Shut y) = dec_as (same_outcome x y) (λ e. ap (λ z. JobState.Shut z) e) (shut_back x y)
same_job_state a b = inr (λ e. cc)

running_back : (v w : ℕ) (c d : Bool) → LegState.Running v c ≡ LegState.Running w d → (v ≡ w) × (c ≡ d)
running_back v w c d e = let worker : v ≡ w = cc in let call : c ≡ d = cc in (worker, call)

ended_back : (x y : Outcome) (c d : Bool) → LegState.Ended x c ≡ LegState.Ended y d → (x ≡ y) × (c ≡ d)
ended_back x y c d e = let result : x ≡ y = cc in let tolerated : c ≡ d = cc in (result, tolerated)

same_leg_state : (a b : LegState) → Decided (a ≡ b)
same_leg_state LegState.Fresh LegState.Fresh = inl refl
same_leg_state LegState.Waiting LegState.Waiting = inl refl
same_leg_state LegState.Admitted LegState.Admitted = inl refl
same_leg_state (LegState.Running v c) (LegState.Running w d) =
    dec_as (dec_both (cases_eq v w) (same_bool c d)) (λ both. λ i. LegState.Running (both.0 i) (both.1 i)) (running_back v w c d)
same_leg_state (LegState.Ended x c) (LegState.Ended y d) =
    dec_as (dec_both (same_outcome x y) (same_bool c d)) (λ both. λ i. LegState.Ended (both.0 i) (both.1 i)) (ended_back x y c d)
same_leg_state a b = inr (λ e. cc)

same_run : (before run : Run) → Decided (IsSameRun before run)
same_run before run =
    dec_as (dec_both (same_run_state before.state run.state) (dec_both (same_bool before.stop run.stop) (same_group before.group run.group)))
    (λ both. record { state = both.0; stop = both.1.0; group = both.1.1 }) (λ same. (same.state, (same.stop, same.group)))

same_leg : (before leg : Leg) → Decided (IsSameLeg before leg)
same_leg before leg =
    dec_as
    (dec_both (same_leg_state before.state leg.state)
    (dec_both (same_bool before.stop leg.stop)
    (dec_both (same_group before.group leg.group)
    (dec_both (cases_eq (length before.steps) (length leg.steps)) (same_list same_pair before.outputs leg.outputs)))))
    (λ both. record { state = both.0; stop = both.1.0; group = both.1.1.0; steps = both.1.1.1.0; outputs = both.1.1.1.1 })
    (λ same. (same.state, (same.stop, (same.group, (same.steps, same.outputs)))))

-- ---- some text is so

abbrev HasOne : (List ℕ → Type 0) → Type 0
HasOne Is = (told : List ℕ) × Is told

some_unless : (Same : Type 0) (words : List ℕ) → Decided Same → HasOne (ToldUnless Same words)
some_unless Same words (inl is) = ([], inl (is, refl))
some_unless Same words (inr other) = (words, inr (other, refl))

some_both : (First Then : List ℕ → Type 0) → HasOne First → HasOne Then → HasOne (TellsBoth First Then)
some_both First Then one later = (one.0 ++ later.0, (one.0, later.0, one.1, later.1, refl))

some_each : {N X : Type 0} (after : N → X → N) (Tells : N → X → X → List ℕ → Type 0) → ((n : N) (was x : X) → HasOne (Tells n was x))
    → (n : N) (before xs : List X) → HasOne (TellsEach after Tells n before xs)
some_each after Tells one n before [] = ([], refl)
some_each after Tells one n [] (z ∷ xs) = ([], refl)
some_each after Tells one n (was ∷ before) (z ∷ xs) =
    some_both (Tells n was z) (TellsEach after Tells (after n z) before xs) (one n was z) (some_each after Tells one (after n z) before xs)

some_leg : (l : ℕ) (before leg : Leg) → HasOne (TellsLeg l before leg)
some_leg l before leg = some_unless (IsSameLeg before leg) (leg_change l before leg) (same_leg before leg)

some_job : (n : ℕ × ℕ) (before job : Job) → HasOne (TellsJob n before job)
some_job n before job =
    some_both (ToldUnless (before.state ≡ job.state) (job_line n.0 job)) (TellsLegs n.1 before.legs job.legs)
    (some_unless (before.state ≡ job.state) (job_line n.0 job) (same_job_state before.state job.state))
    (some_each after_leg TellsLeg some_leg n.1 before.legs job.legs)

some_run : (n : ℕ × (ℕ × ℕ)) (before run : Run) → HasOne (TellsRun n before run)
some_run n before run =
    some_both (ToldUnless (IsSameRun before run) (run_line n.0 run)) (TellsJobs n.1 before.jobs run.jobs)
    (some_unless (IsSameRun before run) (run_line n.0 run) (same_run before run))
    (some_each after_job TellsJob some_job n.1 before.jobs run.jobs)

some_changes : (before board : Board) → HasOne (TellsChanges before board)
some_changes before board =
    let runs = some_each after_run TellsRun some_run (0, (0, 0)) before.runs board.runs in
    (runs.0 ++ later_ends before.ends board.ends, (runs.0, runs.1, refl))

-- ---- the boards at the places

led : (p : Plan) (b c : Board) (es : List Entry) (k : ℕ) → after_from p b es ≡ Some c → (d : Board) × (after_from p b (take k es) ≡ Some d)
led p b c es zero h = (b, refl)
led p b c [] (suc k) h = (b, refl)
led p b c (e ∷ es) (suc k) h = step (row p b e.worker e.event) (λ next rest. led p next c es k rest) h
  where
    step : (r : Row) → ((next : Board) → after_from p next es ≡ Some c → (d : Board) × (after_from p next (take k es) ≡ Some d))
        → then_after r (λ next. after_from p next es) ≡ Some c → (d : Board) × (then_after r (λ next. after_from p next (take k es)) ≡ Some d)
    step (Ok x) later rest = later x.0 rest
    step (Err f) later rest = cc

some_next : (p : Plan) (es : List Entry) (last : Board) → after_from p (new_board p) es ≡ Some last → (k : ℕ) → HasOne (TellsNext p es k)
some_next p es last leads k =
    let before = led p (new_board p) last es k leads in
    let board = led p (new_board p) last es (suc k) leads in
    let told = some_changes before.0 board.0 in
    (place_line (suc k) ++ told.0, (before.0, board.0, before.1, board.1, (told.0, told.1, refl)))

some_places : (p : Plan) (es : List Entry) (last : Board) → after_from p (new_board p) es ≡ Some last → (k : ℕ) → HasOne (TellsPlaces p es k)
some_places p es last leads zero = (place_text 0 (new_board p), refl)
some_places p es last leads (suc k) =
    some_both (TellsPlaces p es k) (TellsNext p es k) (some_places p es last leads k) (some_next p es last leads k)

-- ---- entries are legal, or one is refused

record IsRefused (p : Plan) (b : Board) (es : List Entry) : Type 0 where
  place : ℕ
  board : Board
  entry : Entry
  fault : EventFault
  legal : after_from p b (take place es) ≡ Some board
  there : slice_get es place ≡ Some entry
  refused : row p board entry.worker entry.event ≡ Err fault

abbrev Goes : Plan → Board → List Entry → Type 0
Goes p b es = ((last : Board) × (after_from p b es ≡ Some last)) ⊎ IsRefused p b es

goes_on : (p : Plan) (b next : Board) (e : Entry) (es : List Entry) (r : Row) → row p b e.worker e.event ≡ r → (x : Board) → ((k : List Entry) → then_after r (λ c. after_from p c k) ≡ after_from p x k)
    → Goes p x es → Goes p b (e ∷ es)
goes_on p b next e es r is x same (inl (last, leads)) = inl (last, ap (λ s. then_after s (λ c. after_from p c es)) is ∙ same es ∙ leads)
goes_on p b next e es r is x same (inr stop) = inr (record {
  place = suc stop.place;
  board = stop.board;
  entry = stop.entry;
  fault = stop.fault;
  legal = ap (λ s. then_after s (λ c. after_from p c (take stop.place es))) is ∙ same (take stop.place es) ∙ stop.legal;
  there = stop.there;
  refused = stop.refused;
})

goes : (p : Plan) (b : Board) (es : List Entry) → Goes p b es
goes p b [] = inl (b, refl)
goes p b (e ∷ es) = step (row p b e.worker e.event) refl (λ next. goes p next es)
  where
    step : (r : Row) → row p b e.worker e.event ≡ r → ((next : Board) → Goes p next es) → Goes p b (e ∷ es)
    step (Ok x) is later = goes_on p b x.0 e es (Ok x) is x.0 (λ k. refl) (later x.0)
    step (Err f) is later = inr (record { place = 0; board = b; entry = e; fault = f; legal = refl; there = refl; refused = is })

-- ---- a text loads, or it is told why not

abbrev IsOfText : LoadFault → Type 0
IsOfText LoadFault.NotJson = Unit {0}
IsOfText LoadFault.Version = Unit {0}
IsOfText (LoadFault.NotPlan path) = Unit {0}
IsOfText (LoadFault.NotEntry n) = Unit {0}
IsOfText LoadFault.Memory = ⊥

abbrev NeedsNoMemory : {A : Type 0} → Result A LoadFault → Type 0
NeedsNoMemory (Ok x) = Unit {0}
NeedsNoMemory (Err fault) = IsOfText fault

accepted_known : (p : Plan) (found : Option (List ℕ)) → NeedsNoMemory (accepted p found)
accepted_known p None = tt
accepted_known p (Some path) = tt

checked_known : (found : Reading Plan) → NeedsNoMemory (checked found)
checked_known (Ok p) = accepted_known p (plan_rules p)
checked_known (Err path) = tt

loaded_known : (found : Option Data) → NeedsNoMemory (loaded found)
loaded_known None = tt
loaded_known (Some d) = by (has_other_version d)
  where
    by : (other : Bool) → NeedsNoMemory (if other then Err LoadFault.Version else checked (plan_of d))
    by true = tt
    by false = checked_known (plan_of d)

load_known : (bytes : List ℕ) → NeedsNoMemory (load bytes)
load_known bytes = loaded_known (json_read bytes)

before_known : (n : ℕ) (found : Option Entry) (rest : Result (List Entry) LoadFault) → NeedsNoMemory rest → NeedsNoMemory (before_entries (on_line n found) rest)
before_known n None rest known = tt
before_known n (Some e) (Ok es) known = tt
before_known n (Some e) (Err fault) known = known

entries_known : (n : ℕ) (lines : List (List ℕ)) → NeedsNoMemory (load_entries n lines)
entries_known n [] = tt
entries_known n (line ∷ lines) = before_known n (line_entry line) (load_entries (suc n) lines) (entries_known (suc n) lines)

with_known : (plan : Result Plan LoadFault) (rest : Result (List Entry) LoadFault) → NeedsNoMemory plan → NeedsNoMemory rest → NeedsNoMemory (with_entries plan rest)
with_known (Ok p) (Ok es) known others = tt
with_known (Ok p) (Err fault) known others = others
with_known (Err fault) rest known others = known

lines_known : (lines : List (List ℕ)) → NeedsNoMemory (load_lines lines)
lines_known [] = tt
lines_known (line ∷ lines) = with_known (load line) (load_entries 2 lines) (load_known line) (entries_known 2 lines)

not_loaded : (text : List ℕ) (fault : LoadFault) → load_lines (lines_of text) ≡ Err fault → IsOfText fault → IsNotPlayed text (load_error fault)
not_loaded text LoadFault.NotJson is known = (is, tt)
not_loaded text LoadFault.Version is known = (is, tt)
not_loaded text (LoadFault.NotPlan path) is known = (is, tt)
not_loaded text (LoadFault.NotEntry n) is known = is
not_loaded text LoadFault.Memory is known = absurd known

-- ---- the answer

abbrev HasAnswer : List ℕ → Type 0
HasAnswer text = (status : ℕ) × (answer : Answer) × IsShownAnswer ShowsChanges status text answer

of_entries : (text : List ℕ) (p : Plan) (es : List Entry) → load_lines (lines_of text) ≡ Ok (p, es) → Goes p (new_board p) es → HasAnswer text
of_entries text p es loads (inl (last, leads)) =
    let shown = some_places p es last leads (length es) in (
      runs_status last,
      Ok shown.0,
      record { plan = p; entries = es; loads = loads; is = record { board = last; leads = leads; shows = shown.1; tells = refl } },
    )
of_entries text p es loads (inr stop) = (
  0,
  Err (CommandError.Refused (stop.place + 2) stop.fault),
  record {
    plan = p;
    entries = es;
    loads = loads;
    is = record {
      place = stop.place;
      board = stop.board;
      entry = stop.entry;
      legal = stop.legal;
      there = stop.there;
      refused = stop.refused;
      counted = refl;
    };
  },
)

pub some_answer : (text : List ℕ) → (status : ℕ) × (answer : Answer) × IsShownAnswer ShowsChanges status text answer
some_answer text = by (load_lines (lines_of text)) refl (lines_known (lines_of text))
  where
    by : (found : Result (Plan × List Entry) LoadFault) → load_lines (lines_of text) ≡ found → NeedsNoMemory found → HasAnswer text
    by (Ok both) is known = of_entries text both.0 both.1 is (goes both.0 (new_board both.0) both.1)
    by (Err fault) is known = (0, Err (load_error fault), not_loaded text fault is known)
