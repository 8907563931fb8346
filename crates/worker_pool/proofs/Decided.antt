-- Over a host that admits one answer at most to a call, one function gives the answers of two histories.
use Rattle.std.proofs.Common.{◌≡◌, ◌⊎◌, inl, inr, ℕ, zero, suc, ◌<◌, arith, ◌==◌, Bool, true, false, List, take, length, Option, Some, None, slice_get, refl, ap, subst, sym, ◌∙◌}
use Rattle.std.proofs.lemmas.Bool.{true≢false}
use Rattle.std.proofs.lemmas.Option.{slice_get_within}
use Rattle.status_table.specs.Words.{Answer, Entry, Event, Plan, StepCall, after, finished, open_call}
use Rattle.board_decisions.proofs.Lists.{no_some, same_some}
use Rattle.board_settled.specs.Agrees.{FinishesAsSettled, OnlyEndsDiffer}
use Rattle.board_settled.specs.Histories.{IsAnswered}
use Rattle.board_settled.specs.Settled.{Answers}
use Rattle.step_host.specs.Lawful.{IsAdmitted, EndsAdmitted, Lawful}
use Rattle.worker_pool.specs.Alone.{EndsAlone, EndsSo}
use Rattle.worker_pool.specs.Entries.{AdmitsOne}
use Rattle.worker_pool.specs.History.{is_cancel, NoCancel}
use Rattle.worker_pool.specs.Many.{EndsByMany}
use Rattle.worker_pool.specs.Settles.{IsDone, PlaysAgree, EachSettles}
use Rattle.worker_pool.specs.declared.played.Played.{Played}
use Rattle.worker_pool.proofs.Calls.{calls}

-- ---- the answers of a history

abbrev first_of : Option Answer → Option Answer → Option Answer
first_of (Some a) rest = Some a
first_of None rest = rest

-- the answer that an End gives to a call, if that is the one which it closes
abbrev if_one : {P : Type 0} → P ⊎ (P → ⊥) → Answer → Option Answer
if_one (inl h) a = Some a
if_one (inr differs) a = None

abbrev closes : Option StepCall → Answer → StepCall → Option Answer
closes None a call = None
closes (Some there) a call = if_one (calls there call) a

abbrev gives : (ℕ → Option StepCall) → Event → StepCall → Option Answer
gives made (Event.Open r) call = None
gives made (Event.Judge j) call = None
gives made (Event.Ask l) call = None
gives made (Event.Drop l) call = None
gives made (Event.Take l) call = None
gives made (Event.Begin l) call = None
gives made (Event.End l a) call = closes (made l) a call
gives made (Event.Finish l) call = None
gives made (Event.Close r) call = None
gives made (Event.Cancel r) call = None

abbrev if_there : (ℕ → Option StepCall) → Option Entry → StepCall → Option Answer
if_there made None call = None
if_there made (Some e) call = gives made e.event call

abbrev given_at : Plan → List Entry → StepCall → ℕ → Option Answer
given_at p es call k = if_there (open_call p (take k es)) (slice_get es k) call

abbrev given_below : Plan → List Entry → StepCall → ℕ → Option Answer
given_below p es call zero = None
given_below p es call (suc k) = first_of (given_at p es call k) (given_below p es call k)

abbrev given : Plan → List Entry → Answers
given p es call = given_below p es call (length es)

-- ---- each is admitted

abbrev Admitted : (StepCall → Answer → Type 0) → StepCall → Option Answer → Type 0
Admitted admits call o = (a : Answer) → o ≡ Some a → admits call a

none-admitted : (admits : StepCall → Answer → Type 0) (call : StepCall) → Admitted admits call None
none-admitted admits call a h = absurd (no_some a h)

closes-admitted : (admits : StepCall → Answer → Type 0) (there : Option StepCall) (a : Answer) (call : StepCall) → IsAdmitted admits there a
    → Admitted admits call (closes there a call)
closes-admitted admits None a call h = none-admitted admits call
closes-admitted admits (Some there) a call h = by (calls there call)
  where
    by : (told : (there ≡ call) ⊎ (there ≡ call → ⊥)) → Admitted admits call (if_one told a)
    by (inl same) b is = subst (λ (x : Answer). admits call x) (same_some a b is) (subst (λ (c : StepCall). admits c a) same h)
    by (inr differs) b is = absurd (no_some b is)

gives-admitted : (admits : StepCall → Answer → Type 0) (made : ℕ → Option StepCall) (e : Event) (call : StepCall) → EndsAdmitted admits made e
    → Admitted admits call (gives made e call)
gives-admitted admits made (Event.Open r) call h = none-admitted admits call
gives-admitted admits made (Event.Judge j) call h = none-admitted admits call
gives-admitted admits made (Event.Ask l) call h = none-admitted admits call
gives-admitted admits made (Event.Drop l) call h = none-admitted admits call
gives-admitted admits made (Event.Take l) call h = none-admitted admits call
gives-admitted admits made (Event.Begin l) call h = none-admitted admits call
gives-admitted admits made (Event.End l a) call h = closes-admitted admits (made l) a call h
gives-admitted admits made (Event.Finish l) call h = none-admitted admits call
gives-admitted admits made (Event.Close r) call h = none-admitted admits call
gives-admitted admits made (Event.Cancel r) call h = none-admitted admits call

at-admitted : (admits : StepCall → Answer → Type 0) (p : Plan) (es : List Entry) → Lawful admits p es → (call : StepCall) (k : ℕ)
    → Admitted admits call (given_at p es call k)
at-admitted admits p es lawful call k = by (slice_get es k) refl
  where
    by : (o : Option Entry) → slice_get es k ≡ o → Admitted admits call (if_there (open_call p (take k es)) o call)
    by None is = none-admitted admits call
    by (Some e) is = gives-admitted admits (open_call p (take k es)) e.event call (lawful.admitted k e is)

first-admitted : (admits : StepCall → Answer → Type 0) (call : StepCall) (o rest : Option Answer) → Admitted admits call o → Admitted admits call rest
    → Admitted admits call (first_of o rest)
first-admitted admits call None rest h k = k
first-admitted admits call (Some a) rest h k = h

below-admitted : (admits : StepCall → Answer → Type 0) (p : Plan) (es : List Entry) → Lawful admits p es → (call : StepCall) (k : ℕ)
    → Admitted admits call (given_below p es call k)
below-admitted admits p es lawful call zero = none-admitted admits call
below-admitted admits p es lawful call (suc k) =
    first-admitted admits call (given_at p es call k) (given_below p es call k) (at-admitted admits p es lawful call k)
    (below-admitted admits p es lawful call k)

-- ---- and each is found

abbrev IsThere : Option Answer → Type 0
IsThere None = ⊥
IsThere (Some a) = Unit {0}

there_first : (o rest : Option Answer) → IsThere o ⊎ IsThere rest → IsThere (first_of o rest)
there_first None rest (inl h) = absurd h
there_first None rest (inr h) = h
there_first (Some a) rest h = tt

found_next : (p : Plan) (es : List Entry) (call : StepCall) (n k : ℕ) → k < suc n → IsThere (given_at p es call k)
    → (k < n → IsThere (given_below p es call n)) → IsThere (given_below p es call (suc n))
found_next p es call n k less h lower = by (k == n) refl
  where
    by : (t : Bool) → (k == n) ≡ t → IsThere (given_below p es call (suc n))
    by true e =
        let same : k ≡ n = grind (arith, e) in
        there_first (given_at p es call n) (given_below p es call n) (inl (subst (λ (m : ℕ). IsThere (given_at p es call m)) same h))
    by false e =
        let less_still : k < n = grind (arith, e, less) in
        there_first (given_at p es call n) (given_below p es call n) (inr (lower less_still))

found_below : (p : Plan) (es : List Entry) (call : StepCall) (n k : ℕ) → k < n → IsThere (given_at p es call k) → IsThere (given_below p es call n)
found_below p es call zero k less h = absurd (omega (arith, less))
found_below p es call (suc n) k less h = found_next p es call n k less h (λ lower. found_below p es call n k lower h)

closes_there : (call : StepCall) (a : Answer) → IsThere (closes (Some call) a call)
closes_there call a = by (calls call call)
  where
    by : (told : (call ≡ call) ⊎ (call ≡ call → ⊥)) → IsThere (if_one told a)
    by (inl h) = tt
    by (inr differs) = absurd (differs refl)

-- the End at a place gives its call an answer
end_found : (p : Plan) (es : List Entry) (call : StepCall) (k : ℕ) (e : Entry) (l : ℕ) (a : Answer) → slice_get es k ≡ Some e
    → e.event ≡ Event.End l a → open_call p (take k es) l ≡ Some call → IsThere (given p es call)
end_found p es call k e l a at is made =
    found_below p es call (length es) k within
    (subst (λ (o : Option Entry). IsThere (if_there (open_call p (take k es)) o call)) (sym at)
    (subst (λ (v : Event). IsThere (gives (open_call p (take k es)) v call)) (sym is)
    (subst (λ (o : Option StepCall). IsThere (closes o a call)) (sym made) (closes_there call a))))
  where
    within : k < length es
    within = slice_get_within es k e at

-- what is there and admitted is the one answer
is_one : (admits : StepCall → Answer → Type 0) → AdmitsOne admits → (call : StepCall) (a : Answer) → admits call a → (o : Option Answer) → IsThere o
    → Admitted admits call o → o ≡ Some a
is_one admits one call a h None there admitted = absurd there
is_one admits one call a h (Some b) there admitted = ap (λ (x : Answer). Some x) (one call b a (admitted b refl) h)

-- ---- two histories

abbrev either : Plan → List Entry → List Entry → Answers
either p es other call = first_of (given p es call) (given p other call)

either-admitted : (admits : StepCall → Answer → Type 0) (p : Plan) (es other : List Entry) → Lawful admits p es → Lawful admits p other → (call : StepCall)
    → Admitted admits call (either p es other call)
either-admitted admits p es other lawful lawful' call =
    first-admitted admits call (given p es call) (given p other call) (below-admitted admits p es lawful call (length es))
    (below-admitted admits p other lawful' call (length other))

-- the entries of a list are answered so, where what it gives is found
answered : (admits : StepCall → Answer → Type 0) → AdmitsOne admits → (answers : Answers) → ((call : StepCall) → Admitted admits call (answers call))
    → (p : Plan) (es : List Entry) → Lawful admits p es → NoCancel es → ((call : StepCall) → IsThere (given p es call) → IsThere (answers call))
    → (k : ℕ) (e : Entry) → slice_get es k ≡ Some e → IsAnswered answers (open_call p (take k es)) e.event
answered admits one answers admitted p es lawful quiet wider k e at = by e.event refl
  where
    by : (v : Event) → e.event ≡ v → IsAnswered answers (open_call p (take k es)) v
    by (Event.Open r) is = tt
    by (Event.Judge j) is = tt
    by (Event.Ask l) is = tt
    by (Event.Drop l) is = tt
    by (Event.Take l) is = tt
    by (Event.Begin l) is = tt
    by (Event.End l a) is = λ call made.
        is_one admits one call a
        (subst (λ (o : Option StepCall). IsAdmitted admits o a) made
        (subst (EndsAdmitted admits (open_call p (take k es))) is (lawful.admitted k e at)))
        (answers call) (wider call (end_found p es call k e l a at is made)) (admitted call)
    by (Event.Finish l) is = tt
    by (Event.Close r) is = tt
    by (Event.Cancel r) is = absurd (true≢false (sym (ap is_cancel is) ∙ quiet k e at))

-- ---- plays

-- a play that is Done has such a history
record HasDone (admits : StepCall → Answer → Type 0) (p : Plan) (played : Played) : Type 0 where
  lawful : Lawful admits p played.history
  quiet : NoCancel played.history
  leads : after p played.history ≡ Some played.left.board
  done : finished played.left.board ≡ true

has_done : (admits : StepCall → Answer → Type 0) (p : Plan) (played : Played) → IsDone admits p played → HasDone admits p played
has_done admits p played h = by h.ends
  where
    by : EndsAlone admits p played ⊎ ((workers : ℕ) × EndsByMany admits p workers played) → HasDone admits p played
    by (inl alone) = record {
      lawful = alone.history.lawful;
      quiet = alone.history.uncancelled;
      leads = alone.leads;
      done = subst (EndsSo p played.left.board) h.done alone.ends;
    }
    by (inr many) = record {
      lawful = many.1.history.lawful;
      quiet = many.1.history.uncancelled;
      leads = many.1.leads;
      done = subst (EndsSo p played.left.board) h.done many.1.ends;
    }

pub plays_agree : OnlyEndsDiffer → (admits : StepCall → Answer → Type 0) → PlaysAgree admits
plays_agree law admits p one other rules free single h h' =
    let d = has_done admits p one h in
    let d' = has_done admits p other h' in
    let answers = either p one.history other.history in
    let admitted = either-admitted admits p one.history other.history d.lawful d'.lawful in
    law p rules free answers one.history other.history one.left.board other.left.board
    (record {
      leads = d.leads;
      answered = answered admits single answers admitted p one.history d.lawful d.quiet
          (λ call there. there_first (given p one.history call) (given p other.history call) (inl there));
    })
    (record {
      leads = d'.leads;
      answered = answered admits single answers admitted p other.history d'.lawful d'.quiet
          (λ call there. there_first (given p one.history call) (given p other.history call) (inr there));
    })
    d.done d'.done

pub each_settles : FinishesAsSettled → (admits : StepCall → Answer → Type 0) → EachSettles admits
each_settles law admits p played rules free single h =
    let d = has_done admits p played h in
    let answers = given p played.history in
    let admitted : (call : StepCall) → Admitted admits call (answers call) =
    λ call. below-admitted admits p played.history d.lawful call (length played.history) in
    record {
      answers = answers;
      admitted = λ call answer is. admitted call answer is;
      settles = law p rules free answers played.history played.left.board
          (record {
            leads = d.leads;
            answered = answered admits single answers admitted p played.history d.lawful d.quiet (λ call there. there);
          })
          d.done;
    }
