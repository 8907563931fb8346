-- The places of a record are told in one way.
use Rattle.std.proofs.Common.{◌≡◌, ℕ, zero, suc, inl, inr, List, [], ◌∷◌, ◌++◌, Some, Result, Ok, length, take, ap, sym, subst, ◌∙◌}
use Rattle.status_table.specs.Words.{Board, Entry, Job, Leg, Plan, Run}
use Rattle.plan_text.specs.BoardText.{job_line, run_line}
use Rattle.plan_text.specs.Changes.{IsSameLeg, IsSameRun, TellsBoth, TellsChanges, TellsEach, TellsJob, TellsJobs, TellsLeg, TellsLegs, TellsRun, ToldUnless, after_job, after_leg, after_run, later_ends, leg_change}
use Rattle.plan_text.specs.declared.fault.LoadFault.{LoadFault}
use Rattle.command_io.specs.Runs.{runs_status}
use Rattle.command_print.specs.Changes.{AreTold, ShowsChanges, TellsNext, TellsPlace, TellsPlaces, place_line}
use Rattle.command_print.specs.Replay.{LeadsTo}

-- only one text is so
abbrev IsOne : (List ℕ → Type 0) → Type 0
IsOne Is = (a b : List ℕ) → Is a → Is b → a ≡ b

one_unless : (Same : Type 0) (words : List ℕ) → IsOne (ToldUnless Same words)
one_unless Same words a b (inl (is, x)) (inl (is', y)) = x ∙ sym y
one_unless Same words a b (inl (is, x)) (inr (not, y)) = absurd (not is)
one_unless Same words a b (inr (not, x)) (inl (is, y)) = absurd (not is)
one_unless Same words a b (inr (not, x)) (inr (not', y)) = x ∙ sym y

one_both : (First Then : List ℕ → Type 0) → IsOne First → IsOne Then → IsOne (TellsBoth First Then)
one_both First Then f t a b (one, later, first, next, is) (one', later', first', next', is') =
    is ∙ (λ i. f one one' first first' i ++ t later later' next next' i) ∙ sym is'

one_each : {N X : Type 0} (after : N → X → N) (Tells : N → X → X → List ℕ → Type 0) → ((n : N) (was x : X) → IsOne (Tells n was x))
    → (n : N) (before xs : List X) → IsOne (TellsEach after Tells n before xs)
one_each after Tells one n before [] a b x y = x ∙ sym y
one_each after Tells one n [] (z ∷ xs) a b x y = x ∙ sym y
one_each after Tells one n (was ∷ before) (z ∷ xs) a b x y =
    one_both (Tells n was z) (TellsEach after Tells (after n z) before xs) (one n was z) (one_each after Tells one (after n z) before xs) a b x y

one_leg : (l : ℕ) (before leg : Leg) → IsOne (TellsLeg l before leg)
one_leg l before leg = one_unless (IsSameLeg before leg) (leg_change l before leg)

one_job : (n : ℕ × ℕ) (before job : Job) → IsOne (TellsJob n before job)
one_job n before job =
    one_both (ToldUnless (before.state ≡ job.state) (job_line n.0 job)) (TellsLegs n.1 before.legs job.legs)
    (one_unless (before.state ≡ job.state) (job_line n.0 job)) (one_each after_leg TellsLeg one_leg n.1 before.legs job.legs)

one_run : (n : ℕ × (ℕ × ℕ)) (before run : Run) → IsOne (TellsRun n before run)
one_run n before run =
    one_both (ToldUnless (IsSameRun before run) (run_line n.0 run)) (TellsJobs n.1 before.jobs run.jobs)
    (one_unless (IsSameRun before run) (run_line n.0 run)) (one_each after_job TellsJob one_job n.1 before.jobs run.jobs)

one_changes : (before board : Board) → IsOne (TellsChanges before board)
one_changes before board a b (runs, told, is) (runs', told', is') =
    is ∙ ap (λ (l : List ℕ). l ++ later_ends before.ends board.ends)
    (one_each after_run TellsRun one_run (0, (0, 0)) before.runs board.runs runs runs' told told') ∙ sym is'

one_place : (k : ℕ) (before board : Board) → IsOne (TellsPlace k before board)
one_place k before board a b (changes, told, is) (changes', told', is') =
    is ∙ ap (λ (l : List ℕ). place_line k ++ l) (one_changes before board changes changes' told told') ∙ sym is'

one_board : (p : Plan) (es : List Entry) (x y : Board) → LeadsTo p es x → LeadsTo p es y → x ≡ y
one_board p es x y leads leads' = same (sym leads ∙ leads')
  where
    same : Some x ≡ Some y → x ≡ y
    same is = cc

one_next : (p : Plan) (es : List Entry) (k : ℕ) → IsOne (TellsNext p es k)
one_next p es k a b (x, y, before, leads, told) (x', y', before', leads', told') =
    let same-before = one_board p (take k es) x' x before' before in
    let same = one_board p (take (suc k) es) y' y leads' leads in
    one_place (suc k) x y a b told (subst (λ (two : Board × Board). TellsPlace (suc k) two.0 two.1 b) (λ i. (same-before i, same i)) told')

one_places : (p : Plan) (es : List Entry) (k : ℕ) → IsOne (TellsPlaces p es k)
one_places p es zero a b x y = x ∙ sym y
one_places p es (suc k) a b x y = one_both (TellsPlaces p es k) (TellsNext p es k) (one_places p es k) (one_next p es k) a b x y

-- a text is read in one way
abbrev Read : Type 0
Read = Result (Plan × List Entry) LoadFault

one_record : (x y : Plan × List Entry) (found : Read) → found ≡ Ok x → found ≡ Ok y → x ≡ y
one_record x y found is is' = cc

one_telling : (p : Plan) (es : List Entry) (a b : List ℕ) (s t : ℕ) → AreTold a s p es → AreTold b t p es → (a ≡ b) × (s ≡ t)
one_telling p es a b s t x y =
    let same = one_board p es x.board y.board x.leads y.leads in
    (one_places p es (length es) a b x.shows y.shows, x.tells ∙ ap runs_status same ∙ sym y.tells)

pub one_text : (text a b : List ℕ) (s t : ℕ) → ShowsChanges text a s → ShowsChanges text b t → (a ≡ b) × (s ≡ t)
one_text text a b s t x y =
    let same = one_record (y.plan, y.entries) (x.plan, x.entries) _ y.loads x.loads in
    one_telling x.plan x.entries a b s t x.is (subst (λ (both : Plan × List Entry). AreTold b t both.0 both.1) same y.is)
