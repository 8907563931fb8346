-- Entries whose reply nobody asks for.
use Rattle.std.proofs.Common.{◌≡◌, ◌==◌, ℕ, ℤ, pos, Bool, true, not, List, [], ◌∷◌, length, Option, Some, None, Result, Ok, Err, if◌then◌else◌, refl, ap, sym, subst, ◌∙◌, arith}
use Rattle.std.proofs.lemmas.Bool.Decides.{nat_tests}
use Rattle.status_table.specs.Words.{Answer, Beginning, Board, Entry, Leads, LegAt, LegState, Outcome, Plan, Plays, Refuses, Reply, Row, StepCall, ValueFault, calling_owner, decided, ending, ending_by, failed_step, is_called, leg_state_set, skipped_step, step_done, then_after, without_reply}
use Rattle.status_table.specs.Answers.{Answers, AnswersEntry, Decides}
use Rattle.status_table.specs.Seen.{ended_step}
use Rattle.status_table.specs.Unasked.{begins_by, begins_of, begins_called}
use Rattle.status_table.specs.declared.fault.EventFault.{EventFault}
use Rattle.status_table.specs.declared.unasked.Begins.{Begins}

decided_is : (d : Result (Option StepCall) ValueFault) → begins_called (is_called d) ≡ begins_of (decided d)
decided_is (Ok None) = refl
decided_is (Ok (Some call)) = refl
decided_is (Err f) = refl

-- A step that is begun by whether it is called is begun as it is decided.
pub begins_as_decided : (x : Result Beginning EventFault) (d : Result (Option StepCall) ValueFault) (result : Result Begins EventFault)
    → x ≡ Ok (decided d) → Decides (Ok (begins_called (is_called d))) result → Decides (begins_by x) result
begins_as_decided x d result is told =
    subst (λ (y : Result Beginning EventFault). Decides (begins_by y) result) (sym is)
    (subst (λ (k : Begins). Decides (Ok k) result) (decided_is d) told)

-- A step that is called is begun by its call.
pub begins_calling : (x : Result Beginning EventFault) (d : Result (Option StepCall) ValueFault) → x ≡ Ok (decided d) → is_called d ≡ Ok true → begins_by x ≡ Ok Begins.Calls
begins_calling x d is called = begins_as_decided x d (Ok Begins.Calls) is (ap (λ (v : Result Bool ValueFault). Ok (begins_called v)) called)

no_pairs : (pairs : List (List ℕ × List ℕ)) → (length pairs == 0) ≡ true → pairs ≡ []
no_pairs [] none = refl
no_pairs (pair ∷ pairs) none = absurd (grind (arith, nat_tests))

-- An exit that leaves nothing behind.
pub bare_exit : (code : ℤ) (outputs env : List (List ℕ × List ℕ)) → code ≡ pos 0 → (length outputs == 0) ≡ true → (length env == 0) ≡ true
    → Answer.Exit code outputs env ≡ Answer.Exit (pos 0) [] []
bare_exit code outputs env is no_outputs no_env = λ i. Answer.Exit (is i) (no_pairs outputs no_outputs i) (no_pairs env no_env i)

is_itself : (n : ℕ) → (n == n) ≡ true
is_itself n = grind arith

-- It ends the call of a leg by its worker with success.
pub bare_ends : (worker : ℕ) (at : LegAt) (a : Answer) → calling_owner at.leg.state ≡ Some worker → a ≡ Answer.Exit (pos 0) [] []
    → ending worker at a ≡ Ok (ended_step (Outcome.Success, Outcome.Success) a)
bare_ends worker at a in_call is =
    subst (λ (b : Answer). ending worker at b ≡ Ok (ended_step (Outcome.Success, Outcome.Success) b)) (sym is)
    (ap (ending_by worker at (Answer.Exit (pos 0) [] [])) in_call
    ∙ ap (λ (same : Bool). if not same then Err EventFault.OtherWorker else Ok (ended_step (Outcome.Success, Outcome.Success) (Answer.Exit (pos 0) [] []))) (is_itself worker))

-- What is refused is refused without a reply.
pub refused_unasked : (x : Result Beginning EventFault) (f : EventFault) → Refuses x f → Refuses (begins_by x) f
refused_unasked x EventFault.Memory h = tt
refused_unasked x f h = ap begins_by h

-- the board after a step of a leg was begun by its worker
abbrev pub begun_board : Board → ℕ → LegAt → Begins → Board
begun_board b worker at Begins.Calls = leg_state_set b at.place (LegState.Running worker true)
begun_board b worker at Begins.Skips = step_done b at.place worker skipped_step
begun_board b worker at Begins.Faults = step_done b at.place worker (failed_step at)

-- the board after a step was begun, if it was
abbrev begun : Board → ℕ → LegAt → Result Begins EventFault → Option Board
begun b worker at (Ok k) = Some (begun_board b worker at k)
begun b worker at (Err f) = None

-- It is what is left of an answer whose reply nobody asked for.
pub record IsLeftOf (r : Row) (old : Board) (result : Result (Unit {0}) EventFault) (new : Board) : Type 0 where
  pub answer : Result Reply EventFault
  pub answers : Answers r old answer new
  pub same : result ≡ without_reply answer

-- What leads to the row's board is left of an answer.
pub left_of : (r : Row) (old : Board) (result : Result (Unit {0}) EventFault) (new : Board) → Leads r old result new → IsLeftOf r old result new
left_of (Ok x) old (Ok done) new h = record { answer = Ok x.1; answers = ap Ok (λ i. (board_is i, x.1)); same = refl }
  where
    board_is : x.0 ≡ new
    board_is = cc
left_of (Err f) old (Ok done) new h = absurd (cc)
left_of r old (Err f) new h = record { answer = Err f; answers = h; same = refl }

-- What is left of an entry's answer plays it.
pub left_plays : (p : Plan) (old : Board) (e : Entry) (answer : Result Reply EventFault) (new : Board) → AnswersEntry p old e answer new → Plays p old e (without_reply answer) new
left_plays p old e (Ok reply) new h = ap (λ (r : Row). then_after r (λ next. Some next)) h
left_plays p old e (Err f) new h = h
