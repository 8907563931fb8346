-- A log, one entry more.
use Rattle.std.proofs.Common.{◌≡◌, ℕ, zero, suc, List, [], ◌∷◌, ◌++◌, Ok, length, append-nil, refl, ap, ◌∙◌, arith}
use Rattle.status_table.specs.Words.{Answer, Entry, Event, Reply, StepCall}
use Rattle.locked_board.specs.Clerk.{Clerks}
use Rattle.locked_board.specs.Course.{Course, IsPosted}
use Rattle.locked_board.specs.declared.clerk.Clerk.{Clerk}
use Rattle.locked_board.proofs.Firsts.{first_posted}
use Rattle.worker_pool.specs.Log.{with_answer, answers_of, AreAdmitted, Answered, HasSameCalls}
use Rattle.worker_pool.specs.Logs.{AreAnswered}
use Rattle.worker_pool.specs.declared.log.Log.{Log}

with_more : (e : Event) (xs ys : List Answer) → with_answer e (xs ++ ys) ≡ with_answer e xs ++ ys
with_more (Event.Open r) xs ys = refl
with_more (Event.Judge j) xs ys = refl
with_more (Event.Ask l) xs ys = refl
with_more (Event.Drop l) xs ys = refl
with_more (Event.Take l) xs ys = refl
with_more (Event.Begin l) xs ys = refl
with_more (Event.End l a) xs ys = refl
with_more (Event.Finish l) xs ys = refl
with_more (Event.Close r) xs ys = refl
with_more (Event.Cancel r) xs ys = refl

-- one entry more adds its answer
pub one_more_answer : (es : List Entry) (e : Entry) → answers_of (es ++ e ∷ []) ≡ answers_of es ++ with_answer e.event []
one_more_answer [] e = refl
one_more_answer (x ∷ es) e = ap (with_answer x.event) (one_more_answer es e) ∙ with_more x.event (answers_of es) (with_answer e.event [])

-- an event that is posted has none
pub posted_ends_none : (e : Event) → IsPosted e → with_answer e [] ≡ []
posted_ends_none (Event.Open r) h = refl
posted_ends_none (Event.Judge j) h = refl
posted_ends_none (Event.Ask l) h = refl
posted_ends_none (Event.Drop l) h = refl
posted_ends_none (Event.Take l) h = refl
posted_ends_none (Event.Begin l) h = absurd h
posted_ends_none (Event.End l a) h = absurd h
posted_ends_none (Event.Finish l) h = refl
posted_ends_none (Event.Close r) h = refl
posted_ends_none (Event.Cancel r) h = refl

-- one answer more, and the call for which it is admitted
pub admitted_more : (admits : StepCall → Answer → Type 0) (xs : List Answer) (calls : List StepCall) (a : Answer) (call : StepCall) → AreAdmitted admits xs calls
    → admits call a → AreAdmitted admits (xs ++ a ∷ []) (calls ++ call ∷ [])
admitted_more admits [] [] a call h is = (is, tt)
admitted_more admits [] (c ∷ calls) a call h is = absurd h
admitted_more admits (x ∷ xs) [] a call h is = absurd h
admitted_more admits (x ∷ xs) (c ∷ calls) a call h is = (h.0, admitted_more admits xs calls a call h.1 is)

-- the logs of one worker more
pub answered_more : (admits : StepCall → Answer → Type 0) (entries : List (List Entry)) (calls : List (List StepCall)) (log : List Entry) (more : List StepCall)
    → length entries ≡ length calls → AreAnswered admits entries calls → Answered admits log more → AreAnswered admits (entries ++ log ∷ []) (calls ++ more ∷ [])
answered_more admits [] [] log more same all is zero within = is
answered_more admits [] [] log more same all is (suc w) within = absurd (omega (arith, within))
answered_more admits [] (c ∷ calls) log more same all is w within = absurd (omega (arith, same))
answered_more admits (e ∷ entries) [] log more same all is w within = absurd (omega (arith, same))
answered_more admits (e ∷ entries) (c ∷ calls) log more same all is zero within = all zero (omega arith)
answered_more admits (e ∷ entries) (c ∷ calls) log more same all is (suc w) within =
    answered_more admits entries calls log more (omega (arith, same)) (λ k below. all (suc k) (omega (arith, below))) is w (omega (arith, within))

-- an event that ends no call adds no answer
pub logs_none : (old mid new : Log) (e : Event) → HasSameCalls old mid → answers_of new.entries.items ≡ answers_of mid.entries.items ++ with_answer e []
    → new.calls.items ≡ mid.calls.items → with_answer e [] ≡ [] → HasSameCalls old new
logs_none old mid new e same more calls none =
    (more ∙ ap (λ xs. answers_of mid.entries.items ++ xs) none ∙ append-nil (answers_of mid.entries.items) ∙ same.0, calls ∙ same.1)

-- so does no move of a clerk
pub moved_ends_none : (old new : Course) (worker : ℕ) (e : Event) (reply : Reply) → Clerks old worker (Ok (Clerk.Moved e reply)) new → with_answer e [] ≡ []
moved_ends_none old new worker e reply h = posted_ends_none e (first_posted old.plan old.board e h.0.0 h.0.1)
