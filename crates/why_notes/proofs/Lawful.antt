-- The laws of what an entry makes so.
use Rattle.std.proofs.Common.{◌≡◌, ℕ, suc, Bool, true, false, List, [], ◌∷◌, Some, Result, Ok, Err, refl, sym, ap, ◌∙◌, if◌then◌else◌}
use Rattle.status_table.specs.Words.{Board, Entry, JobState, Plan, Row, RunState, Status, ValueFault, after_from, first_of, job_condition, job_status, judged_state, judgement_by, needs_have_ended, new_board, row, then_after}
use Rattle.why_facts.specs.declared.notes.Notes.{Notes}
use Rattle.why_notes.proofs.Accounts.{board_of}
use Rattle.why_notes.specs.Account.{Account, account_from, entry_noted, then_account}
use Rattle.why_notes.specs.Changes.{judged, judged_under}
use Rattle.why_notes.specs.Conditions.{waits_in_vain}
use Rattle.why_notes.specs.Laws.{AccountsFollowTheTable, JobsAreJudgedAsTold, judged_to}
use Rattle.status_table.specs.declared.fault.EventFault.{EventFault}

-- ---- the board of an account

follows : (line : ℕ) (p : Plan) (b : Board) (notes : Notes) (es : List Entry) (a : Account)
    → account_from line p b notes es ≡ Some a → after_from p b es ≡ Some a.board
unfolding board_of
follows line p b notes [] a h = ap board_of h
follows line p b notes (e ∷ es) a h = step (row p b e.worker e.event) (λ next k. follows (suc line) p next (entry_noted line p b notes e) es a k) h
  where
    step : (r : Row) → ((next : Board) → account_from (suc line) p next (entry_noted line p b notes e) es ≡ Some a → after_from p next es ≡ Some a.board)
        → then_account r (λ next. account_from (suc line) p next (entry_noted line p b notes e) es) ≡ Some a
        → then_after r (λ next. after_from p next es) ≡ Some a.board
    step (Ok x) later k = later x.0 k
    step (Err f) later k = cc

pub accounts_follow_the_table : AccountsFollowTheTable
accounts_follow_the_table p es a h = follows 2 p (new_board p) _ es a h

-- ---- Judge

shut : (stop vain : Bool) (holds : Result Bool ValueFault) → judged_state stop holds ≡ judged_to (judged stop vain holds)
shut stop vain (Ok true) = refl
shut true vain (Ok false) = refl
shut false true (Ok false) = refl
shut false false (Ok false) = refl
shut stop vain (Err fault) = refl

same : (s t : JobState) (r : Result JobState EventFault) → r ≡ Ok s → r ≡ Ok t → s ≡ t
same s t r one other = cc

pub jobs_are_judged_as_told : JobsAreJudgedAsTold
jobs_are_judged_as_told j at state h = by_states at.run.state at.job.state refl h
  where
    status : Status
    status = job_status (first_of j at) at

    fact : judged_state at.run.stop (job_condition at status) ≡ judged_to (judged_under at status)
    fact = shut at.run.stop (waits_in_vain at.plan.condition status) (job_condition at status)

    ready : (ended : Bool)
        → (if ended then Ok (judged_state at.run.stop (job_condition at status)) else Err EventFault.NeedsOpen) ≡ Ok state
        → state ≡ judged_to (judged_under at status)
    ready true k = sym (same (judged_state at.run.stop (job_condition at status)) state (Ok (judged_state at.run.stop (job_condition at status))) refl k) ∙ fact
    ready false k = cc

    by_states : (run : RunState) (job : JobState) → at.job.state ≡ job → judgement_by j at run job ≡ Ok state
        → (at.job.state ≡ JobState.Unjudged) × (state ≡ judged_to (judged_under at status))
    by_states RunState.Going JobState.Unjudged is k = (is, ready (needs_have_ended (first_of j at) at.run at.plan) k)
    by_states RunState.Going JobState.Open is k = cc
    by_states RunState.Going (JobState.Shut result) is k = cc
    by_states RunState.New job is k = cc
    by_states RunState.Waiting job is k = cc
    by_states (RunState.Closed result) job is k = cc
