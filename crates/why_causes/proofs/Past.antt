-- The boards about an entry of a record, and how a job stands on both.
use Rattle.std.proofs.Common.{◌≡◌, ◌∙◌, ap, sym, true, ℕ, suc, arith, List, [], ◌∷◌, Some, Ok, Err, slice_get}
use Rattle.std.proofs.lemmas.Option.{slice_get_within}
use Rattle.status_table.specs.Words.{Board, Entry, InPlay, IsPlan, Job, JobFits, JobPlan, JobStays, Plan, Row, Run, RunFits, RunPlan, RunStays, SoundPlan, Stays, after, after_from, new_board, row}
use Rattle.board_decisions.proofs.Lists.{same_some}
use Rattle.why_causes.proofs.MetFirst.{get_within}
use Rattle.why_causes.proofs.Telling.{told_still}
use Rattle.why_causes.specs.Made.{MadeAt}
use Rattle.why_facts.specs.declared.fact.Change.{Change}
use Rattle.why_facts.specs.declared.notes.Notes.{Notes}
use Rattle.why_notes.proofs.Lawful.{accounts_follow_the_table}
use Rattle.why_notes.specs.Account.{Account, account_from, account_of, entry_noted, then_account}
use Rattle.status_table.proofs.Counts.{zip-left}
use Rattle.status_table.proofs.Lawfulness.{after_reaches, legal_lawful}
use Rattle.status_table.proofs.Legal.{after_fits}
use Rattle.status_table.proofs.Lists.{zip-get, zip-length}
use Rattle.status_table.proofs.RunsLemmas.{after_from-append}

pub same_plan : (line : ℕ) (p : Plan) (b : Board) (notes : Notes) (es : List Entry) (a : Account) → account_from line p b notes es ≡ Some a → a.plan ≡ p
same_plan line p b notes [] a h = ap (λ (x : Account). x.plan) (sym (same_some (record { plan = p; board = b; notes = notes }) a h))
same_plan line p b notes (e ∷ es) a h = step (row p b e.worker e.event) (λ next k. same_plan (suc line) p next (entry_noted line p b notes e) es a k) h
  where
    step : (r : Row) → ((next : Board) → account_from (suc line) p next (entry_noted line p b notes e) es ≡ Some a → a.plan ≡ p)
        → then_account r (λ next. account_from (suc line) p next (entry_noted line p b notes e) es) ≡ Some a → a.plan ≡ p
    step (Ok x) later k = later x.0 k
    step (Err f) later k = cc

-- the board before an entry beside the last one
pub record Past (p : Plan) (old last : Board) : Type 0 where
  pub before : InPlay p old
  pub now : InPlay p last
  pub since : Stays old last
  pub told : (r : ℕ) (run late : Run) → slice_get old.runs r ≡ Some run → slice_get last.runs r ≡ Some late → run.stop ≡ true → late.stop ≡ true

pub past : (p : Plan) (es : List Entry) (a : Account) (line : ℕ) (c : Change) → IsPlan p → SoundPlan p → account_of p es ≡ Some a → (m : MadeAt p es line c)
    → Past p m.old a.board
past p es a line c rules sound account m =
    record {
      before = in_play m.before m.old m.played;
      now = in_play es a.board played;
      since = (after_reaches p m.old a.board (m.entry ∷ m.rest) (after_fits p m.before m.old m.played) (legal_lawful p sound m.before m.old m.played) goes_on).stays;
      told = told_still p es a line c account m;
    }
  where
    in_play : (before : List Entry) (b : Board) → after p before ≡ Some b → InPlay p b
    in_play before b h =
        let fits = after_fits p before b h in record { rules = rules; shape = fits.shape; ends = fits.ends; laws = legal_lawful p sound before b h }

    played : after p es ≡ Some a.board
    played = accounts_follow_the_table p es a account

    goes_on : after_from p m.old (m.entry ∷ m.rest) ≡ Some a.board
    goes_on =
        sym (after_from-append p (new_board p) m.old m.before (m.entry ∷ m.rest) m.played)
        ∙ ap (λ (xs : List Entry). after_from p (new_board p) xs) (sym m.there)
        ∙ accounts_follow_the_table p es a account

-- a job at a place of a run, on a board and on a later one
pub record Beside (plan : RunPlan) (a b : Run) (k : ℕ) (x : Job) : Type 0 where
  pub job : Job
  pub planned : JobPlan
  pub there : slice_get b.jobs k ≡ Some job
  pub is_planned : slice_get plan.jobs k ≡ Some planned
  pub stays : JobStays a b x job
  pub old : JobFits a.state a.group planned x
  pub new : JobFits b.state b.group planned job

pub beside : (plan : RunPlan) (a b : Run) (k : ℕ) (x : Job) → slice_get a.jobs k ≡ Some x → RunStays a b → RunFits plan a → RunFits plan b → Beside plan a b k x
beside plan a b k x is stays old new =
    let size = zip-length (JobStays a b) a.jobs b.jobs stays.jobs in
    let less = slice_get_within a.jobs k x is in
    let later = get_within b.jobs k (omega (arith, size, less)) in
    let planned = zip-left (JobFits a.state a.group) plan.jobs a.jobs k x is old in
    record {
      job = later.0;
      planned = planned.0;
      there = later.1;
      is_planned = planned.1;
      stays = zip-get (JobStays a b) a.jobs b.jobs k x later.0 is later.1 stays.jobs;
      old = planned.2;
      new = zip-get (JobFits b.state b.group) plan.jobs b.jobs k planned.0 later.0 planned.1 later.1 new;
    }
