-- Each list of entries leads to a board that is played as settled.
use Rattle.std.proofs.Common.{◌≡◌, ℕ, suc, List, [], ◌∷◌, Option, Some, None, Ok, Err, take, slice_get, nat_le, subst, refl}
use Rattle.board_settled.specs.Words.{Answers, Board, Entry, Event, EventFault, IsAnswered, Plan, Row, StepCall, after_from, call_after, call_from, event_row, job_at, leg_at, row, run_at, then_after, then_call}
use Rattle.status_table.specs.Row as rows
use Rattle.status_table.proofs.Entering.{Leads}
use Rattle.status_table.proofs.Keeps.{Keeps, row_keeps}
use Rattle.board_decisions.proofs.Lists.{same_some, no_some}
use Rattle.status_table.proofs.Rows.{row_leads}
use Rattle.board_settled.proofs.Begins.{either}
use Rattle.board_settled.proofs.Played.{Stands, IsFit}
use Rattle.board_settled.proofs.LegEvents.{Goes, ask_goes, drop_goes, take_goes, begin_goes, end_goes, finish_goes}
use Rattle.board_settled.proofs.RunEvents.{open_goes, close_goes, judge_goes}

-- ---- one entry

module _ (p : Plan) (fit : IsFit p) (answers : Answers) (calls : ℕ → Option StepCall) (b : Board) (stands : Stands p answers calls b) (worker : ℕ) where
  -- where what an event names is found, its row goes on; else the event is refused
  found-goes : (e : Event) {At : Type 0} (f : Option At → Row) (o : Option At) → Goes p answers calls b e (f None) → ((at : At) → o ≡ Some at → Goes p answers calls b e (f (Some at)))
      → Goes p answers calls b e (f o)
  found-goes e f None none some = none
  found-goes e f (Some at) none some = some at refl

  event_goes : (e : Event) → IsAnswered answers calls e → Goes p answers calls b e (event_row p b worker e)
  event_goes (Event.Open r) ok = found-goes (Event.Open r) (rows.open_found b r) (run_at p b r) tt (open_goes p fit answers calls b stands r)
  event_goes (Event.Judge j) ok = found-goes (Event.Judge j) (rows.judge_found b j) (job_at p b j) tt (judge_goes p fit answers calls b stands j)
  event_goes (Event.Ask l) ok = found-goes (Event.Ask l) (rows.ask_found b l) (leg_at p b l) tt (ask_goes p fit answers calls b stands l)
  event_goes (Event.Drop l) ok = found-goes (Event.Drop l) (rows.drop_found b l) (leg_at p b l) tt (drop_goes p fit answers calls b stands l)
  event_goes (Event.Take l) ok = found-goes (Event.Take l) (rows.take_found b worker) (leg_at p b l) tt (λ at is. take_goes p fit answers calls b stands l at is worker)
  event_goes (Event.Begin l) ok = found-goes (Event.Begin l) (rows.begin_found b worker l) (leg_at p b l) tt (λ at is. begin_goes p fit answers calls b stands l at is worker)
  event_goes (Event.End l a) ok = found-goes (Event.End l a) (rows.end_found b worker a) (leg_at p b l) tt (λ at is. end_goes p fit answers calls b stands l at is worker a ok)
  event_goes (Event.Finish l) ok = found-goes (Event.Finish l) (rows.finish_found b worker l) (leg_at p b l) tt (λ at is. finish_goes p fit answers calls b stands l at is worker)
  event_goes (Event.Close r) ok = found-goes (Event.Close r) (rows.close_found b r) (run_at p b r) tt (close_goes p fit answers calls b stands r)
  event_goes (Event.Cancel r) ok = absurd ok

-- ---- lists of entries

-- each entry of a list is answered by the calls that are open before it
abbrev AnsweredFrom : Plan → Answers → Board → (ℕ → Option StepCall) → List Entry → Type 0
AnsweredFrom p answers b calls es =
    (k : ℕ) (e : Entry) → slice_get es k ≡ Some e → IsAnswered answers (λ l. call_from p b l (calls l) (take k es)) e.event

pub after_stands : (p : Plan) (fit : IsFit p) (answers : Answers) (es : List Entry) (calls : ℕ → Option StepCall) (b c : Board) → Stands p answers calls b
    → after_from p b es ≡ Some c → AnsweredFrom p answers b calls es → (later : ℕ → Option StepCall) × Stands p answers later c
after_stands p fit answers [] calls b c stands h ok = (calls, subst (Stands p answers calls) (same_some b c h) stands)
after_stands p fit answers (e ∷ es) calls b c stands h ok =
    step (λ cs d. after_stands p fit answers es cs d c) (row p b e.worker e.event) refl (row_keeps p b e.worker e.event) (row_leads p b e.worker e.event stands.fits.shape)
    (either (Goes p answers calls b e.event) (nat_le e.worker 15) (event_row p b e.worker e.event) (Err EventFault.NoSuch) (event_goes p fit answers calls b stands e.worker e.event (ok 0 e refl)) tt) h
  where
    step : ((cs : ℕ → Option StepCall) (d : Board) → Stands p answers cs d → after_from p d es ≡ Some c → AnsweredFrom p answers d cs es → (later : ℕ → Option StepCall) × Stands p answers later c)
        → (r : Row) → row p b e.worker e.event ≡ r → Keeps p b r → Leads p b r → Goes p answers calls b e.event r → then_after r (λ next. after_from p next es) ≡ Some c
        → (later : ℕ → Option StepCall) × Stands p answers later c
    step more (Err f) is keeps leads goes k = absurd (no_some c k)
    step more (Ok x) is keeps leads goes k =
        let led = leads stands.lawful in
        more (λ l. call_after l (calls l) e.event x.1.what) x.0
        (record { fits = keeps stands.fits; lawful = led.lawful; played = goes led.stays }) k
        (λ i e' there. subst (λ (cs : ℕ → Option StepCall). IsAnswered answers cs e'.event) (from i) (ok (suc i) e' there))
      where
        from : (i : ℕ) → ◌≡◌ {A = ℕ → Option StepCall} (λ l. call_from p b l (calls l) (e ∷ take i es)) (λ l. call_from p x.0 l (call_after l (calls l) e.event x.1.what) (take i es))
        from i = λ t l. then_call (is t) (λ next told. call_from p next l (call_after l (calls l) e.event told) (take i es))
