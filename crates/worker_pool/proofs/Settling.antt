-- A play that is Done leaves what is settled.
use Rattle.std.proofs.Common.{◌≡◌, ℕ, true, false, take, Option, Some, None, subst, sym, ◌∙◌}
use Rattle.std.proofs.lemmas.Bool.{true≢false}
use Rattle.status_table.specs.Words.{Answer, Board, Event, IsPlan, Plan, StepCall, after, finished, open_call}
use Rattle.board_settled.specs.Agrees.{FinishesAsSettled}
use Rattle.board_settled.specs.Histories.{IsAnswered}
use Rattle.board_settled.specs.Settled.{Answers}
use Rattle.step_host.specs.Lawful.{IsAdmitted, EndsAdmitted, Lawful}
use Rattle.worker_pool.specs.Alone.{EndsSo}
use Rattle.worker_pool.specs.History.{is_cancel, NoCancel}
use Rattle.worker_pool.specs.Settles.{AdmitsOnly, SettlesAll, ManySettle, OneSettles}
use Rattle.worker_pool.specs.declared.played.Played.{Played}
use Rattle.board_decisions.proofs.Lists.{same_some}

admitted : (admits : StepCall → Answer → Type 0) (answers : Answers) → AdmitsOnly admits answers → (there : Option StepCall) (a : Answer) → IsAdmitted admits there a
    → (call : StepCall) → there ≡ Some call → answers call ≡ Some a
admitted admits answers only None a h call is = absurd h
admitted admits answers only (Some x) a h call is = only call a (subst (λ (c : StepCall). admits c a) (same_some x call is) h)

answered : (admits : StepCall → Answer → Type 0) (answers : Answers) → AdmitsOnly admits answers → (calls : ℕ → Option StepCall) (e : Event) → is_cancel e ≡ false
    → EndsAdmitted admits calls e → IsAnswered answers calls e
answered admits answers only calls (Event.Open r) quiet h = tt
answered admits answers only calls (Event.Judge j) quiet h = tt
answered admits answers only calls (Event.Ask l) quiet h = tt
answered admits answers only calls (Event.Drop l) quiet h = tt
answered admits answers only calls (Event.Take l) quiet h = tt
answered admits answers only calls (Event.Begin l) quiet h = tt
answered admits answers only calls (Event.End l a) quiet h = admitted admits answers only (calls l) a h
answered admits answers only calls (Event.Finish l) quiet h = tt
answered admits answers only calls (Event.Close r) quiet h = tt
answered admits answers only calls (Event.Cancel r) quiet h = absurd (true≢false quiet)

settles : FinishesAsSettled → (admits : StepCall → Answer → Type 0) (p : Plan) (played : Played) → IsPlan p → Lawful admits p played.history → NoCancel played.history
    → (board : Board) → after p played.history ≡ Some board → EndsSo p board played.ending → SettlesAll admits p played
settles law admits p played rules lawful quiet board leads ends free answers only is b there =
    let done : finished board ≡ true = subst (EndsSo p board) is ends in
    let same : board ≡ b = same_some board b (sym leads ∙ there) in
    law p rules free answers played.history b (record {
      leads = there;
      answered = λ k e at. answered admits answers only (open_call p (take k played.history)) e.event (quiet k e at) (lawful.admitted k e at);
    }) (subst (λ (x : Board). finished x ≡ true) same done)

pub many_settle : FinishesAsSettled → (admits : StepCall → Answer → Type 0) → ManySettle admits
many_settle law admits p workers played rules h = settles law admits p played rules h.history.lawful h.history.uncancelled played.left.board h.leads h.ends

pub one_settles : FinishesAsSettled → (admits : StepCall → Answer → Type 0) → OneSettles admits
one_settles law admits p played rules h = settles law admits p played rules h.history.lawful h.history.uncancelled played.left.board h.leads h.ends
