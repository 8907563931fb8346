-- The step that a leg is at can be counted in the entries: each Begin of the leg begins the next.
use Rattle.std.proofs.Common.{◌≡◌, ◌≢◌, ℕ, suc, ◌-◌, ◌==◌, arith, Bool, true, false, List, [], ◌∷◌, ◌++◌, Option, Some, None, Ok, Err, length, take, get_or, ◌+◌, ◌<◌, slice_get, if◌then◌else◌, option_map, refl, ap, sym, subst, ◌∙◌}
use Rattle.std.proofs.lemmas.List.{append_assoc, take_more}
use Rattle.std.proofs.lemmas.Option.{slice_get-map}
use Rattle.status_table.specs.Words.{Answer, Board, DoneStep, Entry, Event, Leg, Plain, Plan, Reply, Row, What, after_from, event_row, is_ended, new_board, new_leg, plan_legs, row, then_after}
use Rattle.board_decisions.proofs.Lists.{no_some}
use Rattle.step_host.specs.Counted.{begun_after, begun_from, begun, answer_counted, answers_after, counted}
use Rattle.step_host.specs.Laws.{RecordsAreCounted}
use Rattle.step_host.specs.Replay.{step_line, event_lines, then_lines, lines_from}
use Rattle.step_host.proofs.Quiet.{is_calling, calling-unended, QuietAt, leg_of}
use Rattle.step_host.proofs.Recorded.{under_worker, ended, new_legs}
use Rattle.step_host.proofs.Scripts.{append-none}
use Rattle.step_host.proofs.Turns.{QuietRow, open-quiet, judge-quiet, ask-quiet, drop-quiet, take-quiet, finish-quiet, close-quiet, cancel-quiet, QuietElsewhere, OneMore, Begun, BeginRow, EndRow, begin_turns, end_turns}

-- ---- so many steps of a leg are begun

-- those that it has done, and the one in whose call it is
so_many : Bool → ℕ → ℕ
so_many true done = suc done
so_many false done = done

-- so many steps of a leg are begun, if it has not ended
Counts : ℕ → Option Leg → Type 0
Counts n None = Unit {0}
Counts n (Some leg) = is_ended leg.state ≡ false → n ≡ so_many (is_calling leg.state) (length leg.steps)

quiet-counts : (n : ℕ) (old new : Option Leg) → QuietAt old new → Counts n old → Counts n new
unfolding Counts
quiet-counts n None None q h = tt
quiet-counts n None (Some new) q h = absurd q
quiet-counts n (Some old) None q h = tt
quiet-counts n (Some old) (Some new) q h = λ e.
    let was = q.goes_on e in
    h was.0 ∙ ap (λ c. so_many c (length old.steps)) (sym was.1) ∙ ap (λ (ss : List DoneStep). so_many (is_calling new.state) (length ss)) (sym q.steps)

one_more-counts : (n : ℕ) (old new : Leg) → OneMore old new → n ≡ suc (length old.steps) → Counts n (Some new)
unfolding Counts so_many
one_more-counts n old new more is = λ e. is ∙ sym more.steps ∙ ap (λ c. so_many c (length new.steps)) (sym more.idle)

begun-counts : (n l : ℕ) (told : What) (old new : Leg) → Begun l told old new → n ≡ length old.steps → Counts (suc n) (Some new)
unfolding Counts so_many
begun-counts n l What.Moved old new h is = absurd h
begun-counts n l (What.Call call) old new h is = λ e.
    ap suc (is ∙ ap length (sym h.2)) ∙ ap (λ c. so_many c (length new.steps)) (sym h.3)
begun-counts n l What.Skipped old new h is = one_more-counts (suc n) old new h (ap suc is)
begun-counts n l (What.Faulted f) old new h is = one_more-counts (suc n) old new h (ap suc is)

either : (n : ℕ) (c : Bool) → (if c then n else n) ≡ n
either n true = refl
either n false = refl

-- ---- it is so after each row

CountsRow : ℕ → ℕ → Event → Row → Type 0
CountsRow l n e (Ok x) = Counts (begun_after l n e) (leg_of x.0 l)
CountsRow l n e (Err refusal) = Unit {0}

module _ (b : Board) (l n : ℕ) (h : Counts n (leg_of b l)) where
  quiet_row-counts : (e : Event) (r : Row) → begun_after l n e ≡ n → QuietRow b r → CountsRow l n e r
  unfolding CountsRow QuietRow
  quiet_row-counts e (Ok x) same q = subst (λ m. Counts m (leg_of x.0 l)) (sym same) (quiet-counts n (leg_of b l) (leg_of x.0 l) (q l) h)
  quiet_row-counts e (Err refusal) same q = tt

  -- of the leg m whose step begins or ends, and of the others
  turned-counts : (c : Board) (m k : ℕ) (new : Leg) → leg_of c m ≡ Some new → (m ≡ l → Counts k (Some new)) → QuietElsewhere m b c
      → Counts (if m == l then k else n) (leg_of c l)
  turned-counts c m k new is here others = by (m == l) refl
    where
      by : (t : Bool) → (m == l) ≡ t → Counts (if t then k else n) (leg_of c l)
      by true e =
          let same : m ≡ l = grind (arith, e) in
          subst (λ i. Counts k (leg_of c i)) same (subst (Counts k) (sym is) (here same))
      by false e =
          let apart : l ≢ m = grind (arith, e) in
          quiet-counts n (leg_of b l) (leg_of c l) (others l apart) h

  -- what is said of the leg itself
  own : (m : ℕ) (old : Leg) → m ≡ l → leg_of b m ≡ Some old → Counts n (Some old)
  own m old same was = subst (Counts n) (ap (leg_of b) (sym same) ∙ was) h

  begin_row-counts : (m : ℕ) (r : Row) → BeginRow b m r → CountsRow l n (Event.Begin m) r
  unfolding CountsRow BeginRow Counts so_many
  begin_row-counts m (Ok x) t =
      turned-counts x.0 m (suc n) t.new t.is
      (λ same.
      let was : n ≡ length t.old.steps = own m t.old same t.was t.idle.0 ∙ ap (λ c. so_many c (length t.old.steps)) t.idle.1 in
      begun-counts n m x.1.what t.old t.new t.begun was)
      t.others
  begin_row-counts m (Err refusal) t = tt

  end_row-counts : (m : ℕ) (a : Answer) (r : Row) → EndRow b m a r → CountsRow l n (Event.End m a) r
  unfolding CountsRow EndRow Counts so_many
  end_row-counts m a (Ok x) t =
      subst (λ k. Counts k (leg_of x.0 l)) (either n (m == l))
      (turned-counts x.0 m n t.new t.is
      (λ same.
      let was : n ≡ suc (length t.old.steps) =
      own m t.old same t.was (calling-unended t.old.state t.calling) ∙ ap (λ c. so_many c (length t.old.steps)) t.calling in
      one_more-counts n t.old t.new t.more was)
      t.others)
  end_row-counts m a (Err refusal) t = tt

  row-counts : (p : Plan) (worker : ℕ) (e : Event) → CountsRow l n e (row p b worker e)
  unfolding CountsRow
  row-counts p worker e = under_worker (CountsRow l n e) p b worker e (each e) tt
    where
      each : (d : Event) → CountsRow l n d (event_row p b worker d)
      each (Event.Open r) = quiet_row-counts (Event.Open r) _ refl (open-quiet p b r)
      each (Event.Judge j) = quiet_row-counts (Event.Judge j) _ refl (judge-quiet p b j)
      each (Event.Ask m) = quiet_row-counts (Event.Ask m) _ refl (ask-quiet p b m)
      each (Event.Drop m) = quiet_row-counts (Event.Drop m) _ refl (drop-quiet p b m)
      each (Event.Take m) = quiet_row-counts (Event.Take m) _ refl (take-quiet p b worker m)
      each (Event.Begin m) = begin_row-counts m _ (begin_turns p b worker m)
      each (Event.End m a) = end_row-counts m a _ (end_turns p b worker m a)
      each (Event.Finish m) = quiet_row-counts (Event.Finish m) _ refl (finish-quiet p b worker m)
      each (Event.Close r) = quiet_row-counts (Event.Close r) _ refl (close-quiet p b r)
      each (Event.Cancel r) = quiet_row-counts (Event.Cancel r) _ refl (cancel-quiet p b r)

accepted-counts : (p : Plan) (b : Board) (l n : ℕ) (e : Entry) (x : Board × Reply) → row p b e.worker e.event ≡ Ok x → Counts n (leg_of b l)
    → Counts (begun_after l n e.event) (leg_of x.0 l)
unfolding CountsRow
accepted-counts p b l n e x is h = subst (CountsRow l n e.event) is (row-counts b l n h p e.worker e.event)

-- on a new board no step is begun
new-counts : (p : Plan) (l : ℕ) → Counts 0 (leg_of (new_board p) l)
unfolding Counts so_many
new-counts p l =
    subst (λ (legs : List Leg). Counts 0 (slice_get legs l)) (sym (new_legs p))
    (subst (Counts 0) (sym (slice_get-map new_leg (plan_legs p) l)) (by (slice_get (plan_legs p) l)))
  where
    by : (o : Option (List (List ℕ × Plain))) → Counts 0 (option_map new_leg o)
    by None = tt
    by (Some combo) = λ e. refl

-- ---- one entry more

pub begun-next : (l n : ℕ) (es : List Entry) (e : Entry) → begun_from l n (es ++ e ∷ []) ≡ begun_after l (begun_from l n es) e.event
begun-next l n [] e = refl
begun-next l n (d ∷ es) e = begun-next l (begun_after l n d.event) es e

answers-next : (es more : List Entry) (e : Entry) → answers_after es (more ++ e ∷ []) ≡ answers_after es more ++ answer_counted (λ l. begun l (es ++ more)) e.event
answers-next es [] e = append-none (answer_counted (λ l. begun l es) e.event) ∙ ap (λ (xs : List Entry). answer_counted (λ l. begun l xs) e.event) (sym (append-none es))
answers-next es (d ∷ more) e =
    ap (λ ls. answer_counted (λ l. begun l es) d.event ++ ls) (answers-next (es ++ d ∷ []) more e ∙ ap (λ (xs : List Entry). answers_after (es ++ d ∷ []) more ++ answer_counted (λ l. begun l xs) e.event) (append_assoc es (d ∷ []) more))
    ∙ sym (append_assoc (answer_counted (λ l. begun l es) d.event) (answers_after (es ++ d ∷ []) more) (answer_counted (λ l. begun l (es ++ d ∷ more)) e.event))

-- ---- what is recorded can be counted

-- the same answer, on the board after the entries
same_answer : (p : Plan) (b : Board) (es : List Entry) (e : Entry) (x : Board × Reply) → row p b e.worker e.event ≡ Ok x
    → ((l : ℕ) → Counts (begun l es) (leg_of b l)) → answer_counted (λ l. begun l es) e.event ≡ event_lines b e.event
unfolding Counts so_many
same_answer p b es e x is h = by e.event refl
  where
    by : (d : Event) → e.event ≡ d → answer_counted (λ l. begun l es) d ≡ event_lines b d
    by (Event.Open r) k = refl
    by (Event.Judge j) k = refl
    by (Event.Ask l) k = refl
    by (Event.Drop l) k = refl
    by (Event.Take l) k = refl
    by (Event.Begin l) k = refl
    by (Event.End l a) k =
        let t = ended p b e.worker l a x (ap (row p b e.worker) (sym k) ∙ is) in
        let here : Counts (begun l es) (Some t.old) = subst (Counts (begun l es)) t.was (h l) in
        let many : begun l es ≡ suc (length t.old.steps) =
        here (calling-unended t.old.state t.calling) ∙ ap (λ c. so_many c (length t.old.steps)) t.calling in
        let step : begun l es - 1 ≡ length t.old.steps = omega (arith, many) in
        ap (λ n. (l, n, a) ∷ []) step ∙ sym (ap (λ (o : Option Leg). step_line l a (option_map (λ leg. length leg.steps) o)) t.was)
    by (Event.Finish l) k = refl
    by (Event.Close r) k = refl
    by (Event.Cancel r) k = refl

counted_from : (p : Plan) (b new : Board) (es more : List Entry) → after_from p b more ≡ Some new → ((l : ℕ) → Counts (begun l es) (leg_of b l))
    → answers_after es more ≡ lines_from p b more
counted_from p b new es [] h counts = refl
counted_from p b new es (e ∷ more) h counts =
    step (row p b e.worker e.event) refl (λ next k later. counted_from p next new (es ++ e ∷ []) more k later) h
  where
    step : (r : Row) → row p b e.worker e.event ≡ r
        → ((next : Board) → after_from p next more ≡ Some new → ((l : ℕ) → Counts (begun l (es ++ e ∷ [])) (leg_of next l)) → answers_after (es ++ e ∷ []) more ≡ lines_from p next more)
        → then_after r (λ next. after_from p next more) ≡ Some new
        → answer_counted (λ l. begun l es) e.event ++ answers_after (es ++ e ∷ []) more ≡ event_lines b e.event ++ then_lines r (λ next. lines_from p next more)
    step (Ok x) is later k =
        let counted_on : (l : ℕ) → Counts (begun l (es ++ e ∷ [])) (leg_of x.0 l) =
        λ l. subst (λ n. Counts n (leg_of x.0 l)) (sym (begun-next l 0 es e)) (accepted-counts p b l (begun l es) e x is (counts l)) in
        ap (λ ls. ls ++ answers_after (es ++ e ∷ []) more) (same_answer p b es e x is counts)
        ∙ ap (λ ls. event_lines b e.event ++ ls) (later x.0 k counted_on)
    step (Err f) is later k = absurd (no_some new k)

pub records_are_counted : RecordsAreCounted
records_are_counted p es legal = counted_from p (new_board p) legal.0 [] es legal.1 (new-counts p)

-- one entry more of a list that is counted
pub counted-next : (es : List Entry) (k : ℕ) (e : Entry) → k < length es → e ≡ get_or es k e
    → counted (take (k + 1) es) ≡ counted (take k es) ++ answer_counted (λ l. begun l (take k es)) e.event
counted-next es k e within is =
    ap counted (take_more es k e within ∙ ap (λ (x : Entry). take k es ++ x ∷ []) (sym is)) ∙ answers-next [] (take k es) e

pub begun-more : (l : ℕ) (es : List Entry) (k : ℕ) (e : Entry) → k < length es → e ≡ get_or es k e
    → begun l (take (k + 1) es) ≡ begun_after l (begun l (take k es)) e.event
begun-more l es k e within is =
    ap (begun l) (take_more es k e within ∙ ap (λ (x : Entry). take k es ++ x ∷ []) (sym is)) ∙ begun-next l 0 (take k es) e
