-- The names that stand on a board are known to the groups after an event, and before it.
use Rattle.std.proofs.Common.{◌≡◌, ◌≢◌, ℕ, zero, suc, ◌+◌, ◌-◌, Bool, true, false, List, [], ◌∷◌, Option, Some, None, Result, Ok, length, slice_get, if◌then◌else◌, refl, ap, subst, sym, ◌∙◌, arith}
use Rattle.flat_board.specs.Words.{AsksNamed, Board, CellBack, Content, Entrance, Event, Held, IsGroup, IsName, IsNamed, IsNamedIn, Job, Keeps, Known, LegAt, Member, NamesKnown, Plan, Reply, Row, Run, RunAt, Seen, SeenNamed, ValueFault, after_at, after_enter, after_event, asked, board_jobs, content, event_row, flat_map, fold, group_at, group_of, groups_put_back, is_fresh, is_known, is_new, leg_asked, leg_names, name_put_back, opened, put_known, run_names, run_opened, seen_at, value_at, with_pair, ◌>>=◌}
use Rattle.std.proofs.lemmas.Option.{slice_get_within}
use Rattle.std.proofs.lemmas.Bool.{true≢false}
use Rattle.board_decisions.proofs.Lists.{get-left, get-right, no_some, same_some}
use Rattle.flow_model.proofs.Lookups.{found_same}
use Rattle.group_admission.specs.Content.{is_own}
use Rattle.group_admission.proofs.Back.{held_is_known, put_keeps}
use Rattle.flat_board.proofs.Named.{leg_asks, run_asks}
use Rattle.flat_board.proofs.Names.{Comes, Enters, ThenSeen, event_step, flag_of}

-- ---- what is known is named

pub seen_group : (known : Known) (new : Bool) (group : Option (List ℕ)) → IsNamedIn known new group → IsGroup group
seen_group known true group h = subst IsGroup (sym h) tt
seen_group known false None h = tt
seen_group known false (Some name) h = h.0

-- an item of an item is one of all
in_all : {A B : Type 0} (g : A → List B) (xs : List A) (i k : ℕ) (x : A) (y : B) → slice_get xs i ≡ Some x → slice_get (g x) k ≡ Some y → (n : ℕ) × (slice_get (flat_map g xs) n ≡ Some y)
in_all g [] i k x y at there = absurd (no_some x at)
in_all g (z ∷ zs) zero k x y at there =
    let here : slice_get (g z) k ≡ Some y = ap (λ w. slice_get (g w) k) (same_some z x at) ∙ there in
    (k, get-left (g z) (flat_map g zs) k (slice_get_within (g z) k y here) ∙ here)
in_all g (z ∷ zs) (suc i) k x y at there =
    let later = in_all g zs i k x y at there in
    let less : length (g z) + later.0 - length (g z) ≡ later.0 = omega arith in
    (length (g z) + later.0, get-right (g z) (flat_map g zs) (length (g z) + later.0) (omega arith) ∙ ap (slice_get (flat_map g zs)) less ∙ later.1)

pub board_named : (known : Known) (b : Board) → NamesKnown known b → IsNamed b
board_named known b names = λ r run in_runs. record {
  group = seen_group known (is_new run.state) run.group (subst (SeenNamed known) (ap (λ o. o >>= run_names) in_runs) (names (Member.Run r)));
  jobs = λ j job in_jobs k leg in_legs.
      let of_all = in_all (λ (x : Run). x.jobs) b.runs r j run job in_runs in_jobs in
      let there = in_all (λ (x : Job). x.legs) (board_jobs b) of_all.0 k job leg of_all.1 in_legs in
      seen_group known (is_fresh leg.state) leg.group (subst (SeenNamed known) (ap (λ o. o >>= leg_names) there.1) (names (Member.Leg there.0)));
}

-- ---- after an event

-- a name that was entered is held
entered_held : (c : ℕ) (cs : List ℕ) (m : Member) (own : Option ℕ) (gs : Content) → (held : Held) × (value_at (c ∷ cs) (after_enter (c ∷ cs) m own gs) ≡ Some held)
entered_held c cs m own gs = by (value_at (c ∷ cs) gs) refl
  where
    mine_or : (held : Held) → value_at (c ∷ cs) gs ≡ Some held → (mine : Bool)
        → (it : Held) × (value_at (c ∷ cs) (if mine then gs else with_pair (c ∷ cs) (record { holder = held.holder; waiter = Some m }) gs) ≡ Some it)
    mine_or held at true = (held, at)
    mine_or held at false = (record { holder = held.holder; waiter = Some m }, found_same (c ∷ cs) (record { holder = held.holder; waiter = Some m }) gs)

    by : (o : Option Held) → value_at (c ∷ cs) gs ≡ o → (it : Held) × (value_at (c ∷ cs) (after_at (c ∷ cs) m own o gs) ≡ Some it)
    by None at = (record { holder = m; waiter = None }, found_same (c ∷ cs) (record { holder = m; waiter = None }) gs)
    by (Some held) at = mine_or held at (is_own own held.holder)

entered_known : (name : List ℕ) (m : Member) (own : Option ℕ) (gs : Content) (known : Known) → name ≢ [] → content known ≡ after_enter name m own gs → is_known name known ≡ true
entered_known [] m own gs known some is = absurd (some refl)
entered_known (c ∷ cs) m own gs known some is = let it = entered_held c cs m own gs in held_is_known (c ∷ cs) known it.0 (ap (value_at (c ∷ cs)) is ∙ it.1)

-- what is named among some names is so among more
more_named : (old new : Known) → Keeps old new → (s : Seen) → SeenNamed old s → SeenNamed new s
more_named old new keeps None h = tt
more_named old new keeps (Some s) h = by s.0 s.1 h
  where
    by : (n : Bool) (group : Option (List ℕ)) → IsNamedIn old n group → IsNamedIn new n group
    by true group h = h
    by false None h = tt
    by false (Some name) h = (h.0, keeps name h.1)

older_named : (known : Known) (new : Bool) (group : Option (List ℕ)) → SeenNamed known (Some (new, group)) → SeenNamed known (Some (false, group))
older_named known true group h = subst (IsNamedIn known false) (sym h) tt
older_named known false group h = h

module _ (p : Plan) (b : Board) (worker : ℕ) (groups after : Known) (keeps : Keeps groups after) (names : NamesKnown groups b) where
  named_comes : (e : Event) → content after ≡ after_event p b (content groups) e → (group : Option Entrance) → Enters p b e group → Comes (SeenNamed after) group
  named_comes e is None enters = λ s new h. tt
  named_comes (Event.Open r) is (Some g) enters = λ s new h.
      let named : IsName g.name = subst AsksNamed enters.2 (run_asks enters.0) in
      let held : content after ≡ after_enter g.name (Member.Run r) None (content groups) =
      is ∙ ap (λ (o : Option RunAt). run_opened (content groups) r o) enters.1 ∙ ap (λ (x : Result (Option Entrance) ValueFault). opened (content groups) r x) enters.2 in
      (named, entered_known g.name (Member.Run r) None (content groups) after named.some held)
  named_comes (Event.Ask l) is (Some g) enters = λ s new h.
      let at = enters.0 in
      let named : IsName g.name = subst AsksNamed enters.2 (leg_asks at) in
      let held : content after ≡ after_enter g.name (Member.Leg l) (Some at.place.run) (content groups) =
      is ∙ ap (λ (o : Option LegAt). leg_asked (content groups) l o) enters.1 ∙ ap (λ (x : Result (Option Entrance) ValueFault). asked (content groups) l at.place.run x) enters.2 in
      (named, entered_known g.name (Member.Leg l) (Some at.place.run) (content groups) after named.some held)
  named_comes e is (Some g) enters = absurd enters

  -- the names that stand on the board after an event are known
  pub names_after : (e : Event) (x : Board × Reply) → content after ≡ after_event p b (content groups) e → event_row p b worker e ≡ Ok x → NamesKnown after x.0
  names_after e x is row_is m = subst (λ (r : Row). ThenSeen (SeenNamed after) m r) row_is
      (event_step (SeenNamed after) (older_named after) m p b worker (more_named groups after keeps (seen_at b m) (names m)) e (named_comes e is))

-- ---- before an event

older_same : (g : Option (List ℕ)) (new : Bool) (group : Option (List ℕ)) → ◌≡◌ {A = Seen} (Some (new, group)) (Some (false, g)) → ◌≡◌ {A = Seen} (Some (false, group)) (Some (false, g))
older_same g new group e = ap (λ (s : Seen). Some (false, group_of s)) e

-- who is not new is seen in its group after an event too
pub stays_in : (p : Plan) (b : Board) (worker : ℕ) (e : Event) (x : Board × Reply) (m : Member) (g : Option (List ℕ)) → event_row p b worker e ≡ Ok x
    → seen_at b m ≡ Some (false, g) → seen_at x.0 m ≡ Some (false, g)
stays_in p b worker e x m g row_is is = subst (λ (r : Row). ThenSeen (λ s. s ≡ Some (false, g)) m r) row_is
    (event_step (λ s. s ≡ Some (false, g)) (older_same g) m p b worker is e (λ group enters s new h. absurd (true≢false (sym new ∙ ap flag_of h))))

-- the names that stand on the board before an event are known to whom those after it are
pub names_before : (p : Plan) (b : Board) (worker : ℕ) (e : Event) (x : Board × Reply) (groups known : Known) → event_row p b worker e ≡ Ok x → NamesKnown groups b → NamesKnown known x.0
    → NamesKnown known b
names_before p b worker e x groups known row_is names after m = by (seen_at b m) refl
  where
    by : (s : Seen) → seen_at b m ≡ s → SeenNamed known s
    by None is = tt
    by (Some (true, g)) is = subst (SeenNamed groups) is (names m)
    by (Some (false, g)) is = subst (SeenNamed known) (stays_in p b worker e x m g row_is is) (after m)

-- what is put back is known as it was
pub names_put_back : (cell : Option CellBack) (at b : Board) (known : Known) → NamesKnown known b → NamesKnown (groups_put_back cell at known) b
names_put_back None at b known names = names
names_put_back (Some cell) at b known names = by (group_at at cell.who)
  where
    by : (g : Option (List ℕ)) → NamesKnown (name_put_back g cell.held known) b
    by None = names
    by (Some name) = λ m. more_named known (put_known (fold name) cell.held known) (λ q. put_keeps (fold name) cell.held known q) (seen_at b m) (names m)
