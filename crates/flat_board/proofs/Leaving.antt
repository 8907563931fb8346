-- A member that ended leaves its group, by the name of that.
use Rattle.std.proofs.Common.{◌≡◌, ◌≢◌, ℕ, Bool, true, false, List, [], ◌∷◌, Option, Some, None, option_map, option_and_then, ap, subst, sym, refl, ◌∙◌}
use Rattle.std.proofs.lemmas.Bool.{true≢false}
use Rattle.flat_board.specs.Words.{Board, CellBack, Content, Held, IsGroup, KeptAsShown, Leaves, Leg, LegAt, LegState, Member, Outcome, Plan, Run, RunAt, Stand, Standing, StandsOnlyThere, after_release, after_withdraw, dropped, group_at, group_of, holder_of, holding, left, leg_at, leg_ended, leg_standing, leg_stands as leg_stands_so, leg_there, run_at, run_standing, run_stands as run_stands_so, same_member, standing_by, value_at, waiter_of, waiting, with_leg}
use Rattle.group_admission.proofs.Leaving.{release_passes_on, withdraw_leaves_holder}
use Rattle.group_admission.proofs.Members.{one_member, there as there_is}
use Rattle.group_admission.proofs.Nowhere.{nothing_released, nothing_withdrawn}
use Rattle.flat_board.proofs.Named.{filled}
use Rattle.flat_board.proofs.Names.{seen_leg, seen_run}
use Rattle.board_counters.proofs.Tallies.{leg_there_changed, there}
use Rattle.status_table.proofs.Found.{leg_item, leg_stands, run_stands}
use Rattle.board_decisions.proofs.Lists.{same_some, no_some}
use Rattle.status_table.proofs.Steps.{standing}
use Rattle.status_table.proofs.Turnover.{a_holder, a_waiter, numbered}

-- ---- a member stands only where the board says

-- who holds a name in the groups that a board shows stands so on the board
pub held_stands : (groups : Content) (b : Board) (m : Member) (name : List ℕ) → KeptAsShown groups b → holder_of name groups ≡ Some m → standing b m ≡ Some (holding (Some name))
held_stands groups b m [] kept e = absurd (no_some m (sym (ap (option_map (λ (h : Held). h.holder)) kept.named) ∙ e))
held_stands groups b m (c ∷ cs) kept e = (a_holder b (c ∷ cs) m (sym (kept.shown.holder (c ∷ cs) (filled c cs)) ∙ e)).0

-- and so does who waits for one
pub awaited_stands : (groups : Content) (b : Board) (m : Member) (name : List ℕ) → KeptAsShown groups b → waiter_of name groups ≡ Some m → standing b m ≡ Some (waiting (Some name))
awaited_stands groups b m [] kept e = absurd (no_some m (sym (ap (option_and_then (λ (h : Held). h.waiter)) kept.named) ∙ e))
awaited_stands groups b m (c ∷ cs) kept e = (a_waiter b (c ∷ cs) m (sym (kept.shown.waiter (c ∷ cs) (filled c cs)) ∙ e)).0

stands_only : (groups : Content) (b : Board) (m : Member) (s : Standing) → KeptAsShown groups b → standing b m ≡ Some s → StandsOnlyThere groups m s
stands_only groups b m s kept is = record {
  ordered = kept.ordered;
  holder = λ name e. same_some s (holding (Some name)) (sym is ∙ held_stands groups b m name kept e);
  waiter = λ name e. same_some s (waiting (Some name)) (sym is ∙ awaited_stands groups b m name kept e);
}

-- so it is with a run that is found
run_stands_only : (p : Plan) (b : Board) (groups : Content) (n : ℕ) (at : RunAt) → KeptAsShown groups b → run_at p b n ≡ Some at → StandsOnlyThere groups (Member.Run n) (run_standing at.run)
run_stands_only p b groups n at kept is =
    stands_only groups b (Member.Run n) (run_standing at.run) kept (ap (option_map run_standing) (run_stands p b n at is).run)

-- and with a leg
leg_stands_only : (p : Plan) (b : Board) (groups : Content) (n : ℕ) (at : LegAt) → KeptAsShown groups b → leg_at p b n ≡ Some at → StandsOnlyThere groups (Member.Leg n) (leg_standing at.leg)
leg_stands_only p b groups n at kept is =
    stands_only groups b (Member.Leg n) (leg_standing at.leg) kept (ap (option_map leg_standing) (leg_item p b n at (leg_stands p b n at is)))

-- ---- leaving by a name

-- whether a member is there, or another, or none
either : {X : Type 0} (m : Member) (o : Option Member) → (o ≡ Some m → X) → (o ≢ Some m → X) → X
either m None so other = other (no_some m)
either {X} m (Some h) so other = by (same_member m h) refl
  where
    by : (b : Bool) → same_member m h ≡ b → X
    by true is = so (ap (λ (x : Member). Some x) (sym (one_member m h is)))
    by false is = other (λ e. true≢false (sym (there_is m h e) ∙ is))

module _ (groups : Content) (m : Member) where
  -- one that has a group leaves that as it stood
  pub name_left : (new : Content) (name : List ℕ) → (holder_of name groups ≡ Some m → new ≡ after_release m groups) → (waiter_of name groups ≡ Some m → new ≡ after_withdraw m groups)
      → (holder_of name groups ≢ Some m → waiter_of name groups ≢ Some m → new ≡ groups)
      → (s : Stand) → StandsOnlyThere groups m (standing_by s (Some name)) → new ≡ left groups m (standing_by s (Some name))
  name_left new name held awaited other Stand.Apart only = other (λ e. cc (only.holder name e)) (λ e. cc (only.waiter name e))
  name_left new name held awaited other Stand.Holding only = either m (holder_of name groups) held (λ differs.
      other differs (λ e. cc (only.waiter name e))
      ∙ sym (nothing_released groups m only.ordered (λ q e. let same : name ≡ q = cc (only.holder q e) in differs (ap (λ n. holder_of n groups) same ∙ e))))
  name_left new name held awaited other Stand.Waiting only = either m (waiter_of name groups) awaited (λ differs.
      other (λ e. cc (only.holder name e)) differs
      ∙ sym (nothing_withdrawn groups m only.ordered (λ q e. let same : name ≡ q = cc (only.waiter q e) in differs (ap (λ n. waiter_of n groups) same ∙ e))))

  -- it changes no name but that
  pub others_left : (name : List ℕ) (s : Stand) → StandsOnlyThere groups m (standing_by s (Some name)) → (q : List ℕ) → q ≢ name → value_at q (left groups m (standing_by s (Some name))) ≡ value_at q groups
  others_left name Stand.Apart only q differs = refl
  others_left name Stand.Holding only q differs = (release_passes_on groups m q only.ordered).others (λ e. differs (cc (only.holder q e)))
  others_left name Stand.Waiting only q differs = (withdraw_leaves_holder groups m q only.ordered).others (λ e. differs (cc (only.waiter q e)))

  -- and one that has none leaves none
  pub none_left : (s : Stand) → StandsOnlyThere groups m (standing_by s None) → groups ≡ left groups m (standing_by s None)
  none_left Stand.Apart only = refl
  none_left Stand.Holding only = sym (nothing_released groups m only.ordered (λ q e. cc (only.holder q e)))
  none_left Stand.Waiting only = sym (nothing_withdrawn groups m only.ordered (λ q e. cc (only.waiter q e)))

-- ---- by the name that a member still has

-- A leg that was found, and stood so, may leave its group by the name that it still has.
module _ (p : Plan) (b : Board) (groups : Content) (n : ℕ) (at : LegAt) (kept : KeptAsShown groups b) (is : leg_at p b n ≡ Some at)
    (s : Stand) (stood : (group : Option (List ℕ)) → leg_stands_so at.leg.state group ≡ standing_by s group) (new : Board) (cell : Option CellBack) (after : Content) (named : IsGroup at.leg.group)
    (leaves : (leg : Leg) (t : Stand) → IsGroup leg.group → leg_there new at.place ≡ Some leg → group_at b (Member.Leg n) ≡ leg.group → StandsOnlyThere groups (Member.Leg n) (standing_by t leg.group)
    → Leaves cell b (Member.Leg n) (standing_by t leg.group) groups after) where
  -- it is there still, where it was changed at its place
  still_there : (f : Leg → Leg) → new.runs ≡ (with_leg b at.place f).runs → leg_there new at.place ≡ Some (f at.leg)
  still_there f runs =
      let stands = leg_stands p b n at is in
      ap (λ (rs : List Run). leg_there (record new { runs = rs }) at.place) runs
      ∙ leg_there_changed b at.place f
      ∙ ap (option_map f) (there b at.place at.run at.job stands.in_board stands.job ∙ stands.leg)

  leg_has_left : (f : Leg → Leg) → (f at.leg).group ≡ at.leg.group → new.runs ≡ (with_leg b at.place f).runs → Leaves cell b (Member.Leg n) (leg_standing at.leg) groups after
  leg_has_left f same runs =
      let standing : leg_standing at.leg ≡ standing_by s (f at.leg).group = stood at.leg.group ∙ ap (standing_by s) (sym same) in
      subst (λ (t : Standing). Leaves cell b (Member.Leg n) t groups after) (sym standing)
      (leaves (f at.leg) s (subst IsGroup (sym same) named) (still_there f runs) (ap group_of (seen_leg p b n at is) ∙ sym same)
      (subst (StandsOnlyThere groups (Member.Leg n)) standing (leg_stands_only p b groups n at kept is)))

  -- so it is with a leg that was dropped
  pub dropped_has_left : (result : Outcome) → new ≡ dropped b n result → Leaves cell b (Member.Leg n) (leg_standing at.leg) groups after
  dropped_has_left result new_is =
      let end : Leg → Leg = λ leg. record leg { state = LegState.Ended result false } in
      leg_has_left end refl (ap (λ (x : Board). x.runs) new_is ∙ numbered b n at.place end (leg_stands p b n at is).place)

  -- and with one that has finished
  pub ended_has_left : (state : LegState) (outputs : List (List ℕ × List ℕ)) → new ≡ leg_ended b at.place n state outputs → Leaves cell b (Member.Leg n) (leg_standing at.leg) groups after
  ended_has_left state outputs new_is = leg_has_left (λ leg. record leg { state = state; outputs = outputs }) refl (ap (λ (x : Board). x.runs) new_is)

-- And so may a run that was found.
pub run_has_left : (p : Plan) (b : Board) (groups : Content) (n : ℕ) (at : RunAt) → KeptAsShown groups b → run_at p b n ≡ Some at
    → (s : Stand) → ((group : Option (List ℕ)) → run_stands_so at.run.state group ≡ standing_by s group) → (cell : Option CellBack) (after : Content) → IsGroup at.run.group
    → ((t : Stand) → IsGroup at.run.group → group_at b (Member.Run n) ≡ at.run.group → StandsOnlyThere groups (Member.Run n) (standing_by t at.run.group)
    → Leaves cell b (Member.Run n) (standing_by t at.run.group) groups after) → Leaves cell b (Member.Run n) (run_standing at.run) groups after
run_has_left p b groups n at kept is s stood cell after named leaves =
    let stands = stood at.run.group in
    subst (λ (t : Standing). Leaves cell b (Member.Run n) t groups after) (sym stands)
    (leaves s named (ap group_of (seen_run p b n at is)) (subst (StandsOnlyThere groups (Member.Run n)) stands (run_stands_only p b groups n at kept is)))
