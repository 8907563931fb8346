-- Who holds the group that a member waits for, where no leg is Admitted or running.
use Rattle.std.proofs.Common.{◌≡◌, ℕ, ◌≤◌, ◌&&◌, ◌||◌, Bool, true, false, not, List, Option, Some, None, slice_get, ap, sym, refl, ◌∙◌, arith}
use Rattle.std.specs.List.{list_all}
use Rattle.std.specs.Str.{bytes_eq}
use Rattle.std.proofs.lemmas.Bool.{true≢false}
use Rattle.std.proofs.lemmas.Slice.Eq.{bytes_eq-Decides}
use Rattle.status_table.specs.Words.{Board, Lawful, Leg, LegState, Member, OneHolder, Plan, Run, RunState, Standing, apart, board_legs, holder, holding, is_active, is_fresh, is_going, is_named, is_open, is_under_way, is_waiting, leg_standing, leg_stands, leg_stands_right, run_standing, run_stands, share_name, waiters, waiting, waits_name}
use Rattle.worker_pool.specs.Stalls.{WaitsForAnotherRun}
use Rattle.board_decisions.proofs.Lists.{and-right, same_some}
use Rattle.status_table.proofs.Counts.{counted, map-some}
use Rattle.status_table.proofs.LegRows.{job-fits}
use Rattle.status_table.proofs.Lists.{all-get}
use Rattle.status_table.proofs.Turnover.{no_holder, a_holder, lives}

-- a name is its own
pub named-so : (name : List ℕ) → bytes_eq name name ≡ true
named-so name = (bytes_eq-Decides name name).1 refl

-- ---- who holds

no-hold : (name : Option (List ℕ)) → apart ≡ holding name → ⊥
no-hold name h = cc

waits-no-hold : (group name : Option (List ℕ)) → waiting group ≡ holding name → ⊥
waits-no-hold group name h = cc

same-held : (group name : Option (List ℕ)) → holding group ≡ holding name → group ≡ name
same-held group name h = cc

run-holds : (s : RunState) (group name : Option (List ℕ)) → run_stands s group ≡ holding name → (s ≡ RunState.Going) × (group ≡ name)
run-holds RunState.New group name h = absurd (no-hold name h)
run-holds RunState.Waiting group name h = absurd (waits-no-hold group name h)
run-holds RunState.Going group name h = (refl, same-held group name h)
run-holds (RunState.Closed result) group name h = absurd (no-hold name h)

leg-holds : (s : LegState) (group name : Option (List ℕ)) → leg_stands s group ≡ holding name → is_active s ≡ true
leg-holds LegState.Fresh group name h = absurd (no-hold name h)
leg-holds LegState.Waiting group name h = absurd (waits-no-hold group name h)
leg-holds LegState.Admitted group name h = refl
leg-holds (LegState.Running worker in_call) group name h = refl
leg-holds (LegState.Ended result tolerated) group name h = absurd (no-hold name h)

-- no leg has a worker, or may be taken by one
abbrev pub IsQuiet : Board → Type 0
IsQuiet b = list_all (λ leg. not (is_active leg.state)) (board_legs b) ≡ true

-- a Going run that holds a name
pub record HoldingRun (b : Board) (name : List ℕ) : Type 0 where
  pub place : ℕ
  pub run : Run
  pub there : slice_get b.runs place ≡ Some run
  pub going : run.state ≡ RunState.Going
  pub holds : run.group ≡ Some name

pub holding_run : (b : Board) (name : List ℕ) → OneHolder b → IsQuiet b → 1 ≤ waiters b name → HoldingRun b name
holding_run b name one quiet some = by (holder b name) refl
  where
    by : (o : Option Member) → holder b name ≡ o → HoldingRun b name
    by None is =
        let nobody = no_holder b name is in
        let fewer = one.waiter name in
        absurd (omega (arith, some, nobody, fewer))
    by (Some (Member.Run r)) is =
        let run = map-some run_standing (slice_get b.runs r) (holding (Some name)) (a_holder b name (Member.Run r) is).0 in
        let how = run-holds run.0.state run.0.group (Some name) run.2 in
        record { place = r; run = run.0; there = run.1; going = how.0; holds = how.1 }
    by (Some (Member.Leg l)) is =
        let leg = map-some leg_standing (slice_get (board_legs b) l) (holding (Some name)) (a_holder b name (Member.Leg l) is).0 in
        let active = leg-holds leg.0.state leg.0.group (Some name) leg.2 in
        let still = all-get (λ (x : Leg). not (is_active x.state)) (board_legs b) l leg.0 leg.1 quiet in
        absurd (true≢false (sym still ∙ ap not active))

-- ---- who waits

-- a test that a member passes where, if it waits, it waits for a name
abbrev pub has_name : Standing → Bool
has_name apart = true
has_name (holding name) = true
has_name (waiting None) = false
has_name (waiting (Some name)) = true

no-name : (group : Option (List ℕ)) → has_name (waiting group) ≡ true → (name : List ℕ) × (group ≡ Some name)
no-name None h = absurd (true≢false (sym h))
no-name (Some name) h = (name, refl)

-- a leg that waits rightly does not share its run's name
waits-not-own : (run : RunState) (group : Option (List ℕ)) (opened : Bool) (wanted : Option (List ℕ)) (s : LegState) → s ≡ LegState.Waiting
    → is_fresh s || (opened && (not (is_under_way s) || (is_going run && not (is_waiting s && share_name group wanted)))) ≡ true → share_name group wanted ≡ false
waits-not-own run group opened wanted s is right =
    let fits : opened && (is_going run && not (share_name group wanted)) ≡ true =
    sym (ap (λ t. is_fresh t || (opened && (not (is_under_way t) || (is_going run && not (is_waiting t && share_name group wanted))))) is) ∙ right in
    not-true (share_name group wanted)
    (and-right (is_going run) (not (share_name group wanted)) (and-right opened (is_going run && not (share_name group wanted)) fits))
  where
    not-true : (c : Bool) → not c ≡ true → c ≡ false
    not-true true h = sym h
    not-true false h = refl

-- a run that waits does so for a name that a Going run holds
pub run_waits_for : (b : Board) (r : ℕ) (run : Run) → OneHolder b → IsQuiet b → list_all (λ run. has_name (run_standing run)) b.runs ≡ true → slice_get b.runs r ≡ Some run
    → run.state ≡ RunState.Waiting → (name : List ℕ) × HoldingRun b name
run_waits_for b r run one quiet named at waits =
    let stood : run_standing run ≡ waiting run.group = ap (λ s. run_stands s run.group) waits in
    let name = no-name run.group (sym (ap has_name stood) ∙ all-get (λ (x : Run). has_name (run_standing x)) b.runs r run at named) in
    let passes : waits_name name.0 (run_standing run) ≡ true = ap (waits_name name.0) (stood ∙ ap waiting name.1) ∙ named-so name.0 in
    let some = counted (λ (x : Run). waits_name name.0 (run_standing x)) b.runs r run at passes in
    (name.0, holding_run b name.0 one quiet (omega (arith, some)))

-- and so does a leg, whose own run it is not
pub leg_waits_for : (p : Plan) (b : Board) (l : ℕ) (leg : Leg) → Lawful p b → IsQuiet b → list_all (λ leg. has_name (leg_standing leg)) (board_legs b) ≡ true
    → slice_get (board_legs b) l ≡ Some leg → leg.state ≡ LegState.Waiting → WaitsForAnotherRun p b
leg_waits_for p b l leg lawful quiet named there waits =
    let stood : leg_standing leg ≡ waiting leg.group = ap (λ s. leg_stands s leg.group) waits in
    let name = no-name leg.group (sym (ap has_name stood) ∙ all-get (λ (x : Leg). has_name (leg_standing x)) (board_legs b) l leg there named) in
    let passes : waits_name name.0 (leg_standing leg) ≡ true = ap (waits_name name.0) (stood ∙ ap waiting name.1) ∙ named-so name.0 in
    let some = counted (λ (x : Leg). waits_name name.0 (leg_standing x)) (board_legs b) l leg there passes in
    let held = holding_run b name.0 lawful.one quiet (omega (arith, some)) in
    let here = lives p b l leg lawful.fits there (ap is_under_way waits) in
    let at = here.at in
    let state : at.leg.state ≡ LegState.Waiting = ap (λ (x : Leg). x.state) here.leg_is ∙ waits in
    let wanted : at.leg.group ≡ Some name.0 = ap (λ (x : Leg). x.group) here.leg_is ∙ name.1 in
    let stands = here.live.stands in
    let fits = job-fits p b l at lawful.fits stands in
    let right = all-get (leg_stands_right at.run.state at.run.group at.job.state) at.job.legs at.place.leg at.leg stands.leg fits.legs in
    record {
      leg = l;
      at = record { board = b; place = at.place; run_plan = at.run_plan; job_plan = at.job_plan; run = at.run; job = at.job; leg = at.leg };
      name = name.0;
      other = held.place;
      run = held.run;
      found = rw (stands.place, stands.in_plan, stands.in_board, stands.job_plan, stands.job, stands.leg) refl;
      waits = state;
      wanted = wanted;
      there = held.there;
      going = held.going;
      holds = held.holds;
      another = λ same.
          let own : at.run ≡ held.run = same_some at.run held.run (sym stands.in_board ∙ ap (slice_get b.runs) (sym same) ∙ held.there) in
          let group : at.run.group ≡ Some name.0 = ap (λ (x : Run). x.group) own ∙ held.holds in
          let shared : share_name at.run.group at.leg.group ≡ true =
          ap (λ g. share_name at.run.group g) wanted ∙ ap (λ g. is_named name.0 g) group ∙ named-so name.0 in
          true≢false (sym shared ∙ waits-not-own at.run.state at.run.group (is_open at.job.state) at.leg.group at.leg.state state right);
    }
