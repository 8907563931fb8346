-- An event that is taken back.
use Rattle.std.proofs.Common.{◌≡◌, ◌⊎◌, ℕ, inl, inr, ◌≤◌, true, false, List, [], ◌∷◌, Option, Some, None, Result, Ok, Err, option_map, option_and_then, slice_get, ap, subst, sym, refl, ◌∙◌, IfOk}
use Rattle.flat_board.specs.Words.{Ascends, Board, CellBack, Content, Event, EventFault, Fits, Follows, FollowsUnasked, GroupedBoard, Held, InPlay, IsAt, IsName, IsSound, KeptAsShown, Known, Leg, LegState, Member, NamesKnown, Plan, Reply, RestoresGroups, Run, RunState, Seen, SeenNamed, Standing, Undo, answer_of, apart, board_before, board_legs, cell_of, content, done_of, group_at, group_of, groups_put_back, holding, is_known, leg_names, leg_standing, leg_stands, name_put_back, put_known, run_names, run_standing, run_stands, seen_at, value_at, waiting, without_reply, ◌>>=◌}
use Rattle.group_admission.proofs.Back.{all_put_back, same_content}
use Rattle.flat_board.proofs.Known.{names_before, names_put_back, stays_in}
use Rattle.flat_board.proofs.Leaving.{awaited_stands, held_stands}
use Rattle.flat_board.proofs.Named.{filled}
use Rattle.flat_board.proofs.Playing.{sound_after}
use Rattle.status_table.proofs.Steps.{standing}
use Rattle.board_decisions.proofs.Lists.{same_some, no_some}

-- ---- what a board shows is one

held_same : (x y : Option Held) → option_map (λ (h : Held). h.holder) x ≡ option_map (λ (h : Held). h.holder) y → option_and_then (λ (h : Held). h.waiter) x ≡ option_and_then (λ (h : Held). h.waiter) y → x ≡ y
held_same None None h w = refl
held_same None (Some y) h w = absurd (no_some y.holder h)
held_same (Some x) None h w = absurd (no_some x.holder (sym h))
held_same (Some x) (Some y) h w = let holder = same_some x.holder y.holder h in (λ i. Some (record { holder = holder i; waiter = w i }))

pub shown_same : (one two : Content) (b : Board) → KeptAsShown one b → KeptAsShown two b → one ≡ two
shown_same one two b first second = same_content one two first.ordered second.ordered found
  where
    found : (q : List ℕ) → value_at q one ≡ value_at q two
    found [] = first.named ∙ sym second.named
    found (c ∷ cs) = held_same (value_at (c ∷ cs) one) (value_at (c ∷ cs) two) (first.shown.holder (c ∷ cs) (filled c cs) ∙ sym (second.shown.holder (c ∷ cs) (filled c cs)))
        (first.shown.waiter (c ∷ cs) (filled c cs) ∙ sym (second.shown.waiter (c ∷ cs) (filled c cs)))

-- ---- who stands at a name is in that group

-- the group that is held or waited for
abbrev stood_for : Standing → Option (List ℕ)
stood_for apart = None
stood_for (holding g) = g
stood_for (waiting g) = g

run_group : (s : RunState) (g : Option (List ℕ)) (name : List ℕ) → stood_for (run_stands s g) ≡ Some name → g ≡ Some name
run_group RunState.Waiting g name is = is
run_group RunState.Going g name is = is
run_group state g name is = absurd (no_some name is)

leg_group : (s : LegState) (g : Option (List ℕ)) (name : List ℕ) → stood_for (leg_stands s g) ≡ Some name → g ≡ Some name
leg_group LegState.Fresh g name is = absurd (no_some name is)
leg_group (LegState.Ended result tolerated) g name is = absurd (no_some name is)
leg_group state g name is = is

standing_group : (b : Board) (m : Member) (s : Standing) (name : List ℕ) → standing b m ≡ Some s → stood_for s ≡ Some name → group_at b m ≡ Some name
standing_group b (Member.Run r) s name is stood = by (slice_get b.runs r) is
  where
    by : (o : Option Run) → option_map run_standing o ≡ Some s → group_of (o >>= run_names) ≡ Some name
    by None is = absurd (no_some s is)
    by (Some run) is = run_group run.state run.group name (ap stood_for (same_some (run_standing run) s is) ∙ stood)
standing_group b (Member.Leg l) s name is stood = by (slice_get (board_legs b) l) is
  where
    by : (o : Option Leg) → option_map leg_standing o ≡ Some s → group_of (o >>= leg_names) ≡ Some name
    by None is = absurd (no_some s is)
    by (Some leg) is = leg_group leg.state leg.group name (ap stood_for (same_some (leg_standing leg) s is) ∙ stood)

-- so it is where the groups that a board shows have it there
at_group : (b : Board) (groups : Content) (m : Member) (name : List ℕ) → KeptAsShown groups b → IsAt m name groups → group_at b m ≡ Some name
at_group b groups m name kept (inl e) = standing_group b m (holding (Some name)) name (held_stands groups b m name kept e) refl
at_group b groups m name kept (inr e) = standing_group b m (waiting (Some name)) name (awaited_stands groups b m name kept e) refl

-- who is in a group is not new
in_group : (known : Known) (s : Seen) (name : List ℕ) → SeenNamed known s → group_of s ≡ Some name → s ≡ Some (false, Some name)
in_group known None name h is = absurd (no_some name is)
in_group known (Some (true, g)) name h is = absurd (no_some name (sym h ∙ is))
in_group known (Some (false, g)) name h is = ap (λ (o : Option (List ℕ)). Some (false, o)) is

-- and the name of the group is one, and known
named_group : (known : Known) (s : Seen) (name : List ℕ) → SeenNamed known s → group_of s ≡ Some name → IsName name × (is_known name known ≡ true)
named_group known s name h is = subst (SeenNamed known) (in_group known s name h is) h

-- ---- an event

module _ (old new : GroupedBoard) (worker : ℕ) (e : Event) (few : worker ≤ 15) (sound : IsSound old)
    (reply : Reply) (follows : Follows old new worker e (Ok reply)) where
  now_sound : IsSound new
  now_sound = sound_after old new worker e few sound (Ok reply) follows

  -- the member that asked for a name is in its group after the event
  asked_for : (m : Member) (name : List ℕ) → (group_at old.state.board m ≡ Some name) ⊎ IsAt m name (content new.groups) → group_at new.state.board m ≡ Some name
  asked_for m name (inl was) =
      ap group_of (stays_in old.state.plan old.state.board worker e (new.state.board, reply) m (Some name) follows.answers (in_group old.groups (seen_at old.state.board m) name (sound.names m) was))
  asked_for m name (inr is) = at_group new.state.board (content new.groups) m name now_sound.kept is

  -- the names that are held are put back
  restored : (cell : Option CellBack) → RestoresGroups cell old new → (known : Known) → Ascends known → content known ≡ content new.groups → NamesKnown known new.state.board
      → content (groups_put_back cell new.state.board known) ≡ content old.groups
  restored None back known up same names = same ∙ back
  restored (Some cell) back known up same names =
      let group = asked_for cell.who back.name back.of_who in
      let named = named_group known (seen_at new.state.board cell.who) back.name (names cell.who) group in
      ap (λ (g : Option (List ℕ)). content (name_put_back g cell.held known)) group
      ∙ ap (λ (n : List ℕ). content (put_known n cell.held known)) named.0.folded
      ∙ all_put_back back.name cell.held known (content old.groups) up named.1 sound.kept.ordered back.held (λ q differs. ap (value_at q) same ∙ back.others q differs)

  -- what takes an event back fits the board that the event led to
  pub fits_back : (undo : Undo) → board_before undo new.state.board ≡ old.state.board → RestoresGroups (cell_of undo) old new → Fits undo new.state.plan new.state.board
  fits_back undo back cell = record {
    in_play = subst (InPlay new.state.plan) (sym back) (subst (λ (p : Plan). InPlay p old.state.board) (sym follows.plan) sound.in_play);
    kept = λ known up shows names.
        let held = restored (cell_of undo) cell known up (shown_same (content known) (content new.groups) new.state.board shows now_sound.kept) names in
        subst (KeptAsShown (content (groups_put_back (cell_of undo) new.state.board known))) (sym back) (subst (λ (g : Content). KeptAsShown g old.state.board) (sym held) sound.kept);
    names = λ known up shows names.
        subst (NamesKnown (groups_put_back (cell_of undo) new.state.board known)) (sym back)
        (names_put_back (cell_of undo) new.state.board old.state.board known (names_before old.state.plan old.state.board worker e (new.state.board, reply) old.groups known follows.answers sound.names names));
  }

-- so it is with each answer
pub fits_all : (old new : GroupedBoard) (worker : ℕ) (e : Event) → worker ≤ 15 → IsSound old
    → (result : Result (Reply × Undo) EventFault) → Follows old new worker e (answer_of result)
    → IfOk result (λ both. board_before both.1 new.state.board ≡ old.state.board)
    → IfOk result (λ both. RestoresGroups (cell_of both.1) old new)
    → IfOk result (λ both. Fits both.1 new.state.plan new.state.board)
fits_all old new worker e few sound (Ok both) follows back cell =
    fits_back old new worker e few sound both.0 follows both.1 back cell
fits_all old new worker e few sound (Err f) follows back cell = tt

-- and with each that came without a reply
pub fits_unasked : (old new : GroupedBoard) (worker : ℕ) (e : Event) → worker ≤ 15 → IsSound old
    → (result : Result Undo EventFault) → FollowsUnasked old new worker e (done_of result)
    → IfOk result (λ undo. board_before undo new.state.board ≡ old.state.board)
    → IfOk result (λ undo. RestoresGroups (cell_of undo) old new)
    → IfOk result (λ undo. Fits undo new.state.plan new.state.board)
fits_unasked old new worker e few sound (Ok undo) follows back cell = by_answer follows.answer follows.follows follows.same
  where
    by_answer : (answer : Result Reply EventFault) → Follows old new worker e answer → Ok tt ≡ without_reply answer → Fits undo new.state.plan new.state.board
    by_answer (Ok reply) told is = fits_back old new worker e few sound reply told undo back cell
    by_answer (Err f) told is = absurd (cc)
fits_unasked old new worker e few sound (Err f) follows back cell = tt

-- the board before is as sound
pub sound_before : (old new : GroupedBoard) (undo : Undo) → Ascends old.groups → IsSound old → Fits undo old.state.plan old.state.board
    → new.state.plan ≡ old.state.plan → new.state.board ≡ board_before undo old.state.board → new.groups ≡ groups_put_back (cell_of undo) old.state.board old.groups → IsSound new
sound_before old new undo up sound fits plan_is board_is groups_are = record {
  in_play = subst (λ (p : Plan). InPlay p new.state.board) (sym plan_is) (subst (InPlay old.state.plan) (sym board_is) fits.in_play);
  kept = subst (λ (g : Known). KeptAsShown (content g) new.state.board) (sym groups_are)
      (subst (KeptAsShown (content (groups_put_back (cell_of undo) old.state.board old.groups))) (sym board_is) (fits.kept old.groups up sound.kept sound.names));
  names = subst (λ (g : Known). NamesKnown g new.state.board) (sym groups_are)
      (subst (NamesKnown (groups_put_back (cell_of undo) old.state.board old.groups)) (sym board_is) (fits.names old.groups up sound.kept sound.names));
}
