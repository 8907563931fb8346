-- A plan in play with its groups, after an event.
use Rattle.std.proofs.Common.{◌≡◌, ℕ, zero, suc, ◌≤◌, Bool, List, [], ◌∷◌, map, slice_get, None, Result, Ok, Err, nat_le, if◌then◌else◌, ap, subst, sym, refl, ◌∙◌}
use Rattle.std.proofs.lemmas.Bool.{le-leb}
use Rattle.flat_board.specs.Words.{Answers, Board, Content, Entry, Event, EventFault, Follows, FollowsUnasked, Goes, GroupedBoard, InPlay, IsPlan, IsSound, Job, KeptAsShown, Known, Led, Leg, Member, NamesKnown, Plan, Play, Plays, Reply, Row, Seen, SeenNamed, SoundPlan, Stays, Undo, after_event, board_legs, content, done_of, event_row, flat_map, is_known, leg_names, new_board, new_job, new_leg, new_play, new_run, plan_jobs, plan_legs, play_of, row, run_names, ◌>>=◌}
use Rattle.status_table.proofs.Lists.{flat_map-map}
use Rattle.flat_board.proofs.GroupLaws.{group_laws}
use Rattle.flat_board.proofs.Known.{names_after}
use Rattle.status_table.proofs.Ended.{stays-same}
use Rattle.status_table.proofs.Grouped.{event_kept, new_kept}
use Rattle.status_table.proofs.InPlay.{new_in_play, answer_in_play}
use Rattle.status_table.proofs.WithoutReply.{left_of, left_plays}

each_new : {A B : Type 0} (P : Seen → Type 0) (f : A → B) (h : B → Seen) (xs : List A) (k : ℕ) → P None → ((x : A) → P (h (f x))) → P (slice_get (map f xs) k >>= h)
each_new P f h [] k none step = none
each_new P f h (x ∷ xs) zero none step = step x
each_new P f h (x ∷ xs) (suc k) none step = each_new P f h xs k none step

-- where all is new no name stands on the board
new_names : (p : Plan) → NamesKnown [] (new_board p)
new_names p (Member.Run r) = each_new (SeenNamed []) new_run run_names p.runs r tt (λ run. refl)
new_names p (Member.Leg l) = subst (λ (legs : List Leg). SeenNamed [] (slice_get legs l >>= leg_names)) (sym new_legs) (each_new (SeenNamed []) new_leg leg_names (plan_legs p) l tt (λ leg. refl))
  where
    new_legs : board_legs (new_board p) ≡ map new_leg (plan_legs p)
    new_legs =
        ap (flat_map (λ (job : Job). job.legs)) (flat_map-map new_run (λ run. run.jobs) new_job (λ run. run.jobs) p.runs (λ run. refl))
        ∙ flat_map-map new_job (λ job. job.legs) new_leg (λ job. job.legs) (plan_jobs p) (λ job. refl)

-- the board on which all is new shows that nobody is in a group
pub new_sound : (p : Plan) (made : GroupedBoard) → IsPlan p → SoundPlan p → play_of made.state ≡ new_play p → made.groups ≡ [] → IsSound made
new_sound p made rules sound is none = record {
  in_play = subst (λ (x : Play). InPlay x.plan x.board) (sym is) (new_in_play p p (new_board p) refl rules sound refl);
  kept = subst (λ (g : Known). KeptAsShown (content g) made.state.board) (sym none) (subst (λ (x : Play). KeptAsShown [] x.board) (sym is) (new_kept p));
  names = subst (λ (g : Known). NamesKnown g made.state.board) (sym none) (subst (λ (x : Play). NamesKnown [] x.board) (sym is) (new_names p));
}

module _ (old new : GroupedBoard) (worker : ℕ) (e : Event) (few : worker ≤ 15) (sound : IsSound old) where
  abbrev p : Plan
  p = old.state.plan

  abbrev b : Board
  b = old.state.board

  kept : (result : Result Reply EventFault) → Follows old new worker e result → KeptAsShown (content new.groups) new.state.board
  kept (Ok reply) follows =
      let accepted : (if nat_le worker 15 then event_row p b worker e else Err EventFault.NoSuch) ≡ Ok (new.state.board, reply) =
      ap (λ c. if c then event_row p b worker e else Err EventFault.NoSuch) (le-leb worker 15 few) ∙ follows.answers in
      subst (λ (g : Content). KeptAsShown g new.state.board) (sym follows.groups.held)
      (event_kept group_laws p b worker (content old.groups) sound.in_play.laws sound.kept e (new.state.board, reply) accepted)
  kept (Err f) follows =
      subst (λ (g : Known). KeptAsShown (content g) new.state.board) (sym follows.groups) (subst (KeptAsShown (content old.groups)) (sym follows.answers.1) sound.kept)

  names : (result : Result Reply EventFault) → Follows old new worker e result → NamesKnown new.groups new.state.board
  names (Ok reply) follows = names_after p b worker old.groups new.groups follows.groups.known sound.names e (new.state.board, reply) follows.groups.held follows.answers
  names (Err f) follows = subst (λ (g : Known). NamesKnown g new.state.board) (sym follows.groups) (subst (NamesKnown old.groups) (sym follows.answers.1) sound.names)

  led : (result : Result Reply EventFault) → Follows old new worker e result → InPlay p new.state.board × Stays b new.state.board
  led result follows = answer_in_play p p b new.state.board worker e result refl sound.in_play follows.answers

  -- it is as sound after an event as before it
  pub sound_after : (result : Result Reply EventFault) → Follows old new worker e result → IsSound new
  sound_after result follows = record {
    in_play = subst (λ (q : Plan). InPlay q new.state.board) (sym follows.plan) (led result follows).0;
    kept = kept result follows;
    names = names result follows;
  }

  -- and what had ended is as it was
  pub stays_after : (result : Result Reply EventFault) → Follows old new worker e result → Stays b new.state.board
  stays_after result follows = (led result follows).1

-- groups that stay go where an event leaves them that asks nothing of them
stay : (old new : Known) → new ≡ old → (answer : Result Reply EventFault) → Goes answer old (content old) new
stay old new same (Ok reply) = record { held = ap content same; known = λ name h. ap (is_known name) same ∙ h }
stay old new same (Err f) = same

-- An event whose reply nobody asks for is played without it, where the event leaves the groups as they are.
pub led_unasked : (old new : GroupedBoard) (worker : ℕ) (e of : Event) (result : Result (Unit {0}) EventFault) (undo : Result Undo EventFault) → e ≡ of → result ≡ done_of undo
    → after_event old.state.plan old.state.board (content old.groups) of ≡ content old.groups → Led old new worker of undo → FollowsUnasked old new worker e result
led_unasked old new worker e of result undo e_is result_is stays led =
    let left = left_of (event_row old.state.plan old.state.board worker of) old.state.board (done_of undo) new.state.board led.leads in
    subst (λ (x : Event). FollowsUnasked old new worker x result) (sym e_is) (record {
      answer = left.answer;
      follows = record {
        plan = led.plan;
        answers = left.answers;
        groups = subst (λ (to : Content). Goes left.answer old.groups to new.groups) (sym stays) (stay old.groups new.groups led.groups left.answer);
      };
      same = result_is ∙ left.same;
    })

-- An event without its reply is as the entry's answer without it.
pub plays_unasked : (old new : GroupedBoard) (e : Entry) (result : Result (Unit {0}) EventFault) → e.worker ≤ 15
    → FollowsUnasked old new e.worker e.event result → Plays old.state.plan old.state.board e result new.state.board
plays_unasked old new e result few follows =
    let p = old.state.plan in
    let b = old.state.board in
    let r = event_row p b e.worker e.event in
    let row_is : row p b e.worker e.event ≡ r = ap (λ (c : Bool). if c then r else Err EventFault.NoSuch) (le-leb e.worker 15 few) in
    subst (λ (x : Result (Unit {0}) EventFault). Plays p b e x new.state.board) (sym follows.same)
    (left_plays p b e follows.answer new.state.board (subst (λ (x : Row). Answers x b follows.answer new.state.board) (sym row_is) follows.follows.answers))

-- where nothing is changed, what had ended is as it was
pub stays_same : (b : Board) → Stays b b
stays_same b = stays-same b
