-- The history of one thread, one entry more.
use Rattle.std.proofs.Common.{◌≡◌, ℕ, ◌-◌, ◌<◌, ◌≤◌, Bool, true, false, List, [], ◌∷◌, ◌++◌, Some, length, take, slice_get, nat_lt, ap, subst, sym, refl, ◌∙◌, arith}
use Rattle.std.proofs.lemmas.List.{length-append, take-append-le, take_all}
use Rattle.std.proofs.lemmas.Option.{slice_get_within}
use Rattle.status_table.specs.Words.{Answer, Board, Entry, Event, Plan, Reply, StepCall, after, new_board, open_call}
use Rattle.board_decisions.proofs.Lists.{get-left, get-right, no_some, same_some}
use Rattle.status_table.proofs.RunsLemmas.{after_from-last}
use Rattle.step_host.specs.Lawful.{EndsAdmitted}
use Rattle.step_host.proofs.Lawfulness.{none_is_lawful, lawful_grows}
use Rattle.worker_pool.specs.Alone.{IsNext, PlayedAlone}
use Rattle.worker_pool.specs.Hand.{Playing}
use Rattle.worker_pool.specs.History.{is_cancel, Added}
use Rattle.worker_pool.proofs.Legs.{EachAt}

-- ---- lists with one more at the end

front : {T : Type 0} (xs : List T) (x : T) → take (length xs) (xs ++ x ∷ []) ≡ xs
front xs x = take-append-le (length xs) xs (x ∷ []) (omega arith) ∙ take_all (length xs) xs (omega arith)

pub each-last : {T : Type 0} (P : ℕ → T → Type 0) (xs : List T) (x : T) → EachAt P xs → P (length xs) x → EachAt P (xs ++ x ∷ [])
each-last {T} P xs x each here k y there = by_place (nat_lt k (length xs)) refl
  where
    by_place : (c : Bool) → nat_lt k (length xs) ≡ c → P k y
    by_place true is =
        let within : k < length xs = grind (arith, is) in
        each k y (sym (get-left xs (x ∷ []) k within) ∙ there)
    by_place false is =
        let within = slice_get_within (xs ++ x ∷ []) k y there in
        let many = length-append xs (x ∷ []) in
        let over : length xs ≤ k = grind (arith, is) in
        let at : k ≡ length xs = omega (arith, within, many, over) in
        let zeroth : k - length xs ≡ 0 = omega (arith, at) in
        let last : slice_get (x ∷ []) 0 ≡ Some y = ap (slice_get (x ∷ [])) (sym zeroth) ∙ sym (get-right xs (x ∷ []) k over) ∙ there in
        subst (λ n. P n y) (sym at) (subst (P (length xs)) (same_some x y last) here)

-- the same for a fact about the items before each, too
each_after-last : {T : Type 0} (P : List T → T → Type 0) (xs : List T) (x : T) → EachAt (λ k y. P (take k xs) y) xs → P xs x
    → EachAt (λ k y. P (take k (xs ++ x ∷ [])) y) (xs ++ x ∷ [])
each_after-last P xs x each here =
    each-last (λ k y. P (take k (xs ++ x ∷ [])) y) xs x
    (λ k y there. let within = slice_get_within xs k y there in
    subst (λ zs. P zs y) (sym (take-append-le k xs (x ∷ []) (omega (arith, within)))) (each k y there))
    (subst (λ zs. P zs x) (sym (front xs x)) here)

-- ---- histories of one thread

pub nothing_played : (admits : StepCall → Answer → Type 0) (p : Plan) → PlayedAlone admits p []
nothing_played admits p = record {
  lawful = none_is_lawful admits p;
  worker = λ k e there. absurd (no_some e there);
  uncancelled = λ k e there. absurd (no_some e there);
  in_turn = λ k e b there. absurd (no_some e there);
}

-- an entry of worker 0 that is next, and whose answer is admitted
pub plays_on : (admits : StepCall → Answer → Type 0) (p : Plan) (b c : Board) (es more : List Entry) (e : Event) (told : Reply) → Playing admits p b es
    → Added p b es (record { worker = 0; event = e }) told c more → is_cancel e ≡ false → IsNext p b e → EndsAdmitted admits (open_call p es) e → Playing admits p c more
plays_on admits p b c es more e told playing added mild next admitted = record {
  in_play = added.in_play;
  leads = subst (λ (xs : List Entry). after p xs ≡ Some c) (sym added.history) (after_from-last p (new_board p) b c es entry told playing.leads added.accepted);
  played = subst (PlayedAlone admits p) (sym added.history) (record {
    lawful = lawful_grows admits p es b c entry told playing.played.lawful playing.leads added.accepted admitted;
    worker = each-last (λ k d. d.worker ≡ 0) es entry playing.played.worker refl;
    uncancelled = each-last (λ k d. is_cancel d.event ≡ false) es entry playing.played.uncancelled mild;
    in_turn = λ k d new there leads. turn k d there new leads;
  });
}
  where
    entry : Entry
    entry = record { worker = 0; event = e }

    now : (new : Board) → after p es ≡ Some new → IsNext p new e
    now new leads = subst (λ (x : Board). IsNext p x e) (same_some b new (sym playing.leads ∙ leads)) next

    turn : EachAt (λ k d. (new : Board) → after p (take k (es ++ entry ∷ [])) ≡ Some new → IsNext p new d.event) (es ++ entry ∷ [])
    turn = each_after-last (λ xs d. (new : Board) → after p xs ≡ Some new → IsNext p new d.event) es entry (λ k d there new leads. playing.played.in_turn k d new there leads) now
