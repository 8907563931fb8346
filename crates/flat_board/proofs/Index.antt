-- What the index of groups tells of a board.
use Rattle.std.proofs.Common.{◌≡◌, ◌⊎◌, ℕ, inl, inr, false, List, [], ◌∷◌, Option, Some, None, option_map, option_and_then, if◌then◌else◌, ap, refl, ◌∙◌}
use Rattle.flat_board.specs.Words.{Board, Content, Held, IsAt, IsName, KeptAsShown, Member, NameChanged, after_at, after_enter, fold, holder, holder_of, is_own, value_at, waiter, waiter_of, with_pair}
use Rattle.group_admission.specs.Content.{is_own as own_run}
use Rattle.flow_model.proofs.Lookups.{found_other, found_same}

-- who holds the name of a group, by the index
pub holder_told : (groups : Content) (b : Board) (name : List ℕ) → IsName name → KeptAsShown groups b → holder_of (fold name) groups ≡ holder b name
holder_told groups b name named kept = ap (λ n. holder_of n groups) named.folded ∙ kept.shown.holder name named.some

-- who waits for the name of a group, by the index
pub waiter_told : (groups : Content) (b : Board) (name : List ℕ) → IsName name → KeptAsShown groups b → waiter_of (fold name) groups ≡ waiter b name
waiter_told groups b name named kept = ap (λ n. waiter_of n groups) named.folded ∙ kept.shown.waiter name named.some

-- whether a holder is the own run is asked in one way
pub own_same : (own : Option ℕ) (h : Member) → own_run own h ≡ is_own own h
own_same None h = refl
own_same (Some r) (Member.Run s) = refl
own_same (Some r) (Member.Leg l) = refl

-- ---- what leads back from a member that entered

entered_back : (b : Board) (name : List ℕ) (m : Member) (held : Held) (was : Option Held) (gs now : Content) → now ≡ with_pair name held gs → value_at name gs ≡ was
    → (held.holder ≡ m) ⊎ (held.waiter ≡ Some m) → NameChanged (record { who = m; held = was }) b gs now
entered_back b name m held was gs now is before at = record {
  name = name;
  of_who = inr (by at);
  held = before;
  others = λ q differs. ap (value_at q) is ∙ found_other q name held gs differs;
}
  where
    found : value_at name now ≡ Some held
    found = ap (value_at name) is ∙ found_same name held gs

    by : (held.holder ≡ m) ⊎ (held.waiter ≡ Some m) → IsAt m name now
    by (inl e) = inl (ap (option_map (λ (x : Held). x.holder)) found ∙ ap (λ (x : Member). Some x) e)
    by (inr e) = inr (ap (option_and_then (λ (x : Held). x.waiter)) found ∙ e)

-- one that nobody held
pub free_back : (b : Board) (name : List ℕ) (m : Member) (own : Option ℕ) (gs now : Content) → IsName name → value_at name gs ≡ None → now ≡ after_enter name m own gs
    → NameChanged (record { who = m; held = None }) b gs now
free_back b [] m own gs now named free is = absurd (named.some refl)
free_back b (c ∷ cs) m own gs now named free is =
    entered_back b (c ∷ cs) m (record { holder = m; waiter = None }) None gs now (is ∙ ap (λ o. after_at (c ∷ cs) m own o gs) free) free (inl refl)

-- one that another holds
pub queued_back : (b : Board) (name : List ℕ) (m : Member) (own : Option ℕ) (held : Held) (gs now : Content) → IsName name → value_at name gs ≡ Some held → is_own own held.holder ≡ false
    → now ≡ after_enter name m own gs → NameChanged (record { who = m; held = Some held }) b gs now
queued_back b [] m own held gs now named at other is = absurd (named.some refl)
queued_back b (c ∷ cs) m own held gs now named at other is =
    let held' : Held = record { holder = held.holder; waiter = Some m } in
    entered_back b (c ∷ cs) m held' (Some held) gs now
    (is ∙ ap (λ o. after_at (c ∷ cs) m own o gs) at ∙ ap (λ d. if d then gs else with_pair (c ∷ cs) held' gs) (own_same own held.holder ∙ other)) at (inr refl)
