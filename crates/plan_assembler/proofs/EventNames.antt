-- Which texts are among the names that were set in a mapping.
use Rattle.std.proofs.Common.{◌≡◌, ◌||◌, ℕ, Bool, true, false, List, [], ◌∷◌, Ordering, Less, Equal, Greater, nat_cmp, Result, Ok, Err, IfOk, refl, ap, sym, ◌∙◌}
use Rattle.std.proofs.lemmas.Map.Text.{is_eq-slice_cmp}
use Rattle.std.proofs.lemmas.Slice.Eq.{bytes_eq-Decides}
use Rattle.std.specs.Cmp.Lexicographic.{slice_cmp}
use Rattle.std.specs.List.Sorted.{IsStrictlySortedBy}
use Rattle.std.specs.Ordering.{is_eq, match_ordering}
use Rattle.std.specs.Str.{bytes_eq}
use Rattle.flow_model.specs.Mapping.{keys_of, with_pair}
use Rattle.flow_model.specs.declared.flow.Workflow.{Workflow}
use Rattle.plan_assembler.specs.Events.{AreEvents, Marked, is_named, with_names, with_events}
use Rattle.plan_assembler.specs.Layout.{is_one_of}

or_twice : (a b : Bool) → (a || b) ≡ (a || (a || b))
or_twice true b = refl
or_twice false b = refl

or_swap : (a b c : Bool) → (a || (b || c)) ≡ (b || (a || c))
or_swap true true c = refl
or_swap true false c = refl
or_swap false b c = refl

or_middle : (a b c : Bool) → (a || (b || c)) ≡ ((b || a) || c)
or_middle true true c = refl
or_middle true false c = refl
or_middle false true c = refl
or_middle false false c = refl

or_none : (a : Bool) → (a || false) ≡ a
or_none true = refl
or_none false = refl

same_name : (a b : List ℕ) → slice_cmp nat_cmp a b ≡ Equal → a ≡ b
same_name a b e = (bytes_eq-Decides a b).0 (sym (is_eq-slice_cmp a b) ∙ ap is_eq e)

set_case : (key name first : List ℕ) (rest : Marked) (o : Ordering) → slice_cmp nat_cmp key first ≡ o
    → is_one_of (keys_of (with_pair key tt rest)) name ≡ (bytes_eq name key || is_one_of (keys_of rest) name)
    → is_one_of (keys_of (match_ordering o ((key, tt) ∷ (first, tt) ∷ rest) ((first, tt) ∷ rest) ((first, tt) ∷ with_pair key tt rest))) name
    ≡ (bytes_eq name key || (bytes_eq name first || is_one_of (keys_of rest) name))
set_case key name first rest Less e later = refl
set_case key name first rest Equal e later = rw (same_name key first e) (or_twice (bytes_eq name first) (is_one_of (keys_of rest) name))
set_case key name first rest Greater e later =
    ap (λ b. bytes_eq name first || b) later ∙ or_swap (bytes_eq name first) (bytes_eq name key) (is_one_of (keys_of rest) name)

-- after a name is set it is among them, and so are those before
named_after : (marked : Marked) (key name : List ℕ) → is_one_of (keys_of (with_pair key tt marked)) name ≡ (bytes_eq name key || is_one_of (keys_of marked) name)
named_after [] key name = refl
named_after (m ∷ marked) key name = set_case key name m.0 marked (slice_cmp nat_cmp key m.0) refl (named_after marked key name)

named_by : (names : List (List ℕ)) (marked : Marked) (name : List ℕ) → is_one_of (keys_of (with_names names marked)) name ≡ (is_one_of names name || is_one_of (keys_of marked) name)
named_by [] marked name = refl
named_by (key ∷ names) marked name =
    named_by names (with_pair key tt marked) name ∙ ap (λ b. is_one_of names name || b) (named_after marked key name)
    ∙ or_middle (is_one_of names name) (bytes_eq name key) (is_one_of (keys_of marked) name)

named_by_all : (ws : List Workflow) (marked : Marked) (name : List ℕ) → is_one_of (keys_of (with_events ws marked)) name ≡ (is_named ws name || is_one_of (keys_of marked) name)
named_by_all [] marked name = refl
named_by_all (w ∷ ws) marked name =
    named_by_all ws (with_names w.events marked) name ∙ ap (λ b. is_named ws name || b) (named_by w.events marked name)
    ∙ or_middle (is_named ws name) (is_one_of w.events name) (is_one_of (keys_of marked) name)

-- the names that were set are those of the workflows' events
pub named_events : (ws : List Workflow) (name : List ℕ) → is_one_of (keys_of (with_events ws [])) name ≡ is_named ws name
named_events ws name = named_by_all ws [] name ∙ or_none (is_named ws name)

-- names that were listed of what the workflows' events set
pub listed_events : {E : Type 0} (ws : List Workflow) (marked : Marked) (r : Result (List (List ℕ)) E) → marked ≡ with_events ws [] → IfOk r (λ names. names ≡ keys_of marked)
    → IfOk r (λ names. IsStrictlySortedBy (slice_cmp nat_cmp) names) → IfOk r (AreEvents ws)
listed_events ws marked (Ok names) set same in_order = record { in_order = in_order; named = λ name. rw (same, set) (named_events ws name) }
listed_events ws marked (Err e) set same in_order = tt
