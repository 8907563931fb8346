-- What is told of a board, beside the one before it, is added piece by piece.
use Rattle.std.proofs.Common.{◌≡◌, ◌<◌, ◌≤◌, ◌+◌, ℕ, suc, List, [], ◌∷◌, ◌++◌, get_or, length, drop, String, string_bytes, Result, Ok, Err, OnOk, refl, sym, ap, ◌∙◌, subst, append_assoc, append-nil, drop-cons, arith}
use Rattle.std.proofs.lemmas.List.{drop_all}
use Rattle.std.specs.declared.alloc.Global.{Global}
use Rattle.plan_text.specs.BoardText.{Adds}
use Rattle.plan_text.specs.Changes.{AddsOf, TellsBoth, TellsEach}

-- ---- words of two parts

module _ (First Then : List ℕ → Type 0) (old mid new : String Global) where
  both : AddsOf First old mid → AddsOf Then mid new → AddsOf (TellsBoth First Then) old new
  both (one, first, is) (later, next, more) =
      (one ++ later, (one, later, first, next, refl), more ∙ ap (λ (l : List ℕ). l ++ later) is ∙ append_assoc (string_bytes old) one later)

  pub told_both : {E : Type 0} (r : Result (Unit {0}) E) → AddsOf First old mid → OnOk r (AddsOf Then mid new) → OnOk r (AddsOf (TellsBoth First Then) old new)
  told_both (Ok done) first next = both first next
  told_both (Err e) first next = tt

module _ (First : List ℕ → Type 0) (words : List ℕ) (old mid new : String Global) where
  -- the second part has these words
  pub told_before : {E : Type 0} (r : Result (Unit {0}) E) → AddsOf First old mid → OnOk r (Adds mid new words)
      → OnOk r (AddsOf (λ told. (one : List ℕ) × First one × (told ≡ one ++ words)) old new)
  told_before (Ok done) (one, first, is) more =
      (one ++ words, (one, first, refl), more ∙ ap (λ (l : List ℕ). l ++ words) is ∙ append_assoc (string_bytes old) one words)
  told_before (Err e) first more = tt

-- ---- things, one after the other

-- the item at a place, and those after it
pub at_place : {X : Type 0} (ys : List X) (i : ℕ) (y : X) → i < length ys → y ≡ get_or ys i y → drop i ys ≡ y ∷ drop (i + 1) ys
at_place {X} ys i y within is =
    let next : suc i ≡ i + 1 = omega arith in
    drop-cons ys i y within ∙ ap (λ (z : X). z ∷ drop (suc i) ys) (sym is) ∙ ap (λ (k : ℕ). y ∷ drop k ys) next

module _ {N X : Type 0} (after : N → X → N) (Tells : N → X → X → List ℕ → Type 0) (first : N) (before xs : List X) (old : String Global) where
  abbrev pub Left : N → ℕ → List ℕ → Type 0
  Left n i told = TellsEach after Tells n (drop i before) (drop i xs) told

  -- up to a place: whatever is told of the others, all is told by it after what was added
  abbrev pub ToldTo : N → ℕ → String Global → Type 0
  ToldTo n i new = AddsOf (λ done. (later : List ℕ) → Left n i later → TellsEach after Tells first before xs (done ++ later)) old new

  pub told_there : (n : N) (i : ℕ) (new : String Global) → Left n i [] → ToldTo n i new → AddsOf (TellsEach after Tells first before xs) old new
  told_there n i new none (done, goes, is) =
      (done, subst (TellsEach after Tells first before xs) (append-nil done) (goes [] none), is)

  -- there are no others
  pub told_all : (n : N) (i : ℕ) (new : String Global) → length xs ≤ i → ToldTo n i new → AddsOf (TellsEach after Tells first before xs) old new
  told_all n i new end told =
      told_there n i new (subst (λ (ys : List X). TellsEach after Tells n (drop i before) ys []) (sym (drop_all i xs end)) refl) told

  none_before : (n : N) (ys : List X) → TellsEach after Tells n [] ys []
  none_before n [] = refl
  none_before n (y ∷ ys) = refl

  -- or there were none before
  pub told_beside : (n : N) (i : ℕ) (new : String Global) → length before ≤ i → ToldTo n i new → AddsOf (TellsEach after Tells first before xs) old new
  told_beside n i new end told =
      told_there n i new (subst (λ (bs : List X). TellsEach after Tells n bs (drop i xs) []) (sym (drop_all i before end)) (none_before n (drop i xs))) told

  module _ (n : N) (i : ℕ) (was x : X) (there : i < length before) (was_is : was ≡ get_or before i was) (within : i < length xs) (x_is : x ≡ get_or xs i x) where
    left_with : (one later : List ℕ) → Tells n was x one → Left (after n x) (i + 1) later → Left n i (one ++ later)
    left_with one later tells rest =
        subst (λ (bs : List X). TellsEach after Tells n bs (drop i xs) (one ++ later)) (sym (at_place before i was there was_is))
        (subst (λ (ys : List X). TellsEach after Tells n (was ∷ drop (i + 1) before) ys (one ++ later)) (sym (at_place xs i x within x_is))
        (one, later, tells, rest, refl))

    -- the next one is told
    pub told_next : (next : N) (mid new : String Global) → next ≡ after n x → ToldTo n i mid → AddsOf (Tells n was x) mid new → ToldTo next (i + 1) new
    told_next next mid new same (done, goes, is) (one, tells, more) = (
      done ++ one,
      λ later rest.
          subst (TellsEach after Tells first before xs) (sym (append_assoc done one later))
          (goes (one ++ later) (left_with one later tells (subst (λ (m : N). Left m (i + 1) later) same rest))),
      more ∙ ap (λ (l : List ℕ). l ++ one) is ∙ append_assoc (string_bytes old) done one,
    )
