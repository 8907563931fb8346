-- The longest of the masks that stand at the front of a text.
use Rattle.std.proofs.Common.{◌≡◌, ℕ, suc, ◌+◌, ◌-◌, ◌<◌, ◌≤◌, max, Bool, true, false, cond, ◌||◌, ◌==◌, if◌then◌else◌, nat_eq, List, [], ◌∷◌, ◌++◌, length, take, drop, refl, sym, ap, subst, ◌∙◌, arith, append_assoc, append-nil, length-append, length-drop, bytes_eq, inl, inr, ◌⊎◌, add-one, take-append-drop, drop_of_length-le, nat_le, true≢false, IsUtf8}
use Rattle.std.proofs.lemmas.Bool.Decides.{nat_tests}
use Rattle.std.proofs.lemmas.Bool.{false≢true}
use Rattle.std.specs.List.{AllByRecursion}
use Rattle.std.proofs.lemmas.Str.{IsUtf8-nil}
use Rattle.std.proofs.Math.Seq.{take-append_seam}
use Rattle.std.proofs.lemmas.Bool.{cond-true, cond-false, false_from_ne_true}
use Rattle.std.proofs.lemmas.Bool.Decides.{Decides-eqb}
use Rattle.std.proofs.lemmas.List.{take-append-le}
use Rattle.std.proofs.lemmas.Slice.Eq.{starts_is, bytes_eq-Decides}
use Rattle.std.specs.List.{starts_with}
use Rattle.flow_commands.specs.Mask.{standing, longest, masked}
use Rattle.flow_commands.specs.MaskTree.{is_mask, is_begun}
use Rattle.flow_commands.proofs.FirstPlaces.{begins}
use Rattle.flow_commands.proofs.Standing.{front_parts}

-- one that stands at the front is no longer than the text
within : (text front : List ℕ) → starts_with nat_eq text front ≡ true → length front ≤ length text
within text front h =
    let size = ap length (front_parts text front h) in omega (arith, size, length-append front (drop (length front) text))

standing_none : (mask text : List ℕ) → (starts_with nat_eq text mask ≡ true → ⊥) → standing mask text ≡ 0
standing_none mask text h = cond-false (starts_with nat_eq text mask) (length mask) 0 (false_from_ne_true (starts_with nat_eq text mask) h)

standing_within : (mask text : List ℕ) → standing mask text ≤ length text
standing_within mask text = by_test (starts_with nat_eq text mask) refl
  where
    by_test : (t : Bool) → starts_with nat_eq text mask ≡ t → cond t (length mask) 0 ≤ length text
    by_test true is = within text mask is
    by_test false is = omega arith

pub longest_within : (masks : List (List ℕ)) (text : List ℕ) → longest masks text ≤ length text
longest_within [] text = omega arith
longest_within (mask ∷ masks) text = omega (arith, standing_within mask text, longest_within masks text)

-- what follows a text changes nothing for a mask that is no longer than the text
standing_front : (mask text rest : List ℕ) → length mask ≤ length text → standing mask (text ++ rest) ≡ standing mask text
standing_front mask text rest short = rw (take-append-le (length mask) text rest short) refl

-- a longer one does not stand there
standing_longer : (mask text : List ℕ) → length text < length mask → standing mask text ≡ 0
standing_longer mask text long = standing_none mask text (λ h. omega (arith, within text mask h, long))

by_length : (m n : ℕ) → (m ≤ n) ⊎ (n < m)
by_length m n = by_test (nat_le m n) refl
  where
    by_test : (t : Bool) → nat_le m n ≡ t → (m ≤ n) ⊎ (n < m)
    by_test true is = inl (grind (arith, nat_tests))
    by_test false is = inr (grind (arith, nat_tests))

-- a byte more: only the text itself may come to stand there
standing_more : (mask text : List ℕ) (b : ℕ) → standing mask (text ++ b ∷ []) ≡ cond (bytes_eq mask (text ++ b ∷ [])) (length text + 1) (standing mask text)
standing_more mask text b = by_test (bytes_eq mask (text ++ b ∷ [])) refl
  where
    size : length (text ++ b ∷ []) ≡ length text + 1
    size = length-append text (b ∷ [])

    by_test : (t : Bool) → bytes_eq mask (text ++ b ∷ []) ≡ t → standing mask (text ++ b ∷ []) ≡ cond t (length text + 1) (standing mask text)
    by_test true is =
        let same : mask ≡ text ++ b ∷ [] = (bytes_eq-Decides mask (text ++ b ∷ [])).0 is in
        cond-true (starts_with nat_eq (text ++ b ∷ []) mask) (length mask) 0 (begins (text ++ b ∷ []) mask [] (sym same ∙ sym (append-nil mask)))
        ∙ ap length same ∙ size
    by_test false is = by (by_length (length mask) (length text))
      where
        by : (length mask ≤ length text) ⊎ (length text < length mask) → standing mask (text ++ b ∷ []) ≡ standing mask text
        by (inl short) = standing_front mask text (b ∷ []) short
        by (inr long) =
            standing_none mask (text ++ b ∷ []) (λ h. other (front_parts (text ++ b ∷ []) mask h) (within (text ++ b ∷ []) mask h))
            ∙ sym (standing_longer mask text long)
          where
            other : text ++ b ∷ [] ≡ mask ++ drop (length mask) (text ++ b ∷ []) → length mask ≤ length (text ++ b ∷ []) → ⊥
            other cut small =
                let none : drop (length mask) (text ++ b ∷ []) ≡ [] = drop_of_length-le (text ++ b ∷ []) (omega (arith, size, long)) in
                let same : mask ≡ text ++ b ∷ [] = sym (cut ∙ ap (λ (t : List ℕ). mask ++ t) none ∙ append-nil mask) in
                false≢true (sym is ∙ (bytes_eq-Decides mask (text ++ b ∷ [])).1 same)

-- A byte more: the text itself is the longest mask, if it is one.
pub longest_more : (masks : List (List ℕ)) (text : List ℕ) (b : ℕ)
    → longest masks (text ++ b ∷ []) ≡ cond (is_mask masks (text ++ b ∷ [])) (length text + 1) (longest masks text)
longest_more [] text b = refl
longest_more (mask ∷ masks) text b =
    ap (λ (n : ℕ). max n (longest masks (text ++ b ∷ []))) (standing_more mask text b)
    ∙ ap (λ (n : ℕ). max (cond (bytes_eq mask (text ++ b ∷ [])) (length text + 1) (standing mask text)) n) (longest_more masks text b)
    ∙ by (bytes_eq mask (text ++ b ∷ [])) (is_mask masks (text ++ b ∷ [])) (standing_within mask text) (longest_within masks text)
  where
    by : (s t : Bool) → standing mask text ≤ length text → longest masks text ≤ length text
        → max (cond s (length text + 1) (standing mask text)) (cond t (length text + 1) (longest masks text)) ≡ cond (s || t) (length text + 1) (max (standing mask text) (longest masks text))
    by true true h k = omega arith
    by true false h k = omega (arith, h, k)
    by false true h k = omega (arith, h, k)
    by false false h k = refl

standing_past : (mask text : List ℕ) (b : ℕ) (rest : List ℕ) → starts_with nat_eq mask (text ++ b ∷ []) ≡ false → standing mask (text ++ b ∷ rest) ≡ standing mask text
standing_past mask text b rest unbegun = by (by_length (length mask) (length text))
  where
    by : (length mask ≤ length text) ⊎ (length text < length mask) → standing mask (text ++ b ∷ rest) ≡ standing mask text
    by (inl short) = standing_front mask text (b ∷ rest) short
    by (inr long) =
        standing_none mask (text ++ b ∷ rest) (λ h. false≢true (sym unbegun ∙ begun (front_parts (text ++ b ∷ rest) mask h)))
        ∙ sym (standing_longer mask text long)
      where
        begun : text ++ b ∷ rest ≡ mask ++ drop (length mask) (text ++ b ∷ rest) → starts_with nat_eq mask (text ++ b ∷ []) ≡ true
        begun cut =
            let size : length (text ++ b ∷ []) ≡ length text + 1 = length-append text (b ∷ []) in
            let more : ℕ = length (text ++ b ∷ []) in
            let here : take more mask ≡ text ++ b ∷ [] =
            sym (take-append-le more mask (drop (length mask) (text ++ b ∷ rest)) (omega (arith, size, long)))
            ∙ ap (take more) (sym cut) ∙ ap (take more) (sym (append_assoc text (b ∷ []) rest)) ∙ take-append_seam (text ++ b ∷ []) rest in
            begins mask (text ++ b ∷ []) (drop more mask) (sym (take-append-drop more mask) ∙ ap (λ (t : List ℕ). t ++ drop more mask) here)

-- Where no mask goes on so, the longest is among those of the bytes before.
pub longest_past : (masks : List (List ℕ)) (text : List ℕ) (b : ℕ) (rest : List ℕ) → is_begun masks (text ++ b ∷ []) ≡ false
    → longest masks (text ++ b ∷ rest) ≡ longest masks text
longest_past [] text b rest unbegun = refl
longest_past (mask ∷ masks) text b rest unbegun =
    by (starts_with nat_eq mask (text ++ b ∷ [])) refl unbegun (λ h. longest_past masks text b rest h)
  where
    by : (t : Bool) → starts_with nat_eq mask (text ++ b ∷ []) ≡ t → t || is_begun masks (text ++ b ∷ []) ≡ false
        → (is_begun masks (text ++ b ∷ []) ≡ false → longest masks (text ++ b ∷ rest) ≡ longest masks text)
        → max (standing mask (text ++ b ∷ rest)) (longest masks (text ++ b ∷ rest)) ≡ max (standing mask text) (longest masks text)
    by true is h more = absurd (true≢false h)
    by false is h more =
        ap (λ (n : ℕ). max n (longest masks (text ++ b ∷ rest))) (standing_past mask text b rest is)
        ∙ ap (λ (n : ℕ). max (standing mask text) n) (more h)

-- The longest of all is that of these or of the others.
pub longest_of_both : (masks others : List (List ℕ)) (text : List ℕ) → longest (masks ++ others) text ≡ max (longest masks text) (longest others text)
longest_of_both [] others text = omega arith
longest_of_both (mask ∷ masks) others text = omega (arith, longest_of_both masks others text)

-- Where each mask is text, so are the bytes of the longest.
pub longest_is_text : (masks : List (List ℕ)) (text : List ℕ) → AllByRecursion IsUtf8 masks → IsUtf8 (take (longest masks text) text)
longest_is_text [] text all = IsUtf8-nil
longest_is_text (mask ∷ masks) text all = by (by_length (standing mask text) (longest masks text)) (longest_is_text masks text all.1)
  where
    standing_text : (t : Bool) → starts_with nat_eq text mask ≡ t → IsUtf8 (take (cond t (length mask) 0) text)
    standing_text true is = subst IsUtf8 (sym (ap (take (length mask)) (front_parts text mask is) ∙ take-append_seam mask (drop (length mask) text))) all.0
    standing_text false is = IsUtf8-nil

    by : (standing mask text ≤ longest masks text) ⊎ (longest masks text < standing mask text) → IsUtf8 (take (longest masks text) text)
        → IsUtf8 (take (max (standing mask text) (longest masks text)) text)
    by (inl h) others =
        let is : longest masks text ≡ max (standing mask text) (longest masks text) = omega (arith, h) in
        subst (λ (n : ℕ). IsUtf8 (take n text)) is others
    by (inr h) others =
        let is : standing mask text ≡ max (standing mask text) (longest masks text) = omega (arith, h) in
        subst (λ (n : ℕ). IsUtf8 (take n text)) is (standing_text (starts_with nat_eq text mask) refl)

-- A text in which there is nothing to mask stays as it is.
of_no_masks : (text : List ℕ) → masked [] text ≡ text
of_no_masks [] = refl
of_no_masks (b ∷ text) = ap (λ (t : List ℕ). b ∷ t) (of_no_masks text)

pub nothing_masked : (masks : List (List ℕ)) (text : List ℕ) → (length masks == 0) ≡ true → masked masks text ≡ text
nothing_masked [] text none = of_no_masks text
nothing_masked (mask ∷ masks) text none = absurd (grind (arith, nat_tests))

-- no masks in both lists mask nothing
pub nothing_masked_by_both : (given own : List (List ℕ)) (text : List ℕ) → (length given == 0) ≡ true → (length own == 0) ≡ true → masked (given ++ own) text ≡ text
nothing_masked_by_both [] own text none no_own = nothing_masked own text no_own
nothing_masked_by_both (mask ∷ given) own text none no_own = absurd (grind (arith, nat_tests))
