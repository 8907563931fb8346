-- What covers a text.
use Rattle.std.proofs.Common.{◌≡◌, ◌⊎◌, inl, inr, ℕ, zero, suc, max, ◌<◌, ◌≤◌, Bool, true, false, cond, nat_eq, nat_le, Some, List, [], ◌∷◌, ◌++◌, length, drop, codes, refl, sym, ap, subst, ◌∙◌, arith, length-append}
use Rattle.std.proofs.Math.Seq.{drop-append_seam}
use Rattle.std.proofs.lemmas.Bool.Decides.{Decides-eqb, nat_tests}
use Rattle.std.proofs.lemmas.Slice.Eq.{starts_is}
use Rattle.std.specs.List.{starts_with, Contains}
use Rattle.flow_commands.specs.Laws.{Stands, StandsLongest, Covers, end, as_it_is, covered, OneCovering}
use Rattle.flow_commands.specs.Mask.{standing, longest, stars, masking, masked}
use Rattle.flow_commands.proofs.Members.{later, first_or_later}
use Rattle.flow_commands.proofs.Replacing.{replaced_here, replaced_past}

-- ---- how long a mask stands

-- a mask that begins the text stands there
begun : (mask text rest : List ℕ) → text ≡ mask ++ rest → standing mask text ≡ length mask
begun mask text rest h = by_test (starts_with nat_eq text mask) ((starts_is Decides-eqb text mask (starts_with nat_eq text mask) refl).1 rest h)
  where
    by_test : (t : Bool) → t ≡ true → cond t (length mask) 0 ≡ length mask
    by_test true h = refl
    by_test false h = absurd (cc)

-- one that stands begins the text
begins_it : (mask text : List ℕ) → 0 < standing mask text → (text ≡ mask ++ drop (length mask) text) × (standing mask text ≡ length mask)
begins_it mask text h = by_test (starts_with nat_eq text mask) refl h
  where
    by_test : (t : Bool) → starts_with nat_eq text mask ≡ t → 0 < cond t (length mask) 0
        → (text ≡ mask ++ drop (length mask) text) × (cond t (length mask) 0 ≡ length mask)
    by_test true is some = ((starts_is Decides-eqb text mask (starts_with nat_eq text mask) refl).0 is, refl)
    by_test false is some = absurd (omega arith)

-- ---- the longest mask

-- no mask that stands is longer than the longest
above : (masks : List (List ℕ)) (mask text : List ℕ) → Stands masks mask text → length mask ≤ longest masks text
above masks mask text h = go masks h.listed
  where
    stands : standing mask text ≡ length mask
    stands = begun mask text h.rest h.begins

    go : (masks : List (List ℕ)) → Contains masks mask → length mask ≤ longest masks text
    go [] there = absurd (omega (arith, there.1))
    go (m ∷ ms) there = by (first_or_later m mask ms there) (go ms)
      where
        by : (m ≡ mask) ⊎ Contains ms mask → (Contains ms mask → length mask ≤ longest ms text) → length mask ≤ max (standing m text) (longest ms text)
        by (inl same) more = let here : standing m text ≡ length mask = ap (λ (x : List ℕ). standing x text) same ∙ stands in omega (arith, here)
        by (inr there) more = omega (arith, more there)

-- it is the length of one that stands
reached : (masks : List (List ℕ)) (text : List ℕ) → 0 < longest masks text → (mask : List ℕ) × Stands masks mask text × (length mask ≡ longest masks text)
reached [] text h = absurd (omega arith)
reached (m ∷ ms) text h = by_test (nat_le (standing m text) (longest ms text)) refl (reached ms text)
  where
    by_test : (t : Bool) → nat_le (standing m text) (longest ms text) ≡ t
        → (0 < longest ms text → (mask : List ℕ) × Stands ms mask text × (length mask ≡ longest ms text))
        → (mask : List ℕ) × Stands (m ∷ ms) mask text × (length mask ≡ max (standing m text) (longest ms text))
    by_test true is more =
        let less : standing m text ≤ longest ms text = grind (arith, nat_tests, is) in
        let found = more (omega (arith, less, h)) in (
          found.0,
          record { listed = later m found.0 ms found.1.listed; some = found.1.some; rest = found.1.rest; begins = found.1.begins },
          omega (arith, less, found.2),
        )
    by_test false is more =
        let less : longest ms text < standing m text = grind (arith, nat_tests, is) in
        let here = begins_it m text (omega (arith, less)) in (
          m,
          record { listed = (zero, omega arith, refl); some = omega (arith, less, here.1); rest = drop (length m) text; begins = here.0 },
          omega (arith, less, here.1),
        )

-- ---- the masked text

-- a byte where no mask stands
past : (masks : List (List ℕ)) (b : ℕ) (text : List ℕ) → longest masks (b ∷ text) ≡ 0 → masked masks (b ∷ text) ≡ b ∷ masked masks text
past masks b text h = replaced_past (masking masks) b text (ap stars h)

-- a mask, and what follows it
over : (masks : List (List ℕ)) (mask text : List ℕ) → 0 < length mask → longest masks (mask ++ text) ≡ length mask
    → masked masks (mask ++ text) ≡ codes "***" ++ masked masks text
over masks mask text some h =
    replaced_here (masking masks) (mask ++ text) (codes "***") (length mask) (ap stars h ∙ so_many (length mask) some) some
    (omega (arith, length-append mask text))
    ∙ ap (λ (t : List ℕ). codes "***" ++ masked masks t) (drop-append_seam mask text)
  where
    so_many : (n : ℕ) → 0 < n → stars n ≡ Some (codes "***", n)
    so_many zero some = absurd (omega arith)
    so_many (suc n) some = refl

-- ---- what covers a text

covers_to : (n : ℕ) (masks : List (List ℕ)) (text : List ℕ) → length text ≤ n → Covers masks text (masked masks text)
covers_to n masks [] h = end
covers_to zero masks (b ∷ text) h = absurd (omega arith)
covers_to (suc n) masks (b ∷ text) h = by_longest (longest masks (b ∷ text)) refl (covers_to n masks)
  where
    hidden : ((t : List ℕ) → length t ≤ n → Covers masks t (masked masks t)) → 0 < longest masks (b ∷ text) → (mask : List ℕ)
        → (stands : Stands masks mask (b ∷ text)) → length mask ≡ longest masks (b ∷ text) → Covers masks (b ∷ text) (masked masks (b ∷ text))
    hidden more some mask stands size =
        let size_here : longest masks (mask ++ stands.rest) ≡ length mask = ap (longest masks) (sym stands.begins) ∙ sym size in
        let long : suc (length text) ≡ length (mask ++ stands.rest) = ap length stands.begins in
        subst (λ (t : List ℕ). Covers masks t (masked masks t)) (sym stands.begins)
        (subst (Covers masks (mask ++ stands.rest)) (sym (over masks mask stands.rest stands.some size_here))
        (covered (record {
          stands = subst (Stands masks mask) stands.begins stands;
          longest = λ other others. omega (arith, above masks other (mask ++ stands.rest) others, size_here);
        })
        (more stands.rest (omega (arith, h, long, stands.some, length-append mask stands.rest)))))

    by_longest : (k : ℕ) → longest masks (b ∷ text) ≡ k → ((t : List ℕ) → length t ≤ n → Covers masks t (masked masks t))
        → Covers masks (b ∷ text) (masked masks (b ∷ text))
    by_longest zero is more =
        subst (Covers masks (b ∷ text)) (sym (past masks b text is))
        (as_it_is (λ mask stands. omega (arith, above masks mask (b ∷ text) stands, stands.some, is)) (more text (omega (arith, h))))
    by_longest (suc k) is more =
        let found = reached masks (b ∷ text) (omega (arith, is)) in
        hidden more (omega (arith, is)) found.0 found.1 found.2

-- the masked text covers the text
covers : (masks : List (List ℕ)) (text : List ℕ) → Covers masks text (masked masks text)
covers masks text = covers_to (length text) masks text (omega arith)

none_stands : (masks : List (List ℕ)) (text : List ℕ) → ((mask : List ℕ) → Stands masks mask text → ⊥) → (k : ℕ) → longest masks text ≡ k → k ≡ 0
none_stands masks text none zero is = refl
none_stands masks text none (suc k) is = let found = reached masks text (omega (arith, is)) in absurd (none found.0 found.1)

exactly : (masks : List (List ℕ)) (mask text : List ℕ) → StandsLongest masks mask text → longest masks text ≡ length mask
exactly masks mask text h =
    let most = above masks mask text h.stands in
    let found = reached masks text (omega (arith, most, h.stands.some)) in
    omega (arith, most, found.2, h.longest found.0 found.1)

-- nothing else covers it
one_shown : {masks : List (List ℕ)} {text shown : List ℕ} → Covers masks text shown → shown ≡ masked masks text
one_shown end = refl
one_shown {masks} (as_it_is {b} {text} none more) =
    ap (λ (s : List ℕ). b ∷ s) (one_shown more) ∙ sym (past masks b text (none_stands masks (b ∷ text) none (longest masks (b ∷ text)) refl))
one_shown {masks} (covered {mask} {text} stands more) =
    ap (λ (s : List ℕ). codes "***" ++ s) (one_shown more)
    ∙ sym (over masks mask text stands.stands.some (exactly masks mask (mask ++ text) stands))

pub one_covering : OneCovering
one_covering masks text shown = (one_shown, λ same. subst (Covers masks text) (sym same) (covers masks text))
