-- Runs of bytes at the front of a text.
use Rattle.std.proofs.Common.{◌≡◌, ℕ, suc, ◌+◌, Bool, true, false, cond, ◌&&◌, List, [], ◌∷◌, length, take, drop, refl, sym, subst, arith}
use Rattle.std.proofs.lemmas.Bool.{cond-false}
use Rattle.std.specs.List.{prefix_len, list_all}

-- A fact about a choice, by the test.
pub if_holds : {A : Type 0} (P : A → Type 0) (b : Bool) (x y : A) → (b ≡ true → P x) → (b ≡ false → P y) → P (cond b x y)
if_holds P true x y at_true at_false = at_true refl
if_holds P false x y at_true at_false = at_false refl

-- What passes at the front passes, and what follows it does not begin so.
pub record Spans (p : ℕ → Bool) (bs : List ℕ) : Type 0 where
  pub run : list_all p (take (prefix_len p bs) bs) ≡ true
  pub stops : prefix_len p (drop (prefix_len p bs) bs) ≡ 0
  pub size : length (take (prefix_len p bs) bs) ≡ prefix_len p bs

and_both : (t u : Bool) → t ≡ true → u ≡ true → (t && u) ≡ true
and_both true u at_t at_u = at_u
and_both false u at_t at_u = cc

spans_by : (p : ℕ → Bool) (b : ℕ) (bs : List ℕ) (t : Bool) → p b ≡ t → Spans p bs → (list_all p (take (cond t (1 + prefix_len p bs) 0) (b ∷ bs)) ≡ true) × (prefix_len p (drop (cond t (1 + prefix_len p bs) 0) (b ∷ bs)) ≡ 0) × (length (take (cond t (1 + prefix_len p bs) 0) (b ∷ bs)) ≡ cond t (1 + prefix_len p bs) 0)
spans_by p b bs true test h =
    let more : 1 + prefix_len p bs ≡ suc (prefix_len p bs) = omega arith in
    let both : list_all p (b ∷ take (prefix_len p bs) bs) ≡ true = and_both (p b) (list_all p (take (prefix_len p bs) bs)) test h.run in
    let size : length (b ∷ take (prefix_len p bs) bs) ≡ suc (prefix_len p bs) = omega (arith, h.size) in
    (subst (λ (k : ℕ). list_all p (take k (b ∷ bs)) ≡ true) (sym more) both, subst (λ (k : ℕ). prefix_len p (drop k (b ∷ bs)) ≡ 0) (sym more) h.stops, subst (λ (k : ℕ). length (take k (b ∷ bs)) ≡ k) (sym more) size)
spans_by p b bs false test h = (refl, cond-false (p b) (1 + prefix_len p bs) 0 test, refl)

pub spans : (p : ℕ → Bool) (bs : List ℕ) → Spans p bs
spans p [] = record { run = refl; stops = refl; size = refl }
spans p (b ∷ bs) = let h = spans_by p b bs (p b) refl (spans p bs) in record { run = h.0; stops = h.1; size = h.2 }

head_by : (t : Bool) (n : ℕ) → cond t (1 + n) 0 ≡ 0 → t ≡ false
head_by true n h = absurd (omega arith)
head_by false n h = refl

-- Where nothing passes at the front, the first byte does not.
pub first_fails : (p : ℕ → Bool) (b : ℕ) (bs : List ℕ) → prefix_len p (b ∷ bs) ≡ 0 → p b ≡ false
first_fails p b bs h = head_by (p b) (prefix_len p bs) h

both_by : (t u : Bool) → (t && u) ≡ true → (t ≡ true) × (u ≡ true)
both_by true true h = (refl, refl)
both_by true false h = cc
both_by false u h = cc

-- Where all pass, the first and the others do.
pub all_parts : (p : ℕ → Bool) (b : ℕ) (bs : List ℕ) → list_all p (b ∷ bs) ≡ true → (p b ≡ true) × (list_all p bs ≡ true)
all_parts p b bs h = both_by (p b) (list_all p bs) h
