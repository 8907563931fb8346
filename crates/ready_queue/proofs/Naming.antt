-- Lemmas on the names of passes: each pass keeps its own, and a split divides the names between both.
use Rattle.std.proofs.Common.{◌≡◌, ℕ, ◌+◌, ◌<◌, Bool, true, false, true≢false, eqb, leb, List, [], ◌∷◌, ◌++◌, refl, sym, ap, eqb-true, eq-eqb, arith}
use Rattle.std.specs.Prelude.{if◌then◌else◌, ◌&&◌, ◌==◌}
use Rattle.std.proofs.Math.Dec.{leb-zero}
use Rattle.std.proofs.lemmas.Bool.{eqb-false, leb-true, leb-false}
use Rattle.ready_queue.specs.Names.{Name, same_name, keeps, under}

-- ---- names

-- A name is itself.
pub same_refl : (name : Name) → same_name name name ≡ true
same_refl [] = refl
same_refl (i ∷ more) = rw (eq-eqb i i refl) (same_refl more)

one_more : (i j : ℕ) (more js : Name) → (same_name more js ≡ true → more ≡ js) → (b : Bool) → (i == j) ≡ b → (b && same_name more js) ≡ true → i ∷ more ≡ j ∷ js
one_more i j more js so true at e = λ k. eqb-true i j at k ∷ so e k
one_more i j more js so false at e = absurd (true≢false (sym e))

-- Two names that are one are equal.
pub same_is : (a b : Name) → same_name a b ≡ true → a ≡ b
same_is [] [] e = refl
same_is [] (j ∷ js) e = absurd (true≢false (sym e))
same_is (i ∷ more) [] e = absurd (true≢false (sym e))
same_is (i ∷ more) (j ∷ js) e = one_more i j more js (same_is more js) (i == j) refl e

-- ---- the names that a pass keeps

-- A pass keeps its own name.
pub keeps_own : (name : Name) (splits : ℕ) → keeps name splits name ≡ 1
keeps_own [] splits = refl
keeps_own (i ∷ more) splits = rw (eq-eqb i i refl) (keeps_own more splits)

-- The first pass keeps every name.
pub keeps_all : (name : Name) → keeps [] 0 name ≡ 1
keeps_all [] = refl
keeps_all (j ∷ js) = rw (leb-zero j) refl

next_or_later : (k j : ℕ) (a b c : Bool) → leb k j ≡ a → leb (k + 1) j ≡ b → eqb k j ≡ c → (if a then 1 else 0) ≡ (if b then 1 else 0) + (if c then 1 else 0)
next_or_later k j true true true p q r = let f = leb-true (k + 1) j q in let g = eqb-true k j r in absurd (omega arith)
next_or_later k j true true false p q r = refl
next_or_later k j true false true p q r = refl
next_or_later k j true false false p q r = let f = leb-true k j p in let g = leb-false (k + 1) j q in let h = eqb-false k j r in absurd (h (omega arith))
next_or_later k j false true c p q r = let f = leb-false k j p in let g = leb-true (k + 1) j q in absurd (omega arith)
next_or_later k j false false true p q r = let f = leb-false k j p in let g = eqb-true k j r in absurd (omega arith)
next_or_later k j false false false p q r = refl

along : (b : Bool) (p q r : ℕ) → p ≡ q + r → (if b then p else 0) ≡ (if b then q else 0) + (if b then r else 0)
along true p q r e = e
along false p q r e = refl

-- A split divides the names between both.
pub keeps_split : (name : Name) (splits : ℕ) (x : Name) → keeps name splits x ≡ keeps name (splits + 1) x + keeps (name ++ splits ∷ []) 0 x
keeps_split [] splits [] = refl
keeps_split [] splits (j ∷ js) = rw (keeps_all js) (next_or_later splits j (leb splits j) (leb (splits + 1) j) (eqb splits j) refl refl refl)
keeps_split (i ∷ more) splits [] = refl
keeps_split (i ∷ more) splits (j ∷ js) = along (i == j) (keeps more splits js) (keeps more (splits + 1) js) (keeps (more ++ splits ∷ []) 0 js) (keeps_split more splits js)

-- ---- what stands beside a name

pub under_append : {X : Type 0} (name : Name) (a b : List (X × Name)) → under name (a ++ b) ≡ under name a ++ under name b
under_append name [] b = refl
under_append name (e ∷ es) b =
    let more = under_append name es b in
    elim (same_name name e.1) as (λ c. (if c then e.0 ∷ under name (es ++ b) else under name (es ++ b)) ≡ (if c then e.0 ∷ under name es else under name es) ++ under name b) [
      | true ↦ ap (λ l. e.0 ∷ l) more
      | false ↦ more
    ]

-- One more beside a name.
pub under_own : {X : Type 0} (name own : Name) (xs : List X) (x : X) → (if same_name name own then xs else []) ++ under name ((x, own) ∷ []) ≡ (if same_name name own then xs ++ x ∷ [] else [])
under_own name own xs x =
    elim (same_name name own) as (λ c. (if c then xs else []) ++ (if c then x ∷ [] else []) ≡ (if c then xs ++ x ∷ [] else [])) [ true ↦ refl | false ↦ refl ]

apart : {X : Type 0} (name other : Name) (x : X) → (name ≡ other → ⊥) → (c : Bool) → same_name name other ≡ c → (if c then x ∷ [] else []) ≡ []
apart name other x differ true e = absurd (differ (same_is name other e))
apart name other x differ false e = refl

-- Beside a name there is nothing of another.
pub under_other : {X : Type 0} (name other : Name) (x : X) → (name ≡ other → ⊥) → under name ((x, other) ∷ []) ≡ []
under_other name other x differ = apart name other x differ (same_name name other) refl

-- A pass that keeps the one name and not the other.
pub not_kept : (own : Name) (splits : ℕ) (name other : Name) → 0 < keeps own splits name → keeps own splits other ≡ 0 → name ≡ other → ⊥
not_kept own splits name other has none e = let same : keeps own splits name ≡ keeps own splits other = ap (keeps own splits) e in omega arith
