-- What was copied so far of a reader into a writer.
use Rattle.std.proofs.Common.{◌≡◌, ◌∙◌, ap, sym, refl, ℕ, ◌-◌, List, [], ◌∷◌, ◌++◌, length, slice_get, Option, Some, None, append_assoc}
use native.Mathlib.Numerals.{unary_clauses}
use Rattle.std.specs.Io.KnownBytes.{Appends, Consumes}

-- These bytes were read, and are those that were written; the last of them is the last of all so far.
pub record Copied (before now written with : Option (List ℕ)) (last : Option ℕ) : Type 0 where
  pub bytes : List ℕ
  pub read : Consumes before now bytes
  pub put : Appends written with bytes
  pub ends : last ≡ slice_get bytes (length bytes - 1)

last_of_two : (xs : List ℕ) (y : ℕ) (ys : List ℕ) → slice_get (xs ++ (y ∷ ys)) (length (xs ++ (y ∷ ys)) - 1) ≡ slice_get (y ∷ ys) (length (y ∷ ys) - 1)
last_of_two [] y ys = refl
last_of_two (x ∷ []) y ys = simp unary_clauses refl
last_of_two (x ∷ (z ∷ zs)) y ys = simp unary_clauses (simp unary_clauses at (last_of_two (z ∷ zs) y ys))

consumes_more : (a b c : Option (List ℕ)) (xs ys : List ℕ) → Consumes a b xs → Consumes b c ys → Consumes a c (xs ++ ys)
consumes_more None b c xs ys p q = tt
consumes_more (Some x) None c xs ys p q = absurd p
consumes_more (Some x) (Some y) None xs ys p q = absurd q
consumes_more (Some x) (Some y) (Some z) xs ys p q = p ∙ ap (λ l. xs ++ l) q ∙ sym (append_assoc xs ys z)

appends_more : (a b c : Option (List ℕ)) (xs ys : List ℕ) → Appends a b xs → Appends b c ys → Appends a c (xs ++ ys)
appends_more None b c xs ys p q = tt
appends_more (Some x) None c xs ys p q = absurd p
appends_more (Some x) (Some y) None xs ys p q = absurd q
appends_more (Some x) (Some y) (Some z) xs ys p q = q ∙ ap (λ l. l ++ ys) p ∙ append_assoc x xs ys

-- A piece more that is not empty was read, and written.
pub piece_copied : (a b c w x y : Option (List ℕ)) (last next : Option ℕ) (piece : List ℕ)
    → Copied a b w x last → Consumes b c piece → Appends x y piece → (piece ≡ [] → ⊥)
    → next ≡ slice_get piece (length piece - 1) → Copied a c w y next
piece_copied a b c w x y last next [] before read put some ends = absurd (some refl)
piece_copied a b c w x y last next (p ∷ ps) before read put some ends =
    record {
      bytes = before.bytes ++ (p ∷ ps);
      read = consumes_more a b c _ _ before.read read;
      put = appends_more w x y _ _ before.put put;
      ends = ends ∙ sym (last_of_two before.bytes p ps);
    }
