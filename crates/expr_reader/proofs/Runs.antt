-- Runs of bytes at the front of a text.
use Rattle.std.proofs.Common.{◌≡◌, ℕ, suc, ◌+◌, Bool, true, false, cond, List, [], ◌∷◌, ◌++◌, length, take, drop, refl, sym, ap, subst, ◌∙◌, arith}
use Rattle.std.proofs.Math.Seq.{take-append_seam, drop-append_seam}
use Rattle.std.proofs.lemmas.Bool.{cond-true, cond-false}
use Rattle.std.specs.List.{prefix_len}
use Rattle.expr_reader.specs.Bytes.{IsRun, Stops}

-- A fact about a choice, by the test.
pub if_holds : {A : Type 0} (P : A → Type 0) (b : Bool) (x y : A) → (b ≡ true → P x) → (b ≡ false → P y) → P (cond b x y)
if_holds P true x y at_true at_false = at_true refl
if_holds P false x y at_true at_false = at_false refl

run_split : (t : Bool) (n m : ℕ) → cond t (1 + n) 0 ≡ suc m → (t ≡ true) × (n ≡ m)
run_split true n m h = (refl, omega arith)
run_split false n m h = absurd (omega arith)

pub run_head : (p : ℕ → Bool) (b : ℕ) (bs : List ℕ) → IsRun p (b ∷ bs) → p b ≡ true
run_head p b bs h = (run_split (p b) (prefix_len p bs) (length bs) h).0

pub run_tail : (p : ℕ → Bool) (b : ℕ) (bs : List ℕ) → IsRun p (b ∷ bs) → IsRun p bs
run_tail p b bs h = (run_split (p b) (prefix_len p bs) (length bs) h).1

pub run_cons : (p : ℕ → Bool) (b : ℕ) (bs : List ℕ) → p b ≡ true → IsRun p bs → IsRun p (b ∷ bs)
run_cons p b bs passes h = cond-true (p b) (1 + prefix_len p bs) 0 passes ∙ omega (arith, h)

pub stops_head : (p : ℕ → Bool) (b : ℕ) (bs : List ℕ) → p b ≡ false → Stops p (b ∷ bs)
stops_head p b bs h = cond-false (p b) (1 + prefix_len p bs) 0 h

stop_split : (t : Bool) (n : ℕ) → cond t (1 + n) 0 ≡ 0 → t ≡ false
stop_split true n h = absurd (omega arith)
stop_split false n h = refl

pub head_stops : (p : ℕ → Bool) (b : ℕ) (bs : List ℕ) → Stops p (b ∷ bs) → p b ≡ false
head_stops p b bs h = stop_split (p b) (prefix_len p bs) h

-- A run that ends is what passes at the front.
pub span : (p : ℕ → Bool) (w x : List ℕ) → IsRun p w → Stops p x → prefix_len p (w ++ x) ≡ length w
span p [] x run stops = stops
span p (b ∷ w) x run stops = cond-true (p b) (1 + prefix_len p (w ++ x)) 0 (run_head p b w run) ∙ omega (arith, span p w x (run_tail p b w run) stops)

pub span_take : (p : ℕ → Bool) (w x : List ℕ) → IsRun p w → Stops p x → take (prefix_len p (w ++ x)) (w ++ x) ≡ w
span_take p w x run stops = ap (λ (n : ℕ). take n (w ++ x)) (span p w x run stops) ∙ take-append_seam w x

pub span_drop : (p : ℕ → Bool) (w x : List ℕ) → IsRun p w → Stops p x → drop (prefix_len p (w ++ x)) (w ++ x) ≡ x
span_drop p w x run stops = ap (λ (n : ℕ). drop n (w ++ x)) (span p w x run stops) ∙ drop-append_seam w x

-- What passes at the front is a run, and what follows it does not begin so.
pub record Spans (p : ℕ → Bool) (bs : List ℕ) : Type 0 where
  pub run : IsRun p (take (prefix_len p bs) bs)
  pub stops : Stops p (drop (prefix_len p bs) bs)

spans_by : (p : ℕ → Bool) (b : ℕ) (bs : List ℕ) (t : Bool) → p b ≡ t → Spans p bs → IsRun p (take (cond t (1 + prefix_len p bs) 0) (b ∷ bs)) × Stops p (drop (cond t (1 + prefix_len p bs) 0) (b ∷ bs))
spans_by p b bs true test h =
    let more : 1 + prefix_len p bs ≡ suc (prefix_len p bs) = omega arith in
    (subst (λ (k : ℕ). IsRun p (take k (b ∷ bs))) (sym more) (run_cons p b (take (prefix_len p bs) bs) test h.run), subst (λ (k : ℕ). Stops p (drop k (b ∷ bs))) (sym more) h.stops)
spans_by p b bs false test h = (refl, stops_head p b bs test)

pub spans : (p : ℕ → Bool) (bs : List ℕ) → Spans p bs
spans p [] = record { run = refl; stops = refl }
spans p (b ∷ bs) = let h = spans_by p b bs (p b) refl (spans p bs) in record { run = h.0; stops = h.1 }
