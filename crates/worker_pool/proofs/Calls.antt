-- Whether two calls are one can be told.
use Rattle.std.proofs.Common.{◌≡◌, ◌≢◌, ◌==◌, ◌⊎◌, arith, Bool, true, false, inl, inr, ℕ, List, [], ◌∷◌, Option, Some, None, zero, suc, refl, ap, sym, ◌∙◌}
use Rattle.status_table.specs.Words.{CallWork, Shell, StepCall}

-- two things are one, or they are not
abbrev tuple : {A B : Type 0} → A → B → A × B
tuple a b = (a, b)

abbrev Told : {T : Type 0} → T → T → Type 0
Told x y = (x ≡ y) ⊎ (x ≡ y → ⊥)

-- of things that are one where two parts of theirs are
both : {A B C : Type 0} (a a' : A) (b b' : B) (c c' : C) → (a ≡ a' → b ≡ b' → c ≡ c') → (c ≡ c' → a ≡ a') → (c ≡ c' → b ≡ b')
    → Told a a' → Told b b' → Told c c'
both a a' b b' c c' made first second (inl h) (inl k) = inl (made h k)
both a a' b b' c c' made first second (inl h) (inr differs) = inr (λ e. differs (second e))
both a a' b b' c c' made first second (inr differs) t = inr (λ e. differs (first e))

numbers : (m n : ℕ) → Told m n
numbers m n = by (m == n) refl
  where
    by : (t : Bool) → (m == n) ≡ t → Told m n
    by true e = inl (grind (arith, e))
    by false e = inr apart
      where
        apart : m ≢ n
        apart = grind (arith, e)

lists : {T : Type 0} → ((x y : T) → Told x y) → (xs ys : List T) → Told xs ys
lists told [] [] = inl refl
lists {T} told [] (y ∷ ys) = inr differs
  where
    differs : [] ≡ y ∷ ys → ⊥
    differs e = cc
lists {T} told (x ∷ xs) [] = inr differs
  where
    differs : x ∷ xs ≡ [] → ⊥
    differs e = cc
lists {T} told (x ∷ xs) (y ∷ ys) = both x y xs ys (x ∷ xs) (y ∷ ys) made first second (told x y) (lists told xs ys)
  where
    made : x ≡ y → xs ≡ ys → x ∷ xs ≡ y ∷ ys
    made h k = cc

    first : x ∷ xs ≡ y ∷ ys → x ≡ y
    first e = cc

    second : x ∷ xs ≡ y ∷ ys → xs ≡ ys
    second e = cc

pairs : (x y : List ℕ × List ℕ) → Told x y
pairs x y = both x.0 y.0 x.1 y.1 x y made (λ e. ap (λ (p : List ℕ × List ℕ). p.0) e) (λ e. ap (λ (p : List ℕ × List ℕ). p.1) e)
    (lists numbers x.0 y.0) (lists numbers x.1 y.1)
  where
    made : x.0 ≡ y.0 → x.1 ≡ y.1 → x ≡ y
    made h k = ap (λ (a : List ℕ). tuple a x.1) h ∙ ap (λ (b : List ℕ). tuple y.0 b) k

folders : (x y : Option (List ℕ)) → Told x y
folders None None = inl refl
folders None (Some y) = inr differs
  where
    differs : None ≡ Some y → ⊥
    differs e = cc
folders (Some x) None = inr differs
  where
    differs : Some x ≡ None → ⊥
    differs e = cc
folders (Some x) (Some y) = both x y x y (Some x) (Some y) made back back (lists numbers x y) (lists numbers x y)
  where
    made : x ≡ y → x ≡ y → Some x ≡ Some y
    made h k = cc

    back : Some x ≡ Some y → x ≡ y
    back e = cc

abbrev shell_number : Shell → ℕ
shell_number Shell.Default = 0
shell_number Shell.Sh = 1
shell_number Shell.Bash = 2

abbrev shell_of : ℕ → Shell
shell_of zero = Shell.Default
shell_of (suc zero) = Shell.Sh
shell_of (suc (suc n)) = Shell.Bash

shell_is : (s : Shell) → shell_of (shell_number s) ≡ s
shell_is Shell.Default = refl
shell_is Shell.Sh = refl
shell_is Shell.Bash = refl

shells : (x y : Shell) → Told x y
shells x y = by (numbers (shell_number x) (shell_number y))
  where
    by : Told (shell_number x) (shell_number y) → Told x y
    by (inl h) = inl (sym (shell_is x) ∙ ap shell_of h ∙ shell_is y)
    by (inr differs) = inr (λ e. differs (ap shell_number e))

works : (x y : CallWork) → Told x y
works (CallWork.Script t s d) (CallWork.Script t' s' d') =
    both t t' (tuple s d) (tuple s' d') (CallWork.Script t s d) (CallWork.Script t' s' d') made first second (lists numbers t t')
    (both s s' d d' (tuple s d) (tuple s' d') paired (λ e. ap (λ (p : Shell × Option (List ℕ)). p.0) e) (λ e. ap (λ (p : Shell × Option (List ℕ)). p.1) e)
    (shells s s') (folders d d'))
  where
    paired : s ≡ s' → d ≡ d' → (tuple s d) ≡ (tuple s' d')
    paired h k = cc

    made : t ≡ t' → (tuple s d) ≡ (tuple s' d') → CallWork.Script t s d ≡ CallWork.Script t' s' d'
    made h k =
        ap (λ (a : List ℕ). CallWork.Script a s d) h ∙ ap (λ (p : Shell × Option (List ℕ)). CallWork.Script t' p.0 p.1) k

    first : CallWork.Script t s d ≡ CallWork.Script t' s' d' → t ≡ t'
    first e = cc

    second : CallWork.Script t s d ≡ CallWork.Script t' s' d' → (tuple s d) ≡ (tuple s' d')
    second e = cc
works (CallWork.Script t s d) (CallWork.Uses u g) = inr differs
  where
    differs : CallWork.Script t s d ≡ CallWork.Uses u g → ⊥
    differs e = cc
works (CallWork.Uses u g) (CallWork.Script t s d) = inr differs
  where
    differs : CallWork.Uses u g ≡ CallWork.Script t s d → ⊥
    differs e = cc
works (CallWork.Uses u g) (CallWork.Uses u' g') =
    both u u' g g' (CallWork.Uses u g) (CallWork.Uses u' g') made first second (lists numbers u u') (lists pairs g g')
  where
    made : u ≡ u' → g ≡ g' → CallWork.Uses u g ≡ CallWork.Uses u' g'
    made h k = cc

    first : CallWork.Uses u g ≡ CallWork.Uses u' g' → u ≡ u'
    first e = cc

    second : CallWork.Uses u g ≡ CallWork.Uses u' g' → g ≡ g'
    second e = cc

-- a call, as pairs
abbrev parts : StepCall → (ℕ × ℕ) × (CallWork × List (List ℕ × List ℕ))
parts c = tuple (tuple c.leg c.step) (tuple c.work c.env)

abbrev whole : (ℕ × ℕ) × (CallWork × List (List ℕ × List ℕ)) → StepCall
whole p = record { leg = p.0.0; step = p.0.1; work = p.1.0; env = p.1.1 }

pub calls : (c d : StepCall) → (c ≡ d) ⊎ (c ≡ d → ⊥)
calls c d = by (both (tuple c.leg c.step) (tuple d.leg d.step) (tuple c.work c.env) (tuple d.work d.env) (parts c) (parts d) paired
    (λ e. ap (λ (p : (ℕ × ℕ) × (CallWork × List (List ℕ × List ℕ))). p.0) e)
    (λ e. ap (λ (p : (ℕ × ℕ) × (CallWork × List (List ℕ × List ℕ))). p.1) e) places asked)
  where
    paired : (tuple c.leg c.step) ≡ (tuple d.leg d.step) → (tuple c.work c.env) ≡ (tuple d.work d.env) → parts c ≡ parts d
    paired h k = cc

    places : Told (tuple c.leg c.step) (tuple d.leg d.step)
    places = both c.leg d.leg c.step d.step (tuple c.leg c.step) (tuple d.leg d.step) (λ h k. ap (λ (n : ℕ). tuple n c.step) h ∙ ap (λ (n : ℕ). tuple d.leg n) k)
        (λ e. ap (λ (p : ℕ × ℕ). p.0) e) (λ e. ap (λ (p : ℕ × ℕ). p.1) e) (numbers c.leg d.leg) (numbers c.step d.step)

    asked : Told (tuple c.work c.env) (tuple d.work d.env)
    asked = both c.work d.work c.env d.env (tuple c.work c.env) (tuple d.work d.env)
        (λ h k. ap (λ (w : CallWork). tuple w c.env) h ∙ ap (λ (e : List (List ℕ × List ℕ)). tuple d.work e) k)
        (λ e. ap (λ (p : CallWork × List (List ℕ × List ℕ)). p.0) e) (λ e. ap (λ (p : CallWork × List (List ℕ × List ℕ)). p.1) e)
        (works c.work d.work) (lists pairs c.env d.env)

    by : Told (parts c) (parts d) → Told c d
    by (inl h) = inl (ap whole h)
    by (inr differs) = inr (λ e. differs (ap parts e))
