-- One question more of a tree.
use Rattle.std.proofs.Common.{◌≡◌, ◌<◌, ◌+◌, ◌-◌, ◌++◌, ℕ, zero, suc, Bool, List, [], ◌∷◌, reverse, refl, sym, ap, ◌∙◌, append_assoc, arith}
use Rattle.std.proofs.lemmas.List.{reverse-append}
use Rattle.why_causes.specs.Tree.{asked_below, is_told, lines, lines_of, told_after}
use Rattle.why_causes.specs.declared.tree.Asked.{Asked}
use Rattle.why_causes.specs.declared.tree.Line.{Line}
use Rattle.why_causes.specs.declared.tree.Told.{Told}
use Rattle.why_notes.specs.Account.{Account}

-- the last of a list is the first of the list turned round
pub turned : (s t : List Asked) (x : Asked) → s ≡ t ++ x ∷ [] → reverse s ≡ x ∷ reverse t
turned s t x is = ap reverse is ∙ reverse-append t (x ∷ [])

-- with no question left there are no more lines
pub no_more : (n : ℕ) (a : Account) (told : Told) → lines n a [] told ≡ []
no_more zero a told = refl
no_more (suc n) a told = refl

pub one_more : (most i : ℕ) (a : Account) (s t new : List Asked) (x : Asked) (old told : Told) (out out' : List Line) (above : Bool)
    → i < most → s ≡ t ++ x ∷ [] → above ≡ is_told old x.question → out' ≡ out ++ lines_of x above
    → told ≡ told_after old x.question above → reverse new ≡ asked_below a x above ++ reverse t
    → out' ++ lines (most - (i + 1)) a (reverse new) told ≡ out ++ lines (most - i) a (reverse s) old
one_more most i a s t new x old told out out' above within popped is added after below =
    let n = most - (i + 1) in
    let less : most - i ≡ suc n = omega (arith, within) in
    let front : reverse s ≡ x ∷ reverse t = turned s t x popped in
    (λ j. added j ++ lines n a (below j) (after j))
    ∙ append_assoc out (lines_of x above) (lines n a (asked_below a x above ++ reverse t) (told_after old x.question above))
    ∙ ap (λ (b : Bool). out ++ (lines_of x b ++ lines n a (asked_below a x b ++ reverse t) (told_after old x.question b))) is
    ∙ sym (λ j. out ++ lines (less j) a (front j) old)
