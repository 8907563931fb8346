-- Commands, read part by part.
use Rattle.std.proofs.Common.{◌≡◌, ℕ, Bool, true, false, cond, Option, Some, None, List, [], ◌∷◌, ◌++◌, length, drop, nat_eq, refl, sym, ap, ◌∙◌, append_assoc}
use Rattle.std.proofs.Math.Seq.{drop-append_seam}
use Rattle.std.proofs.lemmas.Bool.Decides.{Decides-eqb}
use Rattle.std.proofs.lemmas.Slice.Eq.{starts_is, bytes_eq-Decides}
use Rattle.std.specs.List.{starts_with}
use Rattle.std.specs.Str.{bytes_eq}
use Rattle.flow_commands.specs.Splits.{split_first, after_front, fields_of}
use Rattle.flow_commands.specs.CommandTexts.{pair_of, then_pairs, all_pairs}
use Rattle.flow_commands.proofs.Splitting.{fields_of-split, fields_of-one}
use Rattle.flow_commands.proofs.Standing.{front_parts}

-- ---- pairs

-- pairs before others, if there are others
abbrev pub pairs_onto : List (List ℕ × List ℕ) → Option (List (List ℕ × List ℕ)) → Option (List (List ℕ × List ℕ))
pairs_onto done None = None
pairs_onto done (Some pairs) = Some (done ++ pairs)

pair_more : (done : List (List ℕ × List ℕ)) (pair : List ℕ × List ℕ) (rest : Option (List (List ℕ × List ℕ)))
    → pairs_onto (done ++ pair ∷ []) rest ≡ pairs_onto done (then_pairs (Some pair) rest)
pair_more done pair None = refl
pair_more done pair (Some pairs) = ap (λ ps. Some ps) (append_assoc done (pair ∷ []) pairs)

-- a field more
pub field_more : (done : List (List ℕ × List ℕ)) (pair : List ℕ × List ℕ) (text field rest : List ℕ) → split_first (44 ∷ []) text ≡ Some (field, rest)
    → pair_of field ≡ Some pair → pairs_onto (done ++ pair ∷ []) (all_pairs (fields_of rest)) ≡ pairs_onto done (all_pairs (fields_of text))
field_more done pair text field rest split is =
    pair_more done pair (all_pairs (fields_of rest))
    ∙ ap (λ o. pairs_onto done (then_pairs o (all_pairs (fields_of rest)))) (sym is)
    ∙ ap (λ fields. pairs_onto done (all_pairs fields)) (sym (fields_of-split text field rest split))

-- a field that is no pair
pub field_refused : (done : List (List ℕ × List ℕ)) (text field rest : List ℕ) → split_first (44 ∷ []) text ≡ Some (field, rest)
    → pair_of field ≡ None → pairs_onto done (all_pairs (fields_of text)) ≡ None
field_refused done text field rest split is =
    ap (λ fields. pairs_onto done (all_pairs fields)) (fields_of-split text field rest split)
    ∙ ap (λ o. pairs_onto done (then_pairs o (all_pairs (fields_of rest)))) is

-- the last field
pub field_last : (done : List (List ℕ × List ℕ)) (pair : List ℕ × List ℕ) (text : List ℕ) → split_first (44 ∷ []) text ≡ None
    → pair_of text ≡ Some pair → pairs_onto done (all_pairs (fields_of text)) ≡ Some (done ++ pair ∷ [])
field_last done pair text split is =
    ap (λ fields. pairs_onto done (all_pairs fields)) (fields_of-one text split) ∙ ap (λ o. pairs_onto done (then_pairs o (Some []))) is

pub field_last_refused : (done : List (List ℕ × List ℕ)) (text : List ℕ) → split_first (44 ∷ []) text ≡ None
    → pair_of text ≡ None → pairs_onto done (all_pairs (fields_of text)) ≡ None
field_last_refused done text split is =
    ap (λ fields. pairs_onto done (all_pairs fields)) (fields_of-one text split) ∙ ap (λ o. pairs_onto done (then_pairs o (Some []))) is

-- ---- the line that resumes

eq_true : (xs ys : List ℕ) → xs ≡ ys → bytes_eq xs ys ≡ true
eq_true xs ys h = (bytes_eq-Decides xs ys).1 h

same_test : (t u : Bool) → (t ≡ true → u ≡ true) → (u ≡ true → t ≡ true) → t ≡ u
same_test true true f g = refl
same_test true false f g = sym (f refl)
same_test false true f g = g refl
same_test false false f g = refl

drop_front : (front rest : List ℕ) → drop (length front) (front ++ rest) ≡ rest
drop_front front rest = drop-append_seam front rest

-- a text that begins with a front is it and another where its rest is the other
pub front_same : (front text other : List ℕ) → starts_with nat_eq text front ≡ true → bytes_eq text (front ++ other) ≡ bytes_eq (drop (length front) text) other
front_same front text other h =
    same_test (bytes_eq text (front ++ other)) (bytes_eq (drop (length front) text) other)
    (λ k. eq_true (drop (length front) text) other (ap (drop (length front)) ((bytes_eq-Decides text (front ++ other)).0 k) ∙ drop_front front other))
    (λ k. eq_true text (front ++ other) (front_parts text front h ∙ ap (λ (t : List ℕ). front ++ t) ((bytes_eq-Decides (drop (length front) text) other).0 k)))

-- a text that does not begin with it is not
pub front_other : (front text other : List ℕ) → starts_with nat_eq text front ≡ false → bytes_eq text (front ++ other) ≡ false
front_other front text other h = by_test (bytes_eq text (front ++ other)) refl
  where
    by_test : (t : Bool) → bytes_eq text (front ++ other) ≡ t → t ≡ false
    by_test true is =
        let begins : starts_with nat_eq text front ≡ true =
        (starts_is Decides-eqb text front (starts_with nat_eq text front) refl).1 other ((bytes_eq-Decides text (front ++ other)).0 is) in
        cc
    by_test false is = refl

-- the same, by what follows the front
pub resumes_at : (front text other rest : List ℕ) → after_front front text ≡ Some rest → bytes_eq text (front ++ other) ≡ bytes_eq rest other
resumes_at front text other rest h = by_test (starts_with nat_eq text front) refl h
  where
    by_test : (t : Bool) → starts_with nat_eq text front ≡ t → cond t (Some (drop (length front) text)) None ≡ Some rest
        → bytes_eq text (front ++ other) ≡ bytes_eq rest other
    by_test true is k = let p : drop (length front) text ≡ rest = cc in front_same front text other is ∙ ap (λ r. bytes_eq r other) p
    by_test false is k = cc

pub resumes_not : (front text other : List ℕ) → after_front front text ≡ None → bytes_eq text (front ++ other) ≡ false
resumes_not front text other h = by_test (starts_with nat_eq text front) refl h
  where
    by_test : (t : Bool) → starts_with nat_eq text front ≡ t → cond t (Some (drop (length front) text)) None ≡ None → bytes_eq text (front ++ other) ≡ false
    by_test true is k = cc
    by_test false is k = front_other front text other is
