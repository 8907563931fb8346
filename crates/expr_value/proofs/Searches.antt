-- A text that stands in another.
use Rattle.std.proofs.Common.{◌≡◌, ℕ, Bool, true, false, ◌||◌, ◌==◌, nat_eq, List, [], ◌∷◌, ◌++◌, length, drop, eq-eqb, refl, sym, ap, ◌∙◌, arith}
use Rattle.std.proofs.lemmas.Bool.{eqb-true}
use Rattle.std.proofs.lemmas.Slice.Eq.{starts_is}
use Rattle.std.specs.List.{starts_with, list_any}
use Rattle.std.specs.Bool.{Decides}
use Rattle.std.specs.Prelude.{◌↔◌}
use Rattle.std.specs.Str.Iter.{HasSubslice}
use Rattle.expr_value.specs.Functions.{stands_in, contains, is_match}
use Rattle.expr_value.specs.PlainKind.{PlainKind, kind_of}
use Rattle.expr_value.specs.Searching.{contains_kind}
use Rattle.expr_value.proofs.Lists.{items-again}
use Rattle.flow_model.specs.Plain.{Plain, null, truth, whole, text, list, map, items_of}

same_bytes : (a b : ℕ) → Decides (nat_eq a b) (a ≡ b)
same_bytes a b = (eqb-true a b, eq-eqb a b)

or_left : (a b : Bool) → a ≡ true → (a || b) ≡ true
or_left true b h = refl
or_left false b h = cc

or_right : (a b : Bool) → b ≡ true → (a || b) ≡ true
or_right true b h = refl
or_right false b h = h

no_bytes : (part : List ℕ) → (length part == 0) ≡ true → part ≡ []
no_bytes [] h = refl
no_bytes (b ∷ bs) h = absurd (omega (arith, eqb-true (length (b ∷ bs)) 0 h))

further : (b : ℕ) (bs part : List ℕ) → HasSubslice bs part → HasSubslice (b ∷ bs) part
further b bs part h = (b ∷ h.0, h.1, ap (λ (w : List ℕ). b ∷ w) h.2)

found_by : (b : ℕ) (bs part : List ℕ) (t : Bool) → starts_with nat_eq (b ∷ bs) part ≡ t → (t || stands_in part bs) ≡ true → (stands_in part bs ≡ true → HasSubslice bs part) → HasSubslice (b ∷ bs) part
found_by b bs part true test h more = ([], drop (length part) (b ∷ bs), (starts_is same_bytes (b ∷ bs) part true (sym test)).0 refl)
found_by b bs part false test h more = further b bs part (more h)

pub found : (part bs : List ℕ) → stands_in part bs ≡ true → HasSubslice bs part
found part [] h = ([], [], sym (ap (λ (w : List ℕ). w ++ []) (no_bytes part h)))
found part (b ∷ bs) h = found_by b bs part (starts_with nat_eq (b ∷ bs) part) refl h (found part bs)

no_length : (part rest : List ℕ) → [] ≡ part ++ rest → (length part == 0) ≡ true
no_length [] rest h = refl
no_length (b ∷ bs) rest h = cc

stands_front : (part bs rest : List ℕ) → bs ≡ part ++ rest → stands_in part bs ≡ true
stands_front part [] rest h = no_length part rest h
stands_front part (b ∷ bs) rest h = or_left (starts_with nat_eq (b ∷ bs) part) (stands_in part bs) ((starts_is same_bytes (b ∷ bs) part (starts_with nat_eq (b ∷ bs) part) refl).1 rest h)

stands : (part a c : List ℕ) → stands_in part (a ++ (part ++ c)) ≡ true
stands part [] c = stands_front part (part ++ c) c refl
stands part (b ∷ a) c = or_right (starts_with nat_eq (b ∷ (a ++ (part ++ c))) part) (stands_in part (a ++ (part ++ c))) (stands part a c)

same_by : (r s : Bool) → (r ≡ true → s ≡ true) → (s ≡ true → r ≡ true) → r ≡ s
same_by true s to back = sym (to refl)
same_by false true to back = back refl
same_by false false to back = refl

-- Where a text stands in another, by std's words.
pub stands_exact : (r : Bool) (part bs : List ℕ) → ((r ≡ true) ↔ HasSubslice bs part) → r ≡ stands_in part bs
stands_exact r part bs h = same_by r (stands_in part bs) (λ e. let s = h.0 e in ap (stands_in part) s.2 ∙ stands part s.0 s.1) (λ e. h.1 (found part bs e))

-- `contains` looks at the kind of what is looked for.
pub contains_by_kind : (v x : Plain) → contains v x ≡ contains_kind v (kind_of x)
contains_by_kind null x = refl
contains_by_kind (truth b) x = refl
contains_by_kind (whole z) x = refl
contains_by_kind (text bytes) x = refl
contains_by_kind (list vs) x = refl
contains_by_kind (map ms) x = refl

-- In a list.
pub contains_in_list : (v : Plain) (vs : List Plain) (kind : PlainKind) (b : Bool) → v ≡ list (items_of vs) → b ≡ list_any (is_match kind) vs → b ≡ contains_kind v kind
contains_in_list v vs kind b same h = h ∙ ap (list_any (is_match kind)) (sym (items-again vs)) ∙ ap (λ (w : Plain). contains_kind w kind) (sym same)
