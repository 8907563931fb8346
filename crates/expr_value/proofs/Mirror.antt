-- Equality and the relations, read from right to left.
use Rattle.std.proofs.Common.{◌≡◌, ℕ, ℤ, pos, Bool, true, false, ◌&&◌, ◌==◌, nat_le, if◌then◌else◌, Option, Some, None, Result, Ok, Err, List, [], ◌∷◌, take, drop, refl, sym, ap, ◌∙◌}
use Rattle.std.proofs.lemmas.Cmp.{int_cmp_total, nat_list_cmp_total}
use Rattle.std.specs.Cmp.{bool_cmp_total}
use Rattle.std.specs.List.{prefix_len}
use Rattle.std.specs.Ordering.{bool_cmp, int_cmp, ordering_reverse, is_eq}
use Rattle.std.specs.declared.cmp.Ordering.{Ordering}
use Rattle.std.specs.declared.cmp.Ordering.TheVariants as order
use Rattle.expr_reader.specs.Bytes.{is_digit}
use Rattle.expr_reader.specs.Fold.{fold}
use Rattle.expr_reader.specs.Number.{greatest, digits_value, negative}
use Rattle.expr_reader.specs.declared.tree.Equality.TheVariants.{Equal, NotEqual}
use Rattle.expr_reader.specs.declared.tree.Relation.{Relation}
use Rattle.expr_reader.specs.declared.tree.Relation.TheVariants.{Less, AtMost, Greater, AtLeast}
use Rattle.expr_value.specs.Compare.{text_order, number_order, order_of_numbers, order_by_number, passes, equals, equality_of, admits, related}
use Rattle.expr_value.specs.Convert.{number_of}
use Rattle.expr_value.specs.PlainKind.{PlainKind, null, truth, whole, text, list, map}
use Rattle.expr_value.specs.Laws.{AreOpposite, mirror}
use Rattle.expr_value.specs.Number.{is_integer, is_tail, in_range, number_of_parts, unsigned_number, with_sign, number_of_text}
use Rattle.flow_model.specs.declared.reply.ValueFault.{ValueFault}
use Rattle.flow_model.specs.declared.reply.ValueFault.TheVariants.{NotWhole}

-- ---- a value has no number for one reason alone

abbrev OnlyNotWhole : {A : Type 0} → Result A ValueFault → Type 0
OnlyNotWhole (Ok x) = Unit {0}
OnlyNotWhole (Err fault) = fault ≡ NotWhole

one_of : {A : Type 0} (b : Bool) (x y : Result A ValueFault) → OnlyNotWhole x → OnlyNotWhole y → OnlyNotWhole (if b then x else y)
one_of true x y h k = h
one_of false x y h k = k

in_range_faults : (n : ℕ) → OnlyNotWhole (in_range n)
in_range_faults n = one_of (nat_le n greatest) (Ok (Some n)) (Err NotWhole) tt refl

parts_fault : (digits rest : List ℕ) → OnlyNotWhole (number_of_parts digits rest)
parts_fault digits [] = one_of (is_integer digits) (in_range (digits_value 10 0 digits)) (Ok None) (in_range_faults (digits_value 10 0 digits)) tt
parts_fault digits (b ∷ bs) = one_of (is_integer digits && is_tail (b ∷ bs)) (Err NotWhole) (Ok None) refl tt

signed_faults : (sign : ℕ → ℤ) (number : Result (Option ℕ) ValueFault) → OnlyNotWhole number → OnlyNotWhole (with_sign sign number)
signed_faults sign (Ok n) h = tt
signed_faults sign (Err fault) h = h

unsigned_faults : (sign : ℕ → ℤ) (bs : List ℕ) → OnlyNotWhole (with_sign sign (unsigned_number bs))
unsigned_faults sign bs = signed_faults sign (unsigned_number bs) (parts_fault (take (prefix_len is_digit bs) bs) (drop (prefix_len is_digit bs) bs))

text_faults : (bytes : List ℕ) → OnlyNotWhole (number_of_text bytes)
text_faults [] = tt
text_faults (b ∷ bs) = one_of (b == 45) (with_sign negative (unsigned_number bs)) (with_sign pos (unsigned_number (b ∷ bs))) (unsigned_faults negative bs) (unsigned_faults pos (b ∷ bs))

number_faults : (a : PlainKind) → OnlyNotWhole (number_of a)
number_faults null = tt
number_faults (truth b) = tt
number_faults (whole z) = tt
number_faults (text bytes) = text_faults bytes
number_faults list = tt
number_faults map = tt

-- ---- an order is reversed

equal_reversed : (o : Ordering) → is_eq (ordering_reverse o) ≡ is_eq o
equal_reversed order.Less = refl
equal_reversed order.Equal = refl
equal_reversed order.Greater = refl

admits_reversed : (r : Relation) (o : Ordering) → admits r (ordering_reverse o) ≡ admits (mirror r) o
admits_reversed Less order.Less = refl
admits_reversed Less order.Equal = refl
admits_reversed Less order.Greater = refl
admits_reversed AtMost order.Less = refl
admits_reversed AtMost order.Equal = refl
admits_reversed AtMost order.Greater = refl
admits_reversed Greater order.Less = refl
admits_reversed Greater order.Equal = refl
admits_reversed Greater order.Greater = refl
admits_reversed AtLeast order.Less = refl
admits_reversed AtLeast order.Equal = refl
admits_reversed AtLeast order.Greater = refl

-- One test of an order answers as the other does of the reversed one.
abbrev AreMirrored : (Ordering → Bool) → (Ordering → Bool) → Type 0
AreMirrored test other = (o : Ordering) → test (ordering_reverse o) ≡ other o

test_reversed : (test other : Ordering → Bool) (o p : Ordering) → AreMirrored test other → o ≡ ordering_reverse p → test o ≡ other p
test_reversed test other o p same reversed = ap test reversed ∙ same p

order_reversed : (test other : Ordering → Bool) → AreMirrored test other → (m n : Option ℤ) → passes test (Ok (number_order m n)) ≡ passes other (Ok (number_order n m))
order_reversed test other same (Some m) (Some n) = ap Ok (test_reversed test other (int_cmp m n) (int_cmp n m) same (int_cmp_total.antisymm m n))
order_reversed test other same (Some m) None = refl
order_reversed test other same None (Some n) = refl
order_reversed test other same None None = refl

numbers_reversed : (test other : Ordering → Bool) → AreMirrored test other → (m n : Result (Option ℤ) ValueFault) → OnlyNotWhole m → OnlyNotWhole n → passes test (order_of_numbers m n) ≡ passes other (order_of_numbers n m)
numbers_reversed test other same (Ok m) (Ok n) h k = order_reversed test other same m n
numbers_reversed test other same (Ok m) (Err fault) h k = refl
numbers_reversed test other same (Err fault) (Ok n) h k = refl
numbers_reversed test other same (Err one) (Err two) h k = ap Err (h ∙ sym k)

by_number : (test other : Ordering → Bool) → AreMirrored test other → (a b : PlainKind) → passes test (order_by_number a b) ≡ passes other (order_by_number b a)
by_number test other same a b = numbers_reversed test other same (number_of a) (number_of b) (number_faults a) (number_faults b)

by_text : (test other : Ordering → Bool) → AreMirrored test other → (a b : List ℕ) → test (text_order a b) ≡ other (text_order b a)
by_text test other same a b = test_reversed test other (text_order a b) (text_order b a) same (nat_list_cmp_total.antisymm (fold a) (fold b))

-- ---- the laws

pub equality_is_symmetric : (a b : PlainKind) → equals a b ≡ equals b a
equality_is_symmetric null null = refl
equality_is_symmetric (truth a) (truth b) = ap Ok (test_reversed is_eq is_eq (bool_cmp a b) (bool_cmp b a) equal_reversed (bool_cmp_total.antisymm a b))
equality_is_symmetric (whole a) (whole b) = ap Ok (test_reversed is_eq is_eq (int_cmp a b) (int_cmp b a) equal_reversed (int_cmp_total.antisymm a b))
equality_is_symmetric (text a) (text b) = ap Ok (by_text is_eq is_eq equal_reversed a b)
equality_is_symmetric list list = refl
equality_is_symmetric map map = refl
equality_is_symmetric a b = by_number is_eq is_eq equal_reversed a b

opposite : (same : Result Bool ValueFault) → AreOpposite (equality_of Equal same) (equality_of NotEqual same)
opposite (Ok same) = refl
opposite (Err fault) = refl

pub inequality_is_opposite : (a b : PlainKind) → AreOpposite (equality_of Equal (equals a b)) (equality_of NotEqual (equals a b))
inequality_is_opposite a b = opposite (equals a b)

pub relations_mirror : (r : Relation) (a b : PlainKind) → related r a b ≡ related (mirror r) b a
relations_mirror r (text a) (text b) = ap Ok (by_text (admits r) (admits (mirror r)) (admits_reversed r) a b)
relations_mirror r list list = refl
relations_mirror r map map = refl
relations_mirror r null (text b) = by_number (admits r) (admits (mirror r)) (admits_reversed r) null (text b)
relations_mirror r (truth a) (text b) = by_number (admits r) (admits (mirror r)) (admits_reversed r) (truth a) (text b)
relations_mirror r (whole a) (text b) = by_number (admits r) (admits (mirror r)) (admits_reversed r) (whole a) (text b)
relations_mirror r a b = by_number (admits r) (admits (mirror r)) (admits_reversed r) a b
