-- Equality and the four relations (GitHub Docs, "Evaluate expressions in workflows and actions": operators).
use Rattle.std.specs.Prelude.{ℕ, ℤ, Bool, true, false, not, Option, Some, None, Result, Ok, Err, List}
use Rattle.std.specs.Cmp.Lexicographic.{slice_cmp}
use Rattle.std.specs.Ordering.{nat_cmp, int_cmp, bool_cmp, is_eq, is_lt, is_le, is_gt, is_ge}
use Rattle.std.specs.declared.cmp.Ordering.{Ordering}
use Rattle.expr_reader.specs.Fold.{fold}
use Rattle.expr_reader.specs.declared.tree.Equality.{Equality}
use Rattle.expr_reader.specs.declared.tree.Equality.TheVariants.{Equal, NotEqual}
use Rattle.expr_reader.specs.declared.tree.Relation.{Relation}
use Rattle.expr_reader.specs.declared.tree.Relation.TheVariants.{Less, AtMost, Greater, AtLeast}
use Rattle.expr_value.specs.Convert.{number_of}
use Rattle.expr_value.specs.PlainKind.{PlainKind, null, truth, whole, text, list, map}
use Rattle.flow_model.specs.declared.reply.ValueFault.{ValueFault}
use Rattle.flow_model.specs.declared.reply.ValueFault.TheVariants.{NoIdentity}

-- The order of two texts, ignoring case.
abbrev pub text_order : List ℕ → List ℕ → Ordering
text_order a b = slice_cmp nat_cmp (fold a) (fold b)

-- The order of two numbers, where both are numbers.
abbrev pub number_order : Option ℤ → Option ℤ → Option Ordering
number_order (Some m) (Some n) = Some (int_cmp m n)
number_order (Some m) None = None
number_order None n = None

-- The order of two values by number; a fault on either side is the fault.
abbrev pub order_of_numbers : Result (Option ℤ) ValueFault → Result (Option ℤ) ValueFault
    → Result (Option Ordering) ValueFault
order_of_numbers (Ok m) (Ok n) = Ok (number_order m n)
order_of_numbers (Ok m) (Err fault) = Err fault
order_of_numbers (Err fault) n = Err fault

-- The order of two values by their numbers.
abbrev pub order_by_number : PlainKind → PlainKind → Result (Option Ordering) ValueFault
order_by_number a b = order_of_numbers (number_of a) (number_of b)

-- Whether an order that is known passes a test.
abbrev pub passes : (Ordering → Bool) → Result (Option Ordering) ValueFault → Result Bool ValueFault
passes test (Ok None) = Ok false
passes test (Ok (Some order)) = Ok (test order)
passes test (Err fault) = Err fault

-- a == b: texts ignoring case; lists and maps have no identity here; unlike kinds by number.
abbrev pub equals : PlainKind → PlainKind → Result Bool ValueFault
equals null null = Ok true
equals (truth a) (truth b) = Ok (is_eq (bool_cmp a b))
equals (whole a) (whole b) = Ok (is_eq (int_cmp a b))
equals (text a) (text b) = Ok (is_eq (text_order a b))
equals list list = Err NoIdentity
equals map map = Err NoIdentity
equals a b = passes is_eq (order_by_number a b)

-- a == b or a != b
abbrev pub equality_of : Equality → Result Bool ValueFault → Result Bool ValueFault
equality_of Equal same = same
equality_of NotEqual (Ok same) = Ok (not same)
equality_of NotEqual (Err fault) = Err fault

-- The orders that a relation admits.
abbrev pub admits : Relation → Ordering → Bool
admits Less order = is_lt order
admits AtMost order = is_le order
admits Greater order = is_gt order
admits AtLeast order = is_ge order

-- a < b and its like: texts by the bytes of their folds; no list and no map is related to its kind; else by
-- number.
abbrev pub related : Relation → PlainKind → PlainKind → Result Bool ValueFault
related relation (text a) (text b) = Ok (admits relation (text_order a b))
related relation list list = Ok false
related relation map map = Ok false
related relation a b = passes (admits relation) (order_by_number a b)
