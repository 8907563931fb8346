-- Why a text is no expression.
use Rattle.std.proofs.Common.{◌≡◌, ℕ, Some, None, List, Err, refl}
use Rattle.status_table.specs.Words.{Expr, ExprFault, Failure, FaultStands, OnlyMemory, Spells, StandsIn, fault_at}
use Rattle.expr_reader.specs.declared.fault.ExprFault.TheVariants.{UnclosedText, BadNumber, BadChar, Unexpected, UnknownName, UnknownFunction, ArgumentCount, TooDeep, TooLong, UnclosedTemplate, StatusHere, Memory}
use Rattle.command_print.specs.Eval.{IsNoExpression, IsTree, expression_error}

-- a fault that is no want of memory stands in a text that is no expression
no_expression : (x : List ℕ) (fault : ExprFault) (place : Failure) → fault_at fault ≡ Some place → ((e : Expr) → Spells e x → fault_at fault ≡ None) → StandsIn x place → IsNoExpression x fault
no_expression x fault place is only stands = record {
  place = place;
  is = is;
  stands = stands;
  none = λ w. let none : fault_at fault ≡ None = only w.0 w.1 in absurd (cc);
}

pub tree_fault : (x : List ℕ) (fault : ExprFault) → ((e : Expr) → Spells e x → OnlyMemory fault) → FaultStands x fault → IsTree x (Err (expression_error fault))
tree_fault x (UnclosedText n) only stands = no_expression x (UnclosedText n) _ refl only stands
tree_fault x (BadNumber n) only stands = no_expression x (BadNumber n) _ refl only stands
tree_fault x (BadChar n) only stands = no_expression x (BadChar n) _ refl only stands
tree_fault x (Unexpected n) only stands = no_expression x (Unexpected n) _ refl only stands
tree_fault x (UnknownName n) only stands = no_expression x (UnknownName n) _ refl only stands
tree_fault x (UnknownFunction n) only stands = no_expression x (UnknownFunction n) _ refl only stands
tree_fault x (ArgumentCount n) only stands = no_expression x (ArgumentCount n) _ refl only stands
tree_fault x (TooDeep n) only stands = no_expression x (TooDeep n) _ refl only stands
tree_fault x (TooLong n) only stands = no_expression x (TooLong n) _ refl only stands
tree_fault x (UnclosedTemplate n) only stands = no_expression x (UnclosedTemplate n) _ refl only stands
tree_fault x (StatusHere n) only stands = no_expression x (StatusHere n) _ refl only stands
tree_fault x (Memory n) only stands = tt
