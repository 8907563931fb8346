-- What a fault that is answered says.
use Rattle.std.specs.Prelude.{◌≡◌, ℕ, ◌<◌, Option, Some, None, Result, Ok, Err, IfSome, List, ◌++◌, length, codes, decimal}
use Rattle.expr_reader.specs.Expr.{Expr}
use Rattle.expr_reader.specs.Reading.{Failure}
use Rattle.expr_reader.specs.Sizes.{longest_expression}
use Rattle.expr_reader.specs.Stands.{StandsAt}
use Rattle.expr_reader.specs.View.{view}
use Rattle.expr_reader.specs.declared.fault.ExprFault.{ExprFault}
use Rattle.expr_reader.specs.declared.fault.ExprFault.TheVariants as expr
use Rattle.expr_reader.specs.declared.fault.Fault.TheVariants.{UnclosedText, BadNumber, BadChar, Unexpected, UnknownName, UnknownFunction, ArgumentCount, TooDeep, TooLong, UnclosedTemplate, StatusHere}
use Rattle.expr_reader.specs.declared.fault.Refusal.{Refusal}
use Rattle.expr_reader.specs.declared.fault.Refusal.TheVariants as refusal
use Rattle.expr_reader.specs.declared.tree.Tree.{Tree}

-- A fault's name.
abbrev pub fault_name : ExprFault → List ℕ
fault_name (expr.UnclosedText n) = codes "UnclosedText"
fault_name (expr.BadNumber n) = codes "BadNumber"
fault_name (expr.BadChar n) = codes "BadChar"
fault_name (expr.Unexpected n) = codes "Unexpected"
fault_name (expr.UnknownName n) = codes "UnknownName"
fault_name (expr.UnknownFunction n) = codes "UnknownFunction"
fault_name (expr.ArgumentCount n) = codes "ArgumentCount"
fault_name (expr.TooDeep n) = codes "TooDeep"
fault_name (expr.TooLong n) = codes "TooLong"
fault_name (expr.UnclosedTemplate n) = codes "UnclosedTemplate"
fault_name (expr.StatusHere n) = codes "StatusHere"
fault_name (expr.Memory n) = codes "Memory"

-- How many bytes stand before a fault.
abbrev pub fault_place : ExprFault → ℕ
fault_place (expr.UnclosedText n) = n
fault_place (expr.BadNumber n) = n
fault_place (expr.BadChar n) = n
fault_place (expr.Unexpected n) = n
fault_place (expr.UnknownName n) = n
fault_place (expr.UnknownFunction n) = n
fault_place (expr.ArgumentCount n) = n
fault_place (expr.TooDeep n) = n
fault_place (expr.TooLong n) = n
fault_place (expr.UnclosedTemplate n) = n
fault_place (expr.StatusHere n) = n
fault_place (expr.Memory n) = n

-- What is shown of a fault: its name and its place.
abbrev pub fault_text : ExprFault → List ℕ
fault_text fault = fault_name fault ++ (codes " at " ++ decimal (fault_place fault))

-- A fault of the text and its place; want of memory is none.
abbrev pub fault_at : ExprFault → Option Failure
fault_at (expr.UnclosedText n) = Some (UnclosedText, n)
fault_at (expr.BadNumber n) = Some (BadNumber, n)
fault_at (expr.BadChar n) = Some (BadChar, n)
fault_at (expr.Unexpected n) = Some (Unexpected, n)
fault_at (expr.UnknownName n) = Some (UnknownName, n)
fault_at (expr.UnknownFunction n) = Some (UnknownFunction, n)
fault_at (expr.ArgumentCount n) = Some (ArgumentCount, n)
fault_at (expr.TooDeep n) = Some (TooDeep, n)
fault_at (expr.TooLong n) = Some (TooLong, n)
fault_at (expr.UnclosedTemplate n) = Some (UnclosedTemplate, n)
fault_at (expr.StatusHere n) = Some (StatusHere, n)
fault_at (expr.Memory n) = None

-- What a refusal is that gets this place.
abbrev pub refused_at : Refusal → ℕ → Option Failure
refused_at (refusal.Fault f) n = Some (f, n)
refused_at refusal.Memory n = None

-- Want of memory is the only fault.
abbrev pub OnlyMemory : ExprFault → Type 0
OnlyMemory fault = fault_at fault ≡ None

-- The expression is read, unless memory runs out.
abbrev pub IsRead : Result Tree ExprFault → Expr → Type 0
IsRead (Ok tree) e = view tree ≡ e
IsRead (Err fault) e = OnlyMemory fault

-- What a function returned, seen by view, is what reading a text gives, unless memory ran out.
abbrev pub Gives : {X A : Type 0} → (X → A) → Result X ExprFault → Result A Failure → Type 0
Gives view (Ok x) reading = reading ≡ Ok (view x)
Gives view (Err fault) reading = IfSome (fault_at fault) (λ x. reading ≡ Err x)

-- What stands in an expression's text: more than 20,000 bytes, or the fault at its place.
abbrev pub StandsIn : List ℕ → Failure → Type 0
StandsIn text (TooLong, n) = (longest_expression < length text) × (n ≡ longest_expression)
StandsIn text (UnclosedText, n) = StandsAt UnclosedText text n
StandsIn text (BadNumber, n) = StandsAt BadNumber text n
StandsIn text (BadChar, n) = StandsAt BadChar text n
StandsIn text (Unexpected, n) = StandsAt Unexpected text n
StandsIn text (UnknownName, n) = StandsAt UnknownName text n
StandsIn text (UnknownFunction, n) = StandsAt UnknownFunction text n
StandsIn text (ArgumentCount, n) = StandsAt ArgumentCount text n
StandsIn text (TooDeep, n) = StandsAt TooDeep text n
StandsIn text (UnclosedTemplate, n) = ⊥
StandsIn text (StatusHere, n) = ⊥

-- A fault that is answered stands in the expression's text.
abbrev pub FaultStands : List ℕ → ExprFault → Type 0
FaultStands text fault = IfSome (fault_at fault) (StandsIn text)
