-- What `actrun eval` tells: the value of an expression over the contexts of a file, or why there is none.
use Rattle.std.specs.Prelude.{◌≡◌, ℕ, ◌++◌, codes, if◌then◌else◌, is_none, List, String, Some, Result, Ok, Err}
use Rattle.std.specs.declared.alloc.Global.{Global}
use Rattle.status_table.specs.Words.{Contexts, Expr, ExprFault, Failure, IsExpression, Plain, Spells, StandsIn, Tree, ValueFault, evaluated, fault_at, json_of}
use Rattle.serde_json.specs.Written.{compact_text}
use Rattle.expr_reader.specs.View.{view}
use Rattle.expr_value.specs.declared.status.Status.TheVariants.{Success}
use Rattle.command_io.specs.Contexts.{file_contexts}
use Rattle.command_io.specs.Stream.{Stream, IsRead}
use Rattle.command_io.specs.Tell.{Answer, OrMemory, TellsOf, answer_seen}
use Rattle.command_io.specs.declared.error.CommandError.{CommandError}
use Rattle.command_io.specs.declared.error.CommandError.TheVariants.{NoExpression, NoValue, NoContexts, NoFlow, NotPlanned, NoPlan, NoEntry, Refused, Words, Io, Memory}

-- The text is an expression, whose evaluation where the status is success answers this.
pub record Evaluates (contexts : Contexts) (expression : List ℕ) (answer : Result Plain ValueFault) : Type 0 where
  pub tree : Expr
  pub spelled : Spells tree expression
  pub has : evaluated contexts Success tree ≡ answer

-- The text is no expression, and the fault stands in it.
pub record IsNoExpression (expression : List ℕ) (fault : ExprFault) : Type 0 where
  pub place : Failure
  pub is : fault_at fault ≡ Some place
  pub stands : StandsIn expression place
  pub none : IsExpression expression → ⊥

-- The fault is another than want of memory.
abbrev pub IsNamed : ValueFault → Type 0
IsNamed ValueFault.NotWhole = Unit {0}
IsNamed ValueFault.NoIdentity = Unit {0}
IsNamed ValueFault.BadFormat = Unit {0}
IsNamed ValueFault.BadJson = Unit {0}
IsNamed ValueFault.TooLarge = Unit {0}
IsNamed ValueFault.Memory = ⊥

-- The compact JSON of a value, and a newline.
abbrev pub value_line : Plain → List ℕ
value_line v = compact_text (json_of v) ++ codes "\n"

-- The file gives contexts, over which the expression has a value, of which this is the line.
pub record HasValue (bytes expression text : List ℕ) : Type 0 where
  pub contexts : Contexts
  pub value : Plain
  pub gives : file_contexts bytes ≡ Ok contexts
  pub has : Evaluates contexts expression (Ok value)
  pub shows : text ≡ value_line value

-- The file gives contexts, and the text is no expression.
pub record HasNoTree (bytes expression : List ℕ) (fault : ExprFault) : Type 0 where
  pub contexts : Contexts
  pub gives : file_contexts bytes ≡ Ok contexts
  pub none : IsNoExpression expression fault

-- The file gives contexts, over which the expression has no value, for that fault.
pub record HasNoValue (bytes expression : List ℕ) (fault : ValueFault) : Type 0 where
  pub contexts : Contexts
  pub gives : file_contexts bytes ≡ Ok contexts
  pub has : Evaluates contexts expression (Err fault)
  pub named : IsNamed fault

-- An answer to the bytes of a file of that name and an expression: the line of the value, or why there is none. The
-- contexts are read first.
abbrev pub IsEvalAnswer : List ℕ → List ℕ → List ℕ → Answer → Type 0
IsEvalAnswer file expression bytes (Ok text) = HasValue bytes expression text
IsEvalAnswer file expression bytes (Err (NoContexts name fault)) = (name ≡ file) × (file_contexts bytes ≡ Err fault)
IsEvalAnswer file expression bytes (Err (NoExpression fault)) = HasNoTree bytes expression fault
IsEvalAnswer file expression bytes (Err (NoValue fault)) = HasNoValue bytes expression fault
IsEvalAnswer file expression bytes (Err (NoFlow name fault)) = ⊥
IsEvalAnswer file expression bytes (Err (NotPlanned fault)) = ⊥
IsEvalAnswer file expression bytes (Err (NoPlan fault)) = ⊥
IsEvalAnswer file expression bytes (Err (NoEntry n)) = ⊥
IsEvalAnswer file expression bytes (Err (Refused n fault)) = ⊥
IsEvalAnswer file expression bytes (Err Words) = ⊥
IsEvalAnswer file expression bytes (Err Io) = ⊥
IsEvalAnswer file expression bytes (Err Memory) = ⊥

-- What `eval` leaves: it reads the file of contexts to its end, and tells an answer to it and the expression.
abbrev pub EvalTells : List ℕ → List ℕ → Stream → Stream → Stream → Stream → Stream → Stream → ℕ → Type 0
EvalTells file expression input input' out out' err err' status = TellsOf (IsEvalAnswer file expression) (IsRead input input') out out' err err' status

-- ---- what the code answers on the way; want of memory may always be answered

-- A text is no expression.
abbrev pub ExpressionError : List ℕ → CommandError → Type 0
ExpressionError expression (NoExpression fault) = IsNoExpression expression fault
ExpressionError expression (NoValue fault) = ⊥
ExpressionError expression (NoContexts name fault) = ⊥
ExpressionError expression (NoFlow name fault) = ⊥
ExpressionError expression (NotPlanned fault) = ⊥
ExpressionError expression (NoPlan fault) = ⊥
ExpressionError expression (NoEntry n) = ⊥
ExpressionError expression (Refused n fault) = ⊥
ExpressionError expression Words = ⊥
ExpressionError expression Io = ⊥
ExpressionError expression Memory = Unit {0}

-- The tree that an expression's text spells, or why there is none.
abbrev pub IsTree : List ℕ → Result Tree CommandError → Type 0
IsTree expression (Ok tree) = Spells (view tree) expression
IsTree expression (Err error) = ExpressionError expression error

-- A tree has no value.
abbrev pub ValueError : Contexts → Expr → CommandError → Type 0
ValueError contexts tree (NoExpression fault) = ⊥
ValueError contexts tree (NoValue fault) = (evaluated contexts Success tree ≡ Err fault) × IsNamed fault
ValueError contexts tree (NoContexts name fault) = ⊥
ValueError contexts tree (NoFlow name fault) = ⊥
ValueError contexts tree (NotPlanned fault) = ⊥
ValueError contexts tree (NoPlan fault) = ⊥
ValueError contexts tree (NoEntry n) = ⊥
ValueError contexts tree (Refused n fault) = ⊥
ValueError contexts tree Words = ⊥
ValueError contexts tree Io = ⊥
ValueError contexts tree Memory = Unit {0}

-- The value of a tree, or why there is none.
abbrev pub IsValue : Contexts → Expr → Result Plain CommandError → Type 0
IsValue contexts tree (Ok v) = evaluated contexts Success tree ≡ Ok v
IsValue contexts tree (Err error) = ValueError contexts tree error

-- A file gives no contexts.
abbrev pub ContextsError : List ℕ → List ℕ → CommandError → Type 0
ContextsError file bytes (NoContexts name fault) = (name ≡ file) × (file_contexts bytes ≡ Err fault)
ContextsError file bytes (NoExpression fault) = ⊥
ContextsError file bytes (NoValue fault) = ⊥
ContextsError file bytes (NoFlow name fault) = ⊥
ContextsError file bytes (NotPlanned fault) = ⊥
ContextsError file bytes (NoPlan fault) = ⊥
ContextsError file bytes (NoEntry n) = ⊥
ContextsError file bytes (Refused n fault) = ⊥
ContextsError file bytes Words = ⊥
ContextsError file bytes Io = ⊥
ContextsError file bytes Memory = Unit {0}

-- The contexts of a file, or why there are none.
abbrev pub HasContexts : List ℕ → List ℕ → Result Contexts CommandError → Type 0
HasContexts file bytes (Ok contexts) = file_contexts bytes ≡ Ok contexts
HasContexts file bytes (Err error) = ContextsError file bytes error

-- The line of a value, or why there is none.
abbrev pub GivesValue : List ℕ → List ℕ → List ℕ → Result (String Global) CommandError → Type 0
GivesValue file expression bytes result = OrMemory (answer_seen result) (IsEvalAnswer file expression bytes (answer_seen result))

-- A fault of an expression's text, or want of memory.
abbrev pub expression_error : ExprFault → CommandError
expression_error fault = if is_none (fault_at fault) then Memory else NoExpression fault
