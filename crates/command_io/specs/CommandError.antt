-- The errors of all commands: the line of each, and its exit status.
use Rattle.std.specs.Prelude.{◌≡◌, ℕ, ◌++◌, codes, decimal, List}
use Rattle.status_table.specs.Words.{event_fault_name, fault_name, fault_place, value_fault_name}
use Rattle.flow_reader.specs.Fault.{flow_fault_name}
use Rattle.plan_assembler.specs.Faults.{plan_fault_text}
use Rattle.plan_assembler.specs.declared.fault.PlanFault.{PlanFault}
use Rattle.plan_text.specs.Fault.{load_fault_name}
use Rattle.command_io.specs.Contexts.{contexts_fault_name}
use Rattle.command_io.specs.Pictures.{shown}
use Rattle.command_io.specs.declared.contexts.ContextsFault.{ContextsFault}
use Rattle.command_io.specs.declared.stream.SourceFault.{SourceFault}
use Rattle.command_io.specs.declared.error.CommandError.{CommandError}
use Rattle.command_io.specs.declared.error.CommandError.TheVariants.{NoExpression, NoValue, NoContexts, NoFlow, NotPlanned, NoPlan, NoEntry, Refused, Words, Io, Memory}

-- The lines that tell of a name: of that kind, at that place of an expression, of that file, whose name is shown so that it stands
-- in one line, and of the line of that number.
abbrev pub name_line : List ℕ → List ℕ → List ℕ
name_line kind name = codes "actrun: " ++ (kind ++ (codes " " ++ (name ++ codes "\n")))

abbrev pub placed_line : List ℕ → ℕ → List ℕ
placed_line name place = codes "actrun: expr " ++ (name ++ (codes " at " ++ (decimal place ++ codes "\n")))

abbrev pub named_rest : List ℕ → List ℕ → List ℕ
named_rest file name = shown file ++ (codes " " ++ (name ++ codes "\n"))

abbrev pub file_line : List ℕ → List ℕ → List ℕ
file_line file name = codes "actrun: flow " ++ named_rest file name

abbrev pub numbered_line : ℕ → List ℕ → List ℕ
numbered_line n name = codes "actrun: line " ++ (decimal n ++ (codes " " ++ (name ++ codes "\n")))

-- The line that tells why workflows come to no plan, by the name of the fault and what is inside it.
abbrev pub unplanned_line : PlanFault → List ℕ
unplanned_line fault = name_line (codes "plan") (plan_fault_text fault)

-- That of a text in a workflow, at that place of it.
abbrev pub unread_line : List ℕ → ℕ → List ℕ
unread_line name place = codes "actrun: plan Expr " ++ (name ++ (codes " at " ++ (decimal place ++ codes "\n")))

-- The one line that tells of an error.
abbrev pub line : CommandError → List ℕ
line (NoExpression fault) = placed_line (fault_name fault) (fault_place fault)
line (NoValue fault) = name_line (codes "value") (value_fault_name fault)
line (NoContexts file fault) = file_line file (contexts_fault_name fault)
line (NoFlow file fault) = file_line file (flow_fault_name fault)
line (NotPlanned fault) = unplanned_line fault
line (NoPlan fault) = name_line (codes "load") (load_fault_name fault)
line (NoEntry n) = numbered_line n (codes "NotEntry")
line (Refused n fault) = numbered_line n (event_fault_name fault)
line Words = codes "actrun: words\n"
line Io = codes "actrun: io\n"
line Memory = codes "actrun: memory\n"

-- The exit status of an error: 2 where words or texts are refused, 3 where memory, files or streams fail.
abbrev pub error_status : CommandError → ℕ
error_status (NoExpression fault) = 2
error_status (NoValue fault) = 2
error_status (NoContexts file fault) = 2
error_status (NoFlow file fault) = 2
error_status (NotPlanned fault) = 2
error_status (NoPlan fault) = 2
error_status (NoEntry n) = 2
error_status (Refused n fault) = 2
error_status Words = 2
error_status Io = 3
error_status Memory = 3

-- The error of a source that was not read to its end.
abbrev pub source_error : SourceFault → CommandError
source_error SourceFault.Failed = Io
source_error SourceFault.Memory = Memory

-- The fact holds, unless the error is want of memory.
abbrev pub UnlessMemory : CommandError → Type 0 → Type 0
UnlessMemory (NoExpression fault) fact = fact
UnlessMemory (NoValue fault) fact = fact
UnlessMemory (NoContexts file fault) fact = fact
UnlessMemory (NoFlow file fault) fact = fact
UnlessMemory (NotPlanned fault) fact = fact
UnlessMemory (NoPlan fault) fact = fact
UnlessMemory (NoEntry n) fact = fact
UnlessMemory (Refused n fault) fact = fact
UnlessMemory Words fact = fact
UnlessMemory Io fact = fact
UnlessMemory Memory fact = Unit {0}

-- That error with a file of that name, unless memory runs out.
abbrev pub IsContextsError : List ℕ → ContextsFault → CommandError → Type 0
IsContextsError file fault (NoContexts name named) = (name ≡ file) × (named ≡ fault)
IsContextsError file fault (NoExpression other) = ⊥
IsContextsError file fault (NoValue other) = ⊥
IsContextsError file fault (NoFlow name other) = ⊥
IsContextsError file fault (NotPlanned other) = ⊥
IsContextsError file fault (NoPlan other) = ⊥
IsContextsError file fault (NoEntry n) = ⊥
IsContextsError file fault (Refused n other) = ⊥
IsContextsError file fault Words = ⊥
IsContextsError file fault Io = ⊥
IsContextsError file fault Memory = Unit {0}
