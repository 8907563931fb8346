-- The names of the debugger's refusals.
use Rattle.std.specs.Prelude.{ℕ, List, codes}
use Rattle.debugger.specs.declared.fault.DebugFault.{DebugFault}

-- the name under which a refusal is printed
abbrev pub debug_fault_name : DebugFault → List ℕ
debug_fault_name DebugFault.AtStart = codes "AtStart"
debug_fault_name DebugFault.AtEnd = codes "AtEnd"
debug_fault_name DebugFault.NoPlace = codes "NoPlace"
debug_fault_name DebugFault.NoBreak = codes "NoBreak"
debug_fault_name (DebugFault.BadRecord entry refusal) = codes "BadRecord"
debug_fault_name DebugFault.Memory = codes "Memory"
