-- The names of faults, as a program prints them.
use Rattle.std.specs.Prelude.{ℕ, List, ◌++◌, codes}
use Rattle.expr_reader.specs.Faults.{fault_text}
use Rattle.matrix_expand.specs.Faults.{matrix_fault_name}
use Rattle.plan_assembler.specs.declared.fault.PlanFault.{PlanFault}
use Rattle.plan_assembler.specs.declared.fault.PlanFault.TheVariants as fault

-- the name of a fault
abbrev pub plan_fault_name : PlanFault → List ℕ
plan_fault_name fault.UnknownNeed = codes "UnknownNeed"
plan_fault_name fault.Cycle = codes "Cycle"
plan_fault_name fault.UnknownJob = codes "UnknownJob"
plan_fault_name fault.NoWorkflow = codes "NoWorkflow"
plan_fault_name fault.TooMany = codes "TooMany"
plan_fault_name (fault.Expr at e) = codes "Expr"
plan_fault_name (fault.Matrix number e) = codes "Matrix"
plan_fault_name fault.Memory = codes "Memory"

-- what is shown of a fault: its name, and that of the fault inside with its place
abbrev pub plan_fault_text : PlanFault → List ℕ
plan_fault_text fault.UnknownNeed = codes "UnknownNeed"
plan_fault_text fault.Cycle = codes "Cycle"
plan_fault_text fault.UnknownJob = codes "UnknownJob"
plan_fault_text fault.NoWorkflow = codes "NoWorkflow"
plan_fault_text fault.TooMany = codes "TooMany"
plan_fault_text (fault.Expr at e) = codes "Expr " ++ fault_text e
plan_fault_text (fault.Matrix number e) = codes "Matrix " ++ matrix_fault_name e
plan_fault_text fault.Memory = codes "Memory"
