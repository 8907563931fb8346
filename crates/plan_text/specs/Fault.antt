-- The names of the faults of loading.
use Rattle.std.specs.Prelude.{ℕ, List, codes}
use Rattle.plan_text.specs.declared.fault.LoadFault.{LoadFault}
use Rattle.plan_text.specs.declared.fault.LoadFault.TheVariants.{NotJson, Version, NotPlan, NotEntry, Memory}

-- the name of a fault, as it is printed
abbrev pub load_fault_name : LoadFault → List ℕ
load_fault_name NotJson = codes "NotJson"
load_fault_name Version = codes "Version"
load_fault_name (NotPlan path) = codes "NotPlan"
load_fault_name (NotEntry line) = codes "NotEntry"
load_fault_name Memory = codes "Memory"
