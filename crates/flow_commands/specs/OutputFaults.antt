-- The names of the faults of a file of outputs or of variables, as a program prints them.
use Rattle.std.specs.Prelude.{ℕ, List, codes}
use Rattle.flow_commands.specs.declared.output_fault.OutputFault.{OutputFault}
use Rattle.flow_commands.specs.declared.output_fault.OutputFault.TheVariants.{NotUtf8, NoName, OpenBlock, TooMany, Memory}

-- the name of a fault of such a file
abbrev pub output_fault_name : OutputFault → List ℕ
output_fault_name NotUtf8 = codes "NotUtf8"
output_fault_name NoName = codes "NoName"
output_fault_name OpenBlock = codes "OpenBlock"
output_fault_name TooMany = codes "TooMany"
output_fault_name Memory = codes "Memory"
