-- The names of faults, as a program prints them.
use Rattle.std.specs.Prelude.{ℕ, List, codes}
use Rattle.matrix_expand.specs.declared.fault.MatrixFault.{MatrixFault}
use Rattle.matrix_expand.specs.declared.fault.MatrixFault.TheVariants.{EmptyVariable, NoCombination, TooMany, Memory}

-- the name of a fault of a matrix
abbrev pub matrix_fault_name : MatrixFault → List ℕ
matrix_fault_name EmptyVariable = codes "EmptyVariable"
matrix_fault_name NoCombination = codes "NoCombination"
matrix_fault_name TooMany = codes "TooMany"
matrix_fault_name Memory = codes "Memory"
