-- The names of faults, as a program prints them.
use Rattle.std.specs.Prelude.{ℕ, List, codes}
use Rattle.flow_model.specs.declared.reply.ValueFault.{ValueFault}
use Rattle.flow_model.specs.declared.reply.ValueFault.TheVariants.{NotWhole, NoIdentity, BadFormat, BadJson, TooLarge, Memory}

-- the name of a fault of an evaluation
abbrev pub value_fault_name : ValueFault → List ℕ
value_fault_name NotWhole = codes "NotWhole"
value_fault_name NoIdentity = codes "NoIdentity"
value_fault_name BadFormat = codes "BadFormat"
value_fault_name BadJson = codes "BadJson"
value_fault_name TooLarge = codes "TooLarge"
value_fault_name Memory = codes "Memory"
