-- The faults of reading a workflow, by name and by place.
use Rattle.std.specs.Prelude.{ℕ, List, [], ◌∷◌, ◌++◌, codes}
use Rattle.flow_reader.specs.declared.fault.FlowFault.{FlowFault}
use Rattle.flow_reader.specs.declared.fault.FlowFault.TheVariants.{NotJson, NotWhole, Missing, WrongShape, BadId, LeftOut, UnknownShell, Memory}

-- the name of a fault, as it is printed
abbrev pub flow_fault_name : FlowFault → List ℕ
flow_fault_name NotJson = codes "NotJson"
flow_fault_name NotWhole = codes "NotWhole"
flow_fault_name (Missing key) = codes "Missing"
flow_fault_name (WrongShape path) = codes "WrongShape"
flow_fault_name (BadId name) = codes "BadId"
flow_fault_name (LeftOut key) = codes "LeftOut"
flow_fault_name UnknownShell = codes "UnknownShell"
flow_fault_name Memory = codes "Memory"

-- the path of what stands at the key or place, and there at the path
abbrev pub joined : List ℕ → List ℕ → List ℕ
joined key [] = key
joined key (c ∷ path) = key ++ (codes "." ++ (c ∷ path))

-- a fault in a part, seen from the whole that has the part at this key: its path begins there
abbrev pub at_key : List ℕ → FlowFault → FlowFault
at_key key NotJson = NotJson
at_key key NotWhole = NotWhole
at_key key (Missing missed) = Missing missed
at_key key (WrongShape path) = WrongShape (joined key path)
at_key key (BadId name) = BadId name
at_key key (LeftOut left) = LeftOut left
at_key key UnknownShell = UnknownShell
at_key key Memory = Memory
