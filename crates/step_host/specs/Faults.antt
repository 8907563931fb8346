-- The names of faults, as a program prints them.
use Rattle.std.specs.Prelude.{ℕ, List, codes}
use Rattle.step_host.specs.declared.fault.HostFault.{HostFault}
use Rattle.step_host.specs.declared.fault.HostFault.TheVariants.{NoAnswer, Memory}

-- the name of a fault of a host
abbrev pub host_fault_name : HostFault → List ℕ
host_fault_name NoAnswer = codes "NoAnswer"
host_fault_name Memory = codes "Memory"
