-- Why a play goes no further.
use Rattle.std.specs.Prelude.{List}
use Rattle.status_table.specs.Words.{Entry}
use Rattle.step_host.specs.declared.fault.HostFault.{HostFault}
use Rattle.worker_pool.specs.declared.fault.PoolFault.{PoolFault}
use Rattle.worker_pool.specs.declared.stop.PoolStop.{PoolStop}

-- the fault that it is, with the history
abbrev pub fault_after : PoolStop → List Entry → PoolFault
fault_after (PoolStop.NoAnswer l step) es = PoolFault.Host l step HostFault.NoAnswer es
fault_after PoolStop.Mismatch es = PoolFault.Mismatch es
fault_after PoolStop.Memory es = PoolFault.Memory es
