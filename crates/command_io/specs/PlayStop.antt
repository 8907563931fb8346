-- Why a play stopped before its end: the line that tells it, and its exit status.
use Rattle.std.specs.Prelude.{◌≡◌, ℕ, codes, List}
use Rattle.command_io.specs.Stream.{Stream}
use Rattle.command_io.specs.Tell.{Says}
use Rattle.command_io.specs.CommandError.{line, name_line}
use Rattle.command_io.specs.declared.stop.PlayStop.{PlayStop}
use Rattle.command_io.specs.declared.stop.PlayStop.TheVariants.{Workers, Host, Mismatch, Memory}
use Rattle.command_io.specs.declared.error.CommandError.{CommandError}

-- The line that tells why a play stopped, and its exit status.
abbrev pub stop_line : PlayStop → List ℕ
stop_line Workers = name_line (codes "pool") (codes "Workers")
stop_line Host = name_line (codes "pool") (codes "Host")
stop_line Mismatch = name_line (codes "pool") (codes "Mismatch")
stop_line Memory = line CommandError.Memory

abbrev pub stop_status : PlayStop → ℕ
stop_status Workers = 2
stop_status Host = 3
stop_status Mismatch = 2
stop_status Memory = 3

-- That line on err, and that status.
abbrev pub SaysStop : PlayStop → Stream → Stream → ℕ → Type 0
SaysStop stop err err' status = Says err err' (stop_line stop) × (status ≡ stop_status stop)
