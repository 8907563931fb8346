-- What holds of both rows of a choice.
use Rattle.std.proofs.Common.{Bool, true, false, if◌then◌else◌}
use Rattle.status_table.specs.Words.{Row}

pub by_test : (C : Row → Type 0) (c : Bool) (r s : Row) → C r → C s → C (if c then r else s)
by_test C true r s first second = first
by_test C false r s first second = second
