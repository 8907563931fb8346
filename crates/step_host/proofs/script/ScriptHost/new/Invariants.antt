use Rattle.std.proofs.Common.{◌≡◌, ◌++◌, length}
use Rattle.std.specs.Vec.Iter.{into_iter_items, into_iter_len}
use Rattle.step_host.proofs.Kept.{Keeping}
use Rattle.step_host.proofs.script.ScriptHost.new.Given as goal

-- the lines so far are kept, and those that are left come after them
abbrev pub invariant-loop-line : goal.invariant-loop-line
invariant-loop-line l =
    Keeping l.yielded l.answers.entries × (l.yielded ++ into_iter_items l.line-iterator ≡ l.fn.lines.items)
    × (into_iter_len l.line-iterator ≡ length (into_iter_items l.line-iterator))
