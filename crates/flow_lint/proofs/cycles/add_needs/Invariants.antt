use Rattle.std.proofs.Common.{◌≡◌, ◌++◌, drop, map, string_bytes}
use Rattle.flow_lint.specs.Cycles.{id_at, needs_text}
use Rattle.flow_lint.proofs.cycles.add_needs.Given as goal

abbrev pub invariant-loop-way : goal.invariant-loop-way
invariant-loop-way l =
    string_bytes l.text ++ needs_text (map (id_at l.jobs) (drop l.way-index l.ways)) (id_at l.jobs l.place)
    ≡ string_bytes l.fn.text ++ needs_text (map (id_at l.jobs) l.ways) (id_at l.jobs l.place)
