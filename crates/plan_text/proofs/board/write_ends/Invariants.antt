use Rattle.std.proofs.Common.{◌≡◌, ◌++◌, string_bytes, take, codes, decimal}
use Rattle.std.specs.List.{flat_map}
use Rattle.plan_text.proofs.board.write_ends.Given as goal

abbrev pub invariant-loop-leg : goal.invariant-loop-leg
invariant-loop-leg l = string_bytes l.text ≡ string_bytes l.initial.text ++ flat_map (λ leg. codes " " ++ decimal leg) (take l.leg-index l.ends)
