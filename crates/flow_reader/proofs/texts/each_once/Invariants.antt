use Rattle.std.proofs.Common.{◌≡◌, ◌++◌, drop}
use Rattle.flow_reader.specs.Parts.{each_once}
use Rattle.flow_reader.proofs.texts.each_once.Given as goal

-- those so far, before those that are left
abbrev pub invariant-loop-place : goal.invariant-loop-place
invariant-loop-place l = l.once ++ each_once (drop l.place l.from) ≡ each_once l.from
