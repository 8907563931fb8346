use Rattle.std.proofs.Common.{◌≡◌, ℕ, List, drop}
use Rattle.std.specs.HashMap.{get_by_text}
use Rattle.std.specs.Option.{option_or}
use Rattle.plan_assembler.specs.Index.{first_place}
use Rattle.plan_assembler.specs.Layout.{ids_of}
use Rattle.plan_assembler.proofs.index.index_of.Given as goal

-- what the index has, and what the jobs that are left would add, is what all would
abbrev pub invariant-loop-place : goal.invariant-loop-place
invariant-loop-place l =
    (id : List ℕ) → option_or (get_by_text l.index id) (first_place l.place (ids_of (drop l.place l.jobs)) id) ≡ first_place 0 (ids_of l.jobs) id
