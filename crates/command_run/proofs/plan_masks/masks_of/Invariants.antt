use Rattle.std.proofs.Common.{◌≡◌, flat_map, take}
use Rattle.command_run.specs.PlanMasks.{run_masks}
use Rattle.command_run.proofs.plan_masks.masks_of.Given as goal

-- the masks of the runs so far are there
abbrev pub invariant-loop-run : goal.invariant-loop-run
invariant-loop-run l = l.masks ≡ flat_map run_masks (take l.run-index l.runs)
