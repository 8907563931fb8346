use Rattle.std.proofs.Common.{◌≡◌, ◌++◌}
use Rattle.status_table.specs.Words.{pairs_of}
use Rattle.command_run.specs.PlanMasks.{secret_masks}
use Rattle.command_run.proofs.plan_masks.add_secrets.Given as goal

-- the masks so far and those of the secrets that are left are all
abbrev pub invariant-loop-secret : goal.invariant-loop-secret
invariant-loop-secret l = l.masks ++ secret_masks (pairs_of l.secret-iterator) ≡ l.fn.masks ++ secret_masks l.secrets
