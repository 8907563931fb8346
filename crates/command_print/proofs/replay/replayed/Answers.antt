use Rattle.std.proofs.Common.{ℕ, List, subst}
use Rattle.command_print.proofs.LookedAt.{looked_gives}
use Rattle.command_print.specs.Replay.{GivesBoard}
use Rattle.command_print.proofs.replay.replayed.Goals as goal

pub returns : goal.returns
returns c =
    subst (λ (text : List ℕ). GivesBoard text c.record_looked.result) c.as_slice.ensures.value
    (looked_gives c.as_slice.result.now c.record_looked.result c.record_looked.ensures)
