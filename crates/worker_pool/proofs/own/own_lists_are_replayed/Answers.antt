use Rattle.status_table.specs.Words.{Answer}
use Rattle.step_host.specs.Entries.{IsKept, kept_one}
use Rattle.worker_pool.proofs.Replays.{gives_boards}
use Rattle.worker_pool.proofs.own.own_lists_are_replayed.Goals as goal

pub returns : goal.returns
returns c =
    let kept = c.args.host.now.script.answers.entries in
    gives_boards (IsKept kept) (λ call. (answer : Answer) → IsKept kept call answer → ⊥) (kept_one kept) (λ call answer there no. no answer there)
