use Rattle.std.proofs.Common.{◌≡◌, true}
use Rattle.plan_assembler.specs.Layout.{ids_of, is_one_of}
use Rattle.plan_assembler.proofs.Places.{target_within}
use Rattle.plan_assembler.proofs.layout.taken_jobs.Goals as goal

pub chosen_for-requires-clause-within : goal.chosen_for-requires-clause-within
chosen_for-requires-clause-within c =
    let known : is_one_of (ids_of c.args.jobs.now) c.in-Job.id ≡ true = rw c.in-Job.is at c.requires.taken in
    rw c.requires.graph (target_within c.args.jobs.now c.in-Job.id c.place_of.result known c.place_of.ensures)
