use Rattle.std.proofs.Common.{◌+◌, arith}
use Rattle.std.specs.HashMap.{get_by_text}
use Rattle.plan_assembler.specs.Index.{Indexes, Notes}
use Rattle.plan_assembler.proofs.IdPlaces.{next_job, all_noted}
use Rattle.plan_assembler.proofs.index.index_of.Goals as goal

pub loop-place-preserved : goal.loop-place-preserved
unfolding Notes
loop-place-preserved c =
    next_job (get_by_text c.loop-place.index) (get_by_text c.note.new.index) c.as_slice-jobs.result.now c.index-jobs-place.result c.loop-place.place (c.loop-place.place + 1) (omega arith) c.loop-place-test.true c.index-jobs-place.is
    c.in_ok-note.ensures c.loop-place.invariant

pub returns : goal.returns
unfolding Indexes
returns c =
    rw (← c.as_slice-jobs.ensures) (all_noted (get_by_text c.loop-place.index) c.as_slice-jobs.result.now c.loop-place.place c.loop-place-test.false c.loop-place.invariant)
