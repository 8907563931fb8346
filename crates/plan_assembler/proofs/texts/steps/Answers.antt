use Rattle.plan_assembler.specs.Texts.{of_step}
use Rattle.plan_assembler.proofs.Readings.{each_stop}
use Rattle.plan_assembler.proofs.texts.steps.Goals as goal

pub returns-in-Err : goal.returns-in-Err
returns-in-Err c =
    rw (← c.as_slice-steps.ensures) (each_stop of_step c.as_slice-steps.result.now c.loop-item.item-index c.item-item.result c.in-Err.fault c.loop-item.invariant c.loop-item-test.true c.item-item.is c.in-Err.ensures)
