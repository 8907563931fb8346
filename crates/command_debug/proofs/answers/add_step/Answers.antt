use Rattle.debugger.specs.Session.{next_place}
use Rattle.command_debug.proofs.Debugged.{adds_move}
use Rattle.command_debug.proofs.answers.add_step.Goals as goal

pub returns-clause-adds : goal.returns-clause-adds
returns-clause-adds g c =
    adds_move c.args.debugger.now c.step.new.self c.args.told.now c.add_move.new.told (next_place c.args.debugger.now) c.step.result c.last_place-last.result c.add_move.result
    c.last_place-last.ensures c.step.ensures c.add_move.ensures.is c.add_move.ensures.adds
