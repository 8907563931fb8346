use Rattle.debugger.specs.Session.{asked_place}
use Rattle.command_debug.proofs.Debugged.{adds_move}
use Rattle.command_debug.proofs.answers.add_goto.Goals as goal

pub returns-clause-adds : goal.returns-clause-adds
returns-clause-adds g c =
    adds_move c.args.debugger.now c.goto.new.self c.args.told.now c.add_move.new.told (asked_place c.args.debugger.now c.args.place) c.goto.result c.last_place-last.result
    c.add_move.result c.last_place-last.ensures c.goto.ensures.moves c.add_move.ensures.is c.add_move.ensures.adds
