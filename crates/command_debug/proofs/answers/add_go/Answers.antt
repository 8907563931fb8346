use Rattle.debugger.specs.Session.{GoesOn}
use Rattle.command_debug.proofs.Debugged.{adds_go}
use Rattle.command_debug.proofs.answers.add_go.Goals as goal

pub returns-clause-adds : goal.returns-clause-adds
returns-clause-adds g c =
    adds_go c.args.debugger.now c.go.new.self c.args.told.now c.add_move.new.told GoesOn c.go.result c.last_place-last.result c.add_move.result
    c.last_place-last.ensures c.go.ensures c.add_move.ensures.is c.add_move.ensures.adds
