use Rattle.debugger.specs.Session.{GoesBack}
use Rattle.command_debug.proofs.Debugged.{adds_go}
use Rattle.command_debug.proofs.answers.add_go_back.Goals as goal

pub returns-clause-adds : goal.returns-clause-adds
returns-clause-adds g c =
    adds_go c.args.debugger.now c.go_back.new.self c.args.told.now c.add_move.new.told GoesBack c.go_back.result c.last_place-last.result c.add_move.result
    c.last_place-last.ensures c.go_back.ensures c.add_move.ensures.is c.add_move.ensures.adds
