use Rattle.debugger.specs.Session.{previous_place}
use Rattle.command_debug.proofs.Debugged.{adds_moved}
use Rattle.command_debug.proofs.answers.add_back.Goals as goal

pub returns-clause-adds : goal.returns-clause-adds
returns-clause-adds g c =
    adds_moved c.args.debugger.now c.back.new.self c.args.told.now c.add_move.new.told (previous_place c.args.debugger.now) c.back.result c.last_place-last.result
    c.add_move.result c.last_place-last.ensures c.back.ensures c.add_move.ensures.adds
