use Rattle.command_debug.proofs.Debugged.{adds_asked, adds_unknown}
use Rattle.command_debug.proofs.answers.add_line.Goals as goal

pub returns-in-Some-clause-adds : goal.returns-in-Some-clause-adds
returns-in-Some-clause-adds g c =
    adds_asked c.args.debugger.now c.add_request.new.debugger c.args.told.now c.add_request.new.told c.args.line.now c.in-Some.request c.add_request.result
    c.in-Some.ensures c.add_request.ensures.adds

pub returns-in-None-clause-adds : goal.returns-in-None-clause-adds
returns-in-None-clause-adds g c =
    adds_unknown c.args.debugger.now c.args.told.now c.add_unknown.new.told c.args.line.now c.add_unknown.result c.in-None.ensures c.add_unknown.ensures.adds
