use Rattle.command_debug.proofs.Answering.{Going}
use Rattle.command_debug.proofs.session.gather_all.Given as goal

-- the lines so far were answered
abbrev pub invariant-loop-line : goal.invariant-loop-line
invariant-loop-line g l =
    Going l.fn.debugger (g.I.Source.seen l.fn.input) (g.O.Sink.seen l.fn.out) l.debugger (g.I.Source.seen l.input) (g.O.Sink.seen l.out) l.gathered

abbrev pub decreases-loop-line : goal.decreases-loop-line
decreases-loop-line g l = g.I.LineSource.turns_left l.input
