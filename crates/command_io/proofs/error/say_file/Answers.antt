use Rattle.command_io.proofs.Known.{cut_at_first, puts_more}
use Rattle.command_io.proofs.error.say_file.Goals as goal

pub returns-then-not-put : goal.returns-then-not-put
returns-then-not-put g c = cut_at_first (g.S.Sink.seen c.args.err.now) _ _ _ c.if-not-put.ensures

pub returns : goal.returns
returns g c = puts_more _ _ _ _ _ _ c.if-not-put.ensures c.say_named.ensures
