use Rattle.command_io.proofs.Known.{cut_at_first, puts_more}
use Rattle.command_io.proofs.error.say_named.Goals as goal

pub returns-then-not-put_shown : goal.returns-then-not-put_shown
returns-then-not-put_shown g c = cut_at_first (g.S.Sink.seen c.args.err.now) _ _ _ c.if-not-put_shown.ensures

pub returns : goal.returns
returns g c = puts_more _ _ _ _ _ _ c.if-not-put_shown.ensures c.put_parts.ensures
