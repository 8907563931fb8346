use Rattle.command_io.proofs.LineReading.{takes_ahead}
use Rattle.command_io.proofs.stream.BufReaderReadAhead.take_ahead.Goals as goal

pub returns : goal.returns
returns g c = takes_ahead g.R.Read.remaining c.args.self.now c.consume.new.self c.args.count c.consume.ensures.buffer c.consume.ensures.inner c.consume.ensures.capacity
