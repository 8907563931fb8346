use Rattle.std.proofs.Common.{refl}
use Rattle.command_io.proofs.LineReading.{takes_ready}
use Rattle.command_io.proofs.stream.InputLineSource.pass_line.Goals as goal

pub returns-clause-takes : goal.returns-clause-takes
returns-clause-takes g c = (
  takes_ready (g.R.Read.remaining c.args.self.now.reader) (g.R.Read.remaining c.take_ahead.new.self) (g.R.ReadAhead.bytes_ahead c.args.self.now.reader) c.args.count
      c.requires.ends c.take_ahead.ensures,
  refl,
)
