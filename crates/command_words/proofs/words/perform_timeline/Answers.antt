use Rattle.std.proofs.Common.{inl}
use Rattle.command_words.proofs.words.perform_timeline.Goals as goal

pub returns : goal.returns
returns g c = inl (_, _, c.timeline.ensures)
