use Rattle.std.proofs.Common.{inl, option_map}
use Rattle.command_words.proofs.words.perform_run.Goals as goal

pub returns : goal.returns
returns g c = inl (_, option_map (λ name. name.now) c.args.asked.words.work, _, _, _, _, _, c.run.ensures)
