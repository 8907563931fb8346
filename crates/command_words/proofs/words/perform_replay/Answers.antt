use Rattle.std.proofs.Common.{inl, inr}
use Rattle.command_words.proofs.words.perform_replay.Goals as goal

pub returns-in-Board : goal.returns-in-Board
returns-in-Board g c = inl (_, _, inl c.replay.ensures)

pub returns-in-Settled : goal.returns-in-Settled
returns-in-Settled g c = inl (_, _, inr (inl c.replay_settled.ensures))

pub returns : goal.returns
returns g c = inl (_, _, inr (inr c.replay_changes.ensures))
