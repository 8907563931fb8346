use Rattle.std.proofs.Common.{inl, inr}
use Rattle.command_io.proofs.Told.{refused}
use Rattle.command_words.proofs.words.run_known.Goals as goal

pub returns-in-Err : goal.returns-in-Err
returns-in-Err g c = inr (inl (inr (refused _ _ _ _ _ c.refuse.ensures.line c.refuse.ensures.status)))
