use Rattle.std.proofs.Common.{inl, inr}
use Rattle.command_io.proofs.Told.{refused}
use Rattle.command_io.specs.declared.error.CommandError.TheVariants.{Memory}
use Rattle.command_words.proofs.words.run_line.Goals as goal

pub returns-in-Err-collect-clause-tells : goal.returns-in-Err-collect-clause-tells
returns-in-Err-collect-clause-tells g c = inr (inl (inr (refused Memory _ _ _ _ c.refuse.ensures.line c.refuse.ensures.status)))
