use Rattle.plan_assembler.specs.declared.choice.Choice.TheVariants.{All}
use Rattle.command_io.specs.Files.{no_contexts}
use Rattle.command_print.proofs.OneAnswer.{same_plan, same_listing}
use Rattle.command_print.proofs.list.one_listing.Goals as goal

pub returns : goal.returns
returns c = λ flows a b x y.
    same_listing c.one_staging.ensures x.0 y.0 a b (same_plan c.one_plan.ensures All no_contexts flows x.0 y.0 x.1 y.1) x.2 y.2
