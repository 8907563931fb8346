use Rattle.command_why.proofs.Answered.{told_of}
use Rattle.command_why.proofs.why.play_told.Goals as goal

pub returns : goal.returns
returns c = λ entries leads. told_of c.args.wanted c.args.plan.now entries _ c.play_explained.result leads c.play_explained.ensures
