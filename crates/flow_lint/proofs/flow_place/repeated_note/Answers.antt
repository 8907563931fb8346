use Rattle.std.proofs.Common.{inr}
use Rattle.std.proofs.lemmas.Result.{IfOk-weaker}
use Rattle.flow_lint.proofs.flow_place.repeated_note.Goals as goal

pub returns-in-None : goal.returns-in-None
returns-in-None c =
    IfOk-weaker c.noted_whole.result _ _ (λ note whole. (c.requires.none, inr (whole, c.in_ok-path.ensures.none c.in-None.is))) c.noted_whole.ensures
