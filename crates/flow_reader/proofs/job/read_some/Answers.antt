use Rattle.std.proofs.Common.{sym, ◌∙◌, refl}
use Rattle.flow_reader.proofs.Faults.{stands_bad}
use Rattle.flow_reader.proofs.Jobs.{no_job, a_job}
use Rattle.flow_reader.proofs.job.read_some.Goals as goal

pub returns-then-has_none : goal.returns-then-has_none
returns-then-has_none c = rw (no_job c.args.members.now.entries (sym c.has_none.ensures ∙ c.if-has_none.true)) (stands_bad _ _ _ refl c.wrong_shape.ensures)

pub returns : goal.returns
returns c = rw (a_job c.args.members.now.entries (sym c.has_none.ensures ∙ c.if-has_none.false)) c.read_each.ensures
