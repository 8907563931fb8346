use Rattle.std.proofs.lemmas.Result.{err_from_is_err_and}
use Rattle.status_table.specs.Words.{beginning, leg_seen}
use Rattle.status_table.proofs.WithoutReply.{refused_unasked}
use Rattle.status_table.proofs.unasked.beginning_unasked.Goals as goal

pub returns-in_err-step : goal.returns-in_err-step
returns-in_err-step c =
    let p = err_from_is_err_and c.from_residual.result c.from_residual.ensures.1 in
    rw (p.1, p.2) (refused_unasked (beginning c.args.worker c.args.number (leg_seen c.args.at.now)) c.in_err-step.field-0.0 (c.in_err-step.ensures.decides c.args.number))
