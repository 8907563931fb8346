use Rattle.std.proofs.Common.{length, sum_by, ap, ◌∙◌, arith}
use Rattle.flat_board.specs.Words.{Board, Run}
use Rattle.status_table.proofs.Accepting.{jobs_counted, legs_counted}
use Rattle.status_table.proofs.InPlay.{few_in_play, few_jobs_in_play}
use Rattle.flat_board.proofs.moves.count_all.Goals as goal

pub count_jobs-requires : goal.count_jobs-requires
count_jobs-requires c =
    let b = c.args.state.now.board in
    let same = ap (sum_by (λ (run : Run). length run.jobs)) (c.as_slice-runs.ensures ∙ ap (λ (x : Board). x.runs) c.board.ensures) in
    let counted = jobs_counted b in
    let few = few_jobs_in_play c.args.state.now.plan c.plan-plan.result.now b c.plan-plan.ensures.same c.plan-plan.ensures.rules c.requires in
    omega (arith, same, counted, few)

pub count_legs-requires : goal.count_legs-requires
count_legs-requires c =
    let b = c.args.state.now.board in
    let same = ap (sum_by (λ (run : Run). sum_by (λ job. length job.legs) run.jobs)) (c.as_slice-runs.ensures ∙ ap (λ (x : Board). x.runs) c.board.ensures) in
    let counted = legs_counted b in
    let few = few_in_play c.args.state.now.plan c.plan-plan.result.now b c.plan-plan.ensures.same c.plan-plan.ensures.rules c.requires in
    omega (arith, same, counted, few)
