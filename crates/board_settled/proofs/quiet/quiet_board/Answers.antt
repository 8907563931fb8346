use Rattle.std.proofs.Common.{List, length, map, sum_by, ap, sym, ◌∙◌, arith}
use Rattle.board_settled.specs.Words.{Board, Leg, Run, filter, has_ended_at, numbers, quiet_run}
use Rattle.board_settled.proofs.Outputs.{legs_quiet}
use Rattle.status_table.proofs.Accepting.{legs_counted}
use Rattle.board_settled.proofs.quiet.quiet_board.Goals as goal

pub count_legs-count-requires : goal.count_legs-count-requires
count_legs-count-requires c =
    let counted = legs_counted c.args.board.now in
    let same = ap (sum_by (λ (run : Run). sum_by (λ job. length job.legs) run.jobs)) c.as_slice-runs.ensures in
    let few = c.requires in
    omega (arith, same, counted, few)

pub returns-clause-ends : goal.returns-clause-ends
returns-clause-ends c =
    let made : Board = record { runs = c.in_ok-quiet_runs.field-0; ends = c.in_ok-made.field-0 } in
    let slice = ap (λ (runs : List Run). sum_by (λ (run : Run). sum_by (λ job. length job.legs) run.jobs) runs) c.as_slice-runs.ensures in
    let count = c.count_legs-count.ensures ∙ slice ∙ sym (legs_counted c.args.board.now)
    ∙ sym (ap (λ (legs : List Leg). length legs) (legs_quiet c.args.board.now made (c.in_ok-quiet_runs.ensures ∙ ap (λ (runs : List Run). map quiet_run runs) c.as_slice-runs.ensures))) in
    c.in_ok-made.ensures ∙ ap (λ n. filter (has_ended_at made) (numbers n)) count
