use Rattle.std.proofs.Common.{◌≤◌, List, length, ap, sym, ◌∙◌, arith}
use Rattle.std.proofs.Math.ListN.{drop_of_length-le}
use Rattle.board_counters.specs.Words.{JobPlan, all_noted}
use Rattle.board_counters.proofs.Depending.{noted_all}
use Rattle.board_counters.proofs.dependents.run_dependents.Goals as goal

pub returns : goal.returns
returns c =
    let test = c.loop-place-test.false in
    let past : length c.args.plans.now ≤ c.loop-place.place = omega (arith, test) in
    ap (λ (plans : List JobPlan). all_noted c.first_number-first.result c.loop-place.place plans c.loop-place.lists) (sym (drop_of_length-le c.args.plans.now past))
    ∙ c.loop-place.invariant
    ∙ (λ i. all_noted (c.first_number-first.ensures i) 0 c.args.plans.now (c.in_ok-lists.ensures i))
    ∙ noted_all c.args.plans.now c.args.jobs.now
