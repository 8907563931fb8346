use Rattle.std.proofs.Common.{◌↔◌, ℕ, ◌+◌, ◌≤◌, List, Option, option_map, length, drop, ap, refl, subst, subst₂, sym, ◌∙◌, arith, rules}
use Rattle.board_settled.specs.Words.{AllZip, Run, RunComes, RunIsSettled, RunPlan, RunShape, run_seen, run_settled, runs_from, settled}
use Rattle.board_settled.proofs.Loops.{ends_here, goes_on}
use Rattle.board_settled.proofs.Runs.{left_run}
use Rattle.std.proofs.lemmas.List.{drop_all}
use Rattle.status_table.proofs.Lists.{zip-length}
use Rattle.board_settled.proofs.check.are_runs_settled.Goals as goal

pub returns-in-None : goal.returns-in-None
unfolding settled
returns-in-None g c = λ answers are.
    let at = run_seen c.in-Some.run' in
    let found = sym (ap (option_map run_seen) c.in-Some.is) ∙ c.find_run.ensures in
    let first = c.loop-number.first in
    ends_here (c.loop-number.invariant answers are) (left_run answers c.args.plan.now c.args.board.now first c.loop-number.number at found)
    (subst (λ (o : Option ℕ). RunComes first at.plan (run_settled answers first at.plan) at.run o) c.in-None.is (c.in_ok-next.ensures answers are))

pub loop-number-preserved : goal.loop-number-preserved
loop-number-preserved g c = λ answers are.
    let at = run_seen c.in-Some.run' in
    let found = sym (ap (option_map run_seen) c.in-Some.is) ∙ c.find_run.ensures in
    let first = c.loop-number.first in
    let r = c.loop-number.number in
    let plan = c.args.plan.now in
    let board = c.args.board.now in
    let comes = subst (λ (o : Option ℕ). RunComes first at.plan (run_settled answers first at.plan) at.run o) c.in-Some-2.is (c.in_ok-next.ensures answers are) in
    subst (λ n. AllZip RunIsSettled (runs_from answers n (drop (r + 1) plan.runs)) (drop (r + 1) board.runs) ↔ AllZip RunIsSettled (runs_from answers 0 plan.runs) board.runs) (sym comes.1)
    (goes_on (c.loop-number.invariant answers are) (left_run answers plan board first r at found) comes.0)

pub returns : goal.returns
unfolding settled
returns g c = λ answers are.
    let r = c.loop-number.number in
    let through : length c.args.board.now.runs ≤ r = search rules in
    let size = zip-length RunShape c.args.plan.now.runs c.args.board.now.runs c.requires.shape in
    let plans = drop_all r c.args.plan.now.runs (omega (arith, size, through)) in (
      (λ _. (c.loop-number.invariant answers are).0 (subst₂ (λ (xs : List RunPlan) (ys : List Run). AllZip RunIsSettled (runs_from answers c.loop-number.first xs) ys)
          (sym plans) (sym (drop_all r c.args.board.now.runs through)) tt)),
      (λ _. refl),
    )
