use Rattle.std.proofs.Common.{◌↔◌, IsTrue, List, refl, subst, subst₂, sym}
use Rattle.board_settled.specs.Words.{AllZip, IsQuiet, Plan, Run, RunIsSettled, settled}
use Rattle.std.proofs.lemmas.Result.{IfOk-weaker}
use Rattle.board_settled.proofs.Loops.{through}
use Rattle.board_settled.proofs.Runs.{is_quiet, quiet_settled, zip-quiet}
use Rattle.status_table.proofs.InPlay.{few_in_play}
use Rattle.board_settled.proofs.check.is_settled.Goals as goal

pub quiet_board-requires : goal.quiet_board-requires
quiet_board-requires g c =
    few_in_play c.args.plan.now c.args.plan.now c.args.board.now refl ((c.rules_hold.ensures c.args.plan.now).0 c.requires.rules) c.requires

pub are_runs_settled-requires-after_bounds : goal.are_runs_settled-requires-after_bounds
are_runs_settled-requires-after_bounds g c κs within =
    let made = c.in_ok-quiet.ensures in
    subst (λ (p : Plan). IsQuiet p c.in_ok-quiet.quiet) (sym c.plan.ensures.same) (is_quiet c.args.plan.now c.args.board.now c.in_ok-quiet.quiet c.requires made.runs made.ends)

pub returns : goal.returns
returns g c =
    IfOk-weaker c.are_runs_settled.result _ _ (λ yes h answers are.
    through (subst₂ (λ (p : Plan) (rs : List Run). IsTrue yes ↔ AllZip RunIsSettled (settled p answers) rs) c.plan.ensures.same c.in_ok-quiet.ensures.runs (h answers are))
    (zip-quiet RunIsSettled quiet_settled (settled c.args.plan.now answers) c.args.board.now.runs)) c.are_runs_settled.ensures
