use Rattle.std.proofs.Common.{◌≡◌, ◌++◌, List, filter, length, sum_by, ap, sym, ◌∙◌, arith}
use Rattle.std.proofs.lemmas.Result.{IfOk-weaker}
use Rattle.status_table.specs.Words.{Event, Run, accepts, board_jobs, board_legs, events_of}
use Rattle.status_table.specs.declared.moves.MoveKind.{MoveKind}
use Rattle.status_table.proofs.Accepting.{in_order, jobs_counted, legs_counted}
use Rattle.status_table.proofs.moves.find_moves.Goals as goal

pub count_jobs-jobs-requires : goal.count_jobs-jobs-requires
count_jobs-jobs-requires c =
    let same = ap (sum_by (λ (run : Run). length run.jobs)) c.as_slice-runs.ensures in
    let counted = jobs_counted c.args.board.now in
    let few = c.requires.jobs in
    omega (arith, same, counted, few)

pub count_legs-legs-requires : goal.count_legs-legs-requires
count_legs-legs-requires c =
    let same = ap (sum_by (λ (run : Run). sum_by (λ job. length job.legs) run.jobs)) c.as_slice-runs.ensures in
    let counted = legs_counted c.args.board.now in
    let few = c.requires.legs in
    omega (arith, same, counted, few)

pub returns : goal.returns
returns c =
    let b = c.args.board.now in
    let t = accepts c.args.plan.now b in
    let n = length c.as_slice-runs.result.now in
    let j = c.count_jobs-jobs.result in
    let l = c.count_legs-legs.result in
    let n_is : n ≡ length b.runs = ap length c.as_slice-runs.ensures in
    let j_is : j ≡ length (board_jobs b) = c.count_jobs-jobs.ensures ∙ ap (sum_by (λ (run : Run). length run.jobs)) c.as_slice-runs.ensures ∙ sym (jobs_counted b) in
    let l_is : l ≡ length (board_legs b) =
    c.count_legs-legs.ensures ∙ ap (sum_by (λ (run : Run). sum_by (λ job. length job.legs) run.jobs)) c.as_slice-runs.ensures ∙ sym (legs_counted b) in
    let closed = c.in_ok-closed.ensures ∙ ap (λ (xs : List Event). xs ++ filter t (events_of MoveKind.Close n)) c.new.ensures.items in
    let opened = c.in_ok-opened.ensures ∙ ap (λ (xs : List Event). xs ++ filter t (events_of MoveKind.Open n)) closed in
    let judged = c.in_ok-judged.ensures ∙ ap (λ (xs : List Event). xs ++ filter t (events_of MoveKind.Judge j)) opened in
    let dropped = c.in_ok-dropped.ensures ∙ ap (λ (xs : List Event). xs ++ filter t (events_of MoveKind.Drop l)) judged in
    IfOk-weaker c.add_moves-5.result _ _ (λ all h.
    h ∙ ap (λ (xs : List Event). xs ++ filter t (events_of MoveKind.Ask l)) dropped
    ∙ in_order t (events_of MoveKind.Close n) (events_of MoveKind.Open n) (events_of MoveKind.Judge j) (events_of MoveKind.Drop l) (events_of MoveKind.Ask l)
    ∙ ap (λ m. filter t (events_of MoveKind.Close m ++ (events_of MoveKind.Open m ++ (events_of MoveKind.Judge j ++ (events_of MoveKind.Drop l ++ events_of MoveKind.Ask l))))) n_is
    ∙ ap (λ m. filter t (events_of MoveKind.Close (length b.runs) ++ (events_of MoveKind.Open (length b.runs) ++ (events_of MoveKind.Judge m ++ (events_of MoveKind.Drop l ++ events_of MoveKind.Ask l))))) j_is
    ∙ ap (λ m. filter t (events_of MoveKind.Close (length b.runs) ++ (events_of MoveKind.Open (length b.runs) ++ (events_of MoveKind.Judge (length (board_jobs b)) ++ (events_of MoveKind.Drop m ++ events_of MoveKind.Ask m))))) l_is)
    c.add_moves-5.ensures
