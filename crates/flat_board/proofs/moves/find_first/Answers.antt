use Rattle.std.proofs.Common.{◌++◌, List, filter, slice_get, ap, ◌∙◌}
use Rattle.std.proofs.lemmas.Result.{IfOk-weaker}
use Rattle.flat_board.specs.Words.{Event, MoveKind, accepts, events_of}
use Rattle.flat_board.proofs.FirstMove.{kind_by_kind}
use Rattle.flat_board.proofs.moves.find_first.Goals as goal

pub returns : goal.returns
returns c =
    let b = c.args.state.now.board in
    let t = accepts c.args.state.now.plan b in
    let n = c.count_all-counts.result.runs in
    let j = c.count_all-counts.result.jobs in
    let l = c.count_all-counts.result.legs in
    let close : List Event = filter t (events_of MoveKind.Close n) in
    let open_too : List Event = close ++ filter t (events_of MoveKind.Open n) in
    let judge_too : List Event = open_too ++ filter t (events_of MoveKind.Judge j) in
    let drop_too : List Event = judge_too ++ filter t (events_of MoveKind.Drop l) in
    let opens = c.in_ok-opens.ensures close c.in_ok-closes.ensures in
    let judges = c.in_ok-judges.ensures open_too opens in
    let drops = c.in_ok-drops.ensures judge_too judges in
    IfOk-weaker c.first_or-4.result _ _ (λ first h.
    h ∙ ap (λ (xs : List Event). slice_get xs 0)
    (kind_by_kind t b n j l c.count_all-counts.ensures.runs c.count_all-counts.ensures.jobs c.count_all-counts.ensures.legs))
    (c.first_or-4.ensures drop_too drops)
