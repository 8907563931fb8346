use Rattle.std.proofs.Common.{◌++◌, List, filter, ap, ◌∙◌}
use Rattle.std.proofs.lemmas.Result.{IfOk-weaker}
use Rattle.flat_board.specs.Words.{Event, MoveKind, accepts, events_of}
use Rattle.flat_board.proofs.FirstMove.{kind_by_kind}
use Rattle.flat_board.proofs.moves.find_moves.Goals as goal

pub returns : goal.returns
returns c =
    let b = c.args.state.now.board in
    let t = accepts c.args.state.now.plan b in
    let n = c.count_all-counts.result.runs in
    let j = c.count_all-counts.result.jobs in
    let l = c.count_all-counts.result.legs in
    let closed = c.in_ok-closed.ensures ∙ ap (λ (xs : List Event). xs ++ filter t (events_of MoveKind.Close n)) c.new.ensures.items in
    let opened = c.in_ok-opened.ensures ∙ ap (λ (xs : List Event). xs ++ filter t (events_of MoveKind.Open n)) closed in
    let judged = c.in_ok-judged.ensures ∙ ap (λ (xs : List Event). xs ++ filter t (events_of MoveKind.Judge j)) opened in
    let dropped = c.in_ok-dropped.ensures ∙ ap (λ (xs : List Event). xs ++ filter t (events_of MoveKind.Drop l)) judged in
    IfOk-weaker c.add_moves-5.result _ _ (λ all h.
    h ∙ ap (λ (xs : List Event). xs ++ filter t (events_of MoveKind.Ask l)) dropped
    ∙ kind_by_kind t b n j l c.count_all-counts.ensures.runs c.count_all-counts.ensures.jobs c.count_all-counts.ensures.legs)
    c.add_moves-5.ensures
