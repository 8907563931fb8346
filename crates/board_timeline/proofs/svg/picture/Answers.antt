use Rattle.std.proofs.Common.{List, ℕ, subst, sym}
use Rattle.std.proofs.lemmas.Result.{IfOk-weaker}
use Rattle.board_timeline.proofs.TextLaws.{pictures_have_their_texts}
use Rattle.board_timeline.specs.Texts.{HasTextsOf}
use Rattle.board_timeline.proofs.svg.picture.Goals as goal

pub returns-clause-texts : goal.returns-clause-texts
returns-clause-texts c =
    let width = c.args.width in
    let height = c.args.height in
    let shapes = c.args.shapes.now in
    IfOk-weaker c.drawn.result _ _
    (λ text is. subst (λ (bytes : List ℕ). HasTextsOf width height shapes bytes) (sym is) (pictures_have_their_texts width height shapes)) c.drawn.ensures
