use Rattle.std.proofs.Common.{◌∙◌, Option, ap, sym}
use Rattle.status_table.specs.Words.{LegPlace, leg_there, ◌>>=◌}
use Rattle.debugger.proofs.Legs.{leg-found}
use Rattle.debugger.proofs.looks.numbered_leg.Goals as goal

pub returns-in-Some : goal.returns-in-Some
returns-in-Some c =
    let b = c.args.board.now in
    c.leg_there.ensures ∙ ap (λ (o : Option LegPlace). o >>= leg_there b) (sym c.in-Some.is ∙ c.place_at.ensures)
    ∙ leg-found b c.args.places.now c.args.number c.requires

pub returns-in-None : goal.returns-in-None
returns-in-None c =
    let b = c.args.board.now in
    ap (λ (o : Option LegPlace). o >>= leg_there b) (sym c.in-None.is ∙ c.place_at.ensures)
    ∙ leg-found b c.args.places.now c.args.number c.requires
