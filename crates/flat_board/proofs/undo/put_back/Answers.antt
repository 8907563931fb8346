use Rattle.std.proofs.Common.{◌≡◌, Some, List, ℕ, Option, sym, subst}
use Rattle.flat_board.specs.Words.{CellBack, EachOnce, content, group_at, groups_put_back, name_put_back}
use Rattle.flat_board.proofs.undo.put_back.Goals as goal

pub put_back-requires : goal.put_back-requires
put_back-requires c =
    let group : group_at c.args.state.now.board c.in-Some.cell.who ≡ Some c.in-Some-name_at.name.now = sym (rw c.in-Some-name_at.is at c.name_at.ensures) in
    subst (λ (g : Option (List ℕ)). EachOnce (content (name_put_back g c.in-Some.cell.held c.args.groups.now))) group
    (subst (λ (cell : Option CellBack). EachOnce (content (groups_put_back cell c.args.state.now.board c.args.groups.now))) c.in-Some.is c.requires)
