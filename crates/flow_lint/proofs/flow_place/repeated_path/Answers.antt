use Rattle.std.proofs.Common.{◌∙◌, List, ℕ, ap, codes, decimal}
use Rattle.flow_lint.specs.Places.{below}
use Rattle.flow_lint.proofs.Standing.{is_repeated}
use Rattle.flow_lint.proofs.flow_place.repeated_path.Goals as goal

pub returns-in_ok-id_path-in-Some-clause-found : goal.returns-in_ok-id_path-in-Some-clause-found
returns-in_ok-id_path-in-Some-clause-found c =
    let found = c.in-Some.ensures in
    let id_behind = λ (front : List ℕ). below (below front (decimal c.in-Some.place)) (codes "id") in
    is_repeated _ _ _ c.args.name.now c.in-Some.place _ c.requires found.kind found.repeats
    (c.in_ok-id_path-in-Some.ensures ∙ ap id_behind c.as_str.ensures)
