use Rattle.flow_model.proofs.Nodes.{view-Map}
use Rattle.matrix_expand.proofs.same.+same.Goals as goal

pub is_same-returns-in-Map-Map : goal.is_same-returns-in-Map-Map
is_same-returns-in-Map-Map t c =
    rw (c.in-Map-Map.is-0, c.in-Map-Map.is-1, view-Map c.in-Map-Map.a, view-Map c.in-Map-Map.b) c.same_members.ensures
