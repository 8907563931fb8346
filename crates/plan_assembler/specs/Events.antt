-- The names of the events that workflows name.
use Rattle.std.specs.Prelude.{◌≡◌, ℕ, Bool, List, [], ◌∷◌}
use Rattle.std.specs.Cmp.Lexicographic.{slice_cmp}
use Rattle.std.specs.List.{list_any}
use Rattle.std.specs.List.Sorted.{IsStrictlySortedBy}
use Rattle.std.specs.Ordering.{nat_cmp}
use Rattle.flow_model.specs.Mapping.{with_pair}
use Rattle.flow_model.specs.declared.flow.Workflow.{Workflow}
use Rattle.plan_assembler.specs.Layout.{is_one_of}

-- one of the workflows names this event
abbrev pub is_named : List Workflow → List ℕ → Bool
is_named ws name = list_any (λ w. is_one_of w.events name) ws

-- These are the names of the events: each is above those before it in byte order, so none stands twice, and a text is one
-- of them exactly where a workflow names it.
pub record AreEvents (ws : List Workflow) (names : List (List ℕ)) : Type 0 where
  pub in_order : IsStrictlySortedBy (slice_cmp nat_cmp) names
  pub named : (name : List ℕ) → is_one_of names name ≡ is_named ws name

-- ---- for this crate's own use

-- names, each with nothing beside it
abbrev pub Marked : Type 0
Marked = List (List ℕ × Unit {0})

-- with these names
abbrev pub with_names : List (List ℕ) → Marked → Marked
with_names [] marked = marked
with_names (name ∷ names) marked = with_names names (with_pair name tt marked)

-- with the events of these workflows
abbrev pub with_events : List Workflow → Marked → Marked
with_events [] marked = marked
with_events (w ∷ ws) marked = with_events ws (with_names w.events marked)
