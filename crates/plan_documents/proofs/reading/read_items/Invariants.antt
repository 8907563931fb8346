use Rattle.std.proofs.Common.{◌≡◌, ◌++◌, drop}
use Rattle.serde_json.specs.View.{items_view}
use Rattle.plan_documents.specs.Parts.{map_read, items_read}
use Rattle.plan_documents.proofs.reading.read_items.Given as goal

-- what was read, before what is left
abbrev pub invariant-loop-place : goal.invariant-loop-place
invariant-loop-place g l =
    map_read (λ xs. l.read ++ xs) (items_read g.T.FromJson.reading l.place (items_view (drop l.place l.items))) ≡ items_read g.T.FromJson.reading 0 (items_view l.items)
