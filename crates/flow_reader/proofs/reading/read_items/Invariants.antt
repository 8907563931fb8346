use Rattle.std.proofs.Common.{◌≡◌, ◌++◌, drop}
use Rattle.serde_json.specs.View.{items_view}
use Rattle.flow_reader.specs.Checked.{made, items_checked}
use Rattle.flow_reader.proofs.reading.read_items.Given as goal

-- what was read, before what is left
abbrev pub invariant-loop-place : goal.invariant-loop-place
invariant-loop-place g l =
    made (λ xs. l.read ++ xs) (items_checked g.T.FromJson.reading l.place (items_view (drop l.place l.items))) ≡ items_checked g.T.FromJson.reading 0 (items_view l.items)
