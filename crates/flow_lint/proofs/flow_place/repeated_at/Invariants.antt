use Rattle.serde_json.specs.View.{view}
use Rattle.flow_lint.proofs.Seen.{IsFirst}
use Rattle.flow_lint.proofs.flow_place.repeated_at.Given as goal

abbrev pub invariant-loop-place : goal.invariant-loop-place
invariant-loop-place l = IsFirst (view l.steps) l.name l.place l.first
