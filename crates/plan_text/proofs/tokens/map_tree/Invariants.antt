use Rattle.std.proofs.Common.{◌≡◌, ℕ, List, length}
use Rattle.serde_json.specs.Data.{Data, no_members}
use Rattle.serde_json.specs.View.{members_view}
use Rattle.plan_documents.specs.Fields.{put_each}
use Rattle.plan_text.specs.Spelled.{SpellMembers}
use Rattle.plan_text.proofs.tokens.map_tree.Given as goal

abbrev pub invariant-loop-token : goal.invariant-loop-token
invariant-loop-token l = (ps : List (List ℕ × Data)) × SpellMembers 99 l.fn.reader ps l.reader × (put_each ps no_members ≡ members_view l.trees.entries)

abbrev pub decreases-loop-token : goal.decreases-loop-token
decreases-loop-token l = length l.reader
