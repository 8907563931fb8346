use Rattle.std.proofs.Common.{◌≡◌, ℕ, List, length}
use Rattle.serde_json.specs.Data.{Data, no_members}
use Rattle.plan_documents.specs.Fields.{put_each}
use Rattle.plan_documents.specs.Parts.{pair_members}
use Rattle.plan_text.specs.Spelled.{SpellMembers}
use Rattle.plan_text.proofs.tokens.MappingFromTokens.from_tokens.Given as goal

abbrev pub invariant-loop-token : goal.invariant-loop-token
invariant-loop-token g l =
    (ps : List (List ℕ × Data)) × SpellMembers g.V.FromTokens.levels l.fn.reader ps l.reader × (put_each ps no_members ≡ pair_members g.V.FromTokens.document l.pairs)

abbrev pub decreases-loop-token : goal.decreases-loop-token
decreases-loop-token g l = length l.reader
