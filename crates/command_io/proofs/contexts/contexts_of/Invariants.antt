use Rattle.std.proofs.Common.{◌≡◌, []}
use Rattle.serde_json.specs.View.{members_view}
use Rattle.command_io.specs.Contexts.{contexts_with}
use Rattle.command_io.proofs.contexts.contexts_of.Given as goal

-- what is left leads from the contexts so far to what all members lead to
abbrev pub invariant-loop-key : goal.invariant-loop-key
invariant-loop-key l = contexts_with l.contexts (members_view l.key-iterator) ≡ contexts_with [] (members_view l.fn.members.entries)
