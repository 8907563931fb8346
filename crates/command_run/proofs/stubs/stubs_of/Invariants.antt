use Rattle.std.proofs.Common.{◌≡◌, []}
use Rattle.serde_json.specs.View.{members_view}
use Rattle.command_run.specs.Stubs.{stubs_with}
use Rattle.command_run.proofs.stubs.stubs_of.Given as goal

-- what is left leads from the stubs so far to what all members lead to
abbrev pub invariant-loop-key : goal.invariant-loop-key
invariant-loop-key l = stubs_with l.stubs (members_view l.key-iterator) ≡ stubs_with [] (members_view l.fn.members.entries)
