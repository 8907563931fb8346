use Rattle.std.proofs.Common.{◌≡◌, ◌++◌, drop}
use Rattle.why_notes.specs.Account.{account_seen}
use Rattle.command_why.specs.Parts.{leg_parts}
use Rattle.command_why.proofs.parts.add_legs.Given as goal

abbrev pub invariant-loop-number : goal.invariant-loop-number
invariant-loop-number l =
    l.out.items ++ leg_parts (account_seen l.account) l.number (drop l.number l.legs)
    ≡ l.initial.out.items ++ leg_parts (account_seen l.account) 0 l.legs
