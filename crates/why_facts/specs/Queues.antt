-- What a member makes so that has to wait for its group: it waits, who waited before loses its place to it, and the holder is told
-- to stop by it, where that is wanted.
use Rattle.std.specs.Prelude.{◌++◌, Bool, true, false, List, [], ◌∷◌, Option, Some, None}
use Rattle.status_table.specs.Words.{Entrance, Member}
use Rattle.why_facts.specs.declared.fact.Change.{Change}
use Rattle.why_facts.specs.declared.fact.MemberFact.{MemberFact}
use Rattle.why_facts.specs.declared.fact.Teller.{Teller}

-- who waited, if somebody did, lost its place to a member
abbrev pub displaces : Member → Option Member → List Change
displaces m None = []
displaces m (Some waited) = Change.Member waited (MemberFact.Displaced m) ∷ []

-- the holder is told to stop by a member, where that is wanted
abbrev pub tells : Member → Bool → Member → List Change
tells m false holds = []
tells m true holds = Change.Stop holds (Teller.Newer m) ∷ []

-- what a member makes so that has to wait
abbrev pub queues : Member → Entrance → Member → Option Member → List Change
queues m group holds waited =
    Change.Member m (MemberFact.Waits holds) ∷ (displaces m waited ++ tells m group.cancel holds)
