use Rattle.command_io.proofs.InRange.{legal_in_range}
use Rattle.command_io.proofs.laws.legal_entries_are_in_range.Goals as goal

pub returns : goal.returns
returns c = λ p rules es b h. legal_in_range p es b ((c.rules_hold.ensures p).0 rules) h
