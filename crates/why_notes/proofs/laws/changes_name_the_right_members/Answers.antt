use Rattle.why_notes.proofs.Members.{changes_name_the_right_members}
use Rattle.why_notes.proofs.laws.changes_name_the_right_members.Goals as goal

pub returns : goal.returns
returns c = changes_name_the_right_members
