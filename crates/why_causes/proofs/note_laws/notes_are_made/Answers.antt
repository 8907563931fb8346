use Rattle.why_causes.proofs.Noting.{notes_are_made}
use Rattle.why_causes.proofs.note_laws.notes_are_made.Goals as goal

pub returns : goal.returns
returns c = notes_are_made
