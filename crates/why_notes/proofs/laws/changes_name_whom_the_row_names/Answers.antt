use Rattle.why_notes.proofs.Named.{changes_name_whom_the_row_names}
use Rattle.why_notes.proofs.laws.changes_name_whom_the_row_names.Goals as goal

pub returns : goal.returns
returns c = changes_name_whom_the_row_names
