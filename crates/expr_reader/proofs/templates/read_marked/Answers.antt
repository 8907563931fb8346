-- What reading the pieces gives, in the words of the text's spelling.
use Rattle.std.proofs.Common.{sym, refl, arith}
use Rattle.expr_reader.specs.TemplateStands.{status}
use Rattle.expr_reader.specs.TemplateView.{pieces_of_vec}
use Rattle.expr_reader.proofs.Conditions.{pieces_spelled, template_found, template_same, template_no_status, template_only_memory, template_stands}
use Rattle.expr_reader.proofs.templates.read_marked.Goals as goal

pub returns-then-names_status-clause-only : goal.returns-then-names_status-clause-only
returns-then-names_status-clause-only c = λ ps spelled. absurd (template_no_status c.args.text.now (pieces_of_vec c.in-Ok.pieces) ps c.in-Ok.ensures (sym c.if-names_status.ensures) spelled)

pub returns-then-names_status-clause-stands : goal.returns-then-names_status-clause-stands
returns-then-names_status-clause-stands c = status (pieces_of_vec c.in-Ok.pieces) (pieces_spelled _ c.args.text.now (pieces_of_vec c.in-Ok.pieces) (omega arith) c.in-Ok.ensures) (sym c.if-names_status.ensures) refl

pub returns-else-names_status-clause-found : goal.returns-else-names_status-clause-found
returns-else-names_status-clause-found c = template_found c.args.text.now (pieces_of_vec c.in-Ok.pieces) (omega arith) c.in-Ok.ensures (sym c.if-names_status.ensures)

pub returns-else-names_status-clause-only : goal.returns-else-names_status-clause-only
returns-else-names_status-clause-only c = λ ps spelled. template_same c.args.text.now (pieces_of_vec c.in-Ok.pieces) ps c.in-Ok.ensures spelled

pub returns-in-Err-clause-only : goal.returns-in-Err-clause-only
returns-in-Err-clause-only c = λ ps spelled. template_only_memory c.args.text.now c.in-Err.fault ps c.in-Err.ensures spelled

pub returns-in-Err-clause-stands : goal.returns-in-Err-clause-stands
returns-in-Err-clause-stands c = template_stands c.args.text.now c.in-Err.fault c.in-Err.ensures
