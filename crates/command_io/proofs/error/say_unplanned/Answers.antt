use Rattle.std.proofs.Common.{ap, sym, ◌∙◌, codes}
use Rattle.command_io.proofs.Told.{Puts-as}
use Rattle.command_io.proofs.PlanFaults.{plain_text, unread_is}
use Rattle.command_io.specs.CommandError.{name_line, unplanned_line, unread_line}
use Rattle.command_io.proofs.error.say_unplanned.Goals as goal

pub returns-in-Expr : goal.returns-in-Expr
returns-in-Expr g c =
    Puts-as _ _ _ _ _ c.say_unread.ensures
    (ap (λ name. unread_line name c.place.result) c.name.ensures ∙ ap (unread_line _) c.place.ensures ∙ unread_is c.in-Expr.field-0 c.in-Expr.inner ∙ sym (ap unplanned_line c.in-Expr.is))

pub returns-in-Matrix : goal.returns-in-Matrix
returns-in-Matrix g c = Puts-as _ _ _ _ _ c.say_name.ensures (ap (name_line (codes "plan Matrix")) c.name-in-Matrix.ensures ∙ sym (ap unplanned_line c.in-Matrix.is))

pub returns-in-UnknownNeed : goal.returns-in-UnknownNeed
returns-in-UnknownNeed g c =
    Puts-as _ _ _ _ _ c.say_name-in-UnknownNeed.ensures
    (ap (name_line (codes "plan")) (c.name-in-UnknownNeed.ensures ∙ plain_text c.args.fault c.in-UnknownNeed.is))
