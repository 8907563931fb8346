use Rattle.std.proofs.Common.{ap, sym, ◌∙◌}
use Rattle.status_table.specs.Words.{waiter}
use Rattle.status_table.specs.Groups.{waiter_of}
use Rattle.status_table.proofs.groups.waiter_of.Goals as goal

pub returns-in-Some : goal.returns-in-Some
returns-in-Some c =
    c.find_member.ensures ∙ ap (waiter c.args.board.now) c.as_str.ensures ∙ ap (waiter_of c.args.board.now) (sym c.in-Some.is)
